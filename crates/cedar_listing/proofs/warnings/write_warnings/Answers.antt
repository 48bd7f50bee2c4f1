-- SPDX-License-Identifier: Apache-2.0
use Rattle.std.proofs.Common.{refl}
use Rattle.cedar_streams.proofs.InLoop.{in_each, each-start, item_at}
use Rattle.cedar_listing.proofs.warnings.write_warnings.Goals as goal

pub loop-warning-init : goal.loop-warning-init
loop-warning-init g c = each-start _ refl

pub loop-warning-preserved : goal.loop-warning-preserved
loop-warning-preserved g c = search (in_each, item_at _ _ _ c.loop-warning-test.true c.warning-item.is, c.in_ok-write_warning.ensures)

pub returns-in_err-write_warning : goal.returns-in_err-write_warning
returns-in_err-write_warning g c = search (in_each, item_at _ _ _ c.loop-warning-test.true c.warning-item.is, c.in_err-write_warning.ensures)

pub returns : goal.returns
returns g c = search in_each
