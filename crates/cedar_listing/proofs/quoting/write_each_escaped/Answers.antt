-- SPDX-License-Identifier: Apache-2.0
use Rattle.std.proofs.Common.{refl}
use Rattle.std.proofs.lemmas.List.{drop_more}
use Rattle.cedar_streams.proofs.InLoop.{in_each, each-start}
use Rattle.cedar_listing.proofs.quoting.write_each_escaped.Goals as goal

pub loop-byte-init : goal.loop-byte-init
loop-byte-init g c = each-start _ refl

pub loop-byte-preserved : goal.loop-byte-preserved
loop-byte-preserved g c = search (in_each, drop_more _ _ 0 c.loop-byte-test.true, c.in_ok-write_byte.ensures)

pub returns-in_err-write_byte : goal.returns-in_err-write_byte
returns-in_err-write_byte g c = search (in_each, drop_more _ _ 0 c.loop-byte-test.true, c.in_err-write_byte.ensures)

pub returns : goal.returns
returns g c = search in_each
