-- SPDX-License-Identifier: Apache-2.0
use Rattle.cedar_streams.proofs.InOrder.{in_order}
use Rattle.cedar_listing.proofs.TypeTexts.{Writes-at, shadows_entity_text-parts}
use Rattle.cedar_listing.proofs.warnings.write_shadows_entity.Goals as goal

pub returns-in_err-write_str : goal.returns-in_err-write_str
returns-in_err-write_str g c = Writes-at (shadows_entity_text-parts c.args.name.now) (search (in_order, c.in_err-write_str.ensures))

pub returns-in_err-write_str-2 : goal.returns-in_err-write_str-2
returns-in_err-write_str-2 g c = Writes-at (shadows_entity_text-parts c.args.name.now) (search (in_order, c.in_ok-write_str.ensures, c.in_err-write_str-2.ensures))

pub returns : goal.returns
returns g c = Writes-at (shadows_entity_text-parts c.args.name.now) (search (in_order, c.in_ok-write_str.ensures, c.in_ok-write_str-2.ensures, c.write_str-3.ensures))
