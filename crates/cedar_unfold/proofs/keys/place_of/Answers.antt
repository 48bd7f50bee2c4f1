-- SPDX-License-Identifier: Apache-2.0
use Rattle.std.proofs.Common.{sym, ◌∙◌}
use Rattle.cedar_types.proofs.of_closure.PlaceLemmas.{place-found, place-missing, searchable}
use Rattle.cedar_names.specs.Components.{components}
use Rattle.cedar_names.specs.OrderLaws.{words-total}
use Rattle.cedar_unfold.proofs.NameTables.{place-names}
use Rattle.cedar_unfold.proofs.keys.place_of.Goals as goal

pub returns-in-Ok : goal.returns-in-Ok
returns-in-Ok c = sym (place-found (words-total components) c.args.keys.now c.args.name.now c.in-Ok.at c.requires c.in-Ok.ensures.bound (c.in-Ok.ensures.ok c.args.name.now)) ∙ place-names c.args.keys.now c.args.name.now

pub returns-in-Err : goal.returns-in-Err
returns-in-Err c =
    sym (place-missing (words-total components) c.args.keys.now c.args.name.now c.in-Err.field-0
    (c.in-Err.ensures.position (searchable (words-total components) c.args.keys.now c.args.name.now c.requires))) ∙ place-names c.args.keys.now c.args.name.now
