-- SPDX-License-Identifier: Apache-2.0
use Rattle.std.proofs.Common.{◌≡◌, None, ◌∙◌, subst}
use Rattle.std.proofs.lemmas.Result.{IfOk-weaker}
use Rattle.cedar_schema_error.specs.Told.{told}
use Rattle.cedar_sorting.specs.Orders.{IsOrder, Sorts}
use Rattle.cedar_sorting.specs.declared.sort.Sorting.TheVariants.{Order}
use Rattle.cedar_unfold.specs.Notes.{noted}
use Rattle.cedar_unfold.specs.Passing.{DefinitionsPass, DefinitionsRefuse, TellsSorting}
use Rattle.cedar_unfold.specs.Rows.{definition_rows}
use Rattle.cedar_unfold.specs.Tables.{by_name, names_of}
use Rattle.cedar_unfold.proofs.OrderedLemmas.{rows-same, rows-lead, definitions-pass, definitions-refuse}
use Rattle.cedar_unfold.proofs.UseLemmas.{refused-weaker}
use Rattle.cedar_unfold.proofs.all.ordered.Goals as goal

pub sort_positions-requires : goal.sort_positions-requires
sort_positions-requires g c = rows-lead g.T.TypeNode.written c.args.defs.now c.args.keys.now c.requires.keys c.requires.sorted c.args.extensions.now c.as_slice.result.now (c.as_slice.ensures.value ∙ c.in_ok-rows.ensures.rows)

pub returns-clause-order : goal.returns-clause-order
returns-clause-order g c =
    IfOk-weaker c.judged.result (λ order. (c.in_ok-sorting.sorting ≡ Order order) × (noted c.survey_definitions.new.fault ≡ None)) (λ order. IsOrder (definition_rows (by_name g.T.TypeNode.written c.args.defs.now)) order.items)
    (λ order is. subst (λ rs. IsOrder rs order.items) (rows-same g.T.TypeNode.written c.args.defs.now c.args.keys.now c.requires.keys c.requires.sorted c.args.extensions.now c.as_slice.result.now (c.as_slice.ensures.value ∙ c.in_ok-rows.ensures.rows)) (subst (Sorts c.as_slice.result.now) is.0 c.in_ok-sorting.ensures).0)
    c.judged.ensures.order

pub returns-clause-passes : goal.returns-clause-passes
returns-clause-passes g c =
    IfOk-weaker c.judged.result (λ order. (c.in_ok-sorting.sorting ≡ Order order) × (noted c.survey_definitions.new.fault ≡ None)) (λ _. DefinitionsPass (by_name g.T.TypeNode.written c.args.defs.now) c.args.extensions.now)
    (λ order is. definitions-pass g.T.TypeNode.written c.args.defs.now c.args.keys.now c.requires.keys c.requires.sorted c.args.extensions.now c.as_slice.result.now (c.as_slice.ensures.value ∙ c.in_ok-rows.ensures.rows) (noted c.survey_definitions.new.fault) c.in_ok-rows.ensures.fault (subst (Sorts c.as_slice.result.now) is.0 c.in_ok-sorting.ensures).1 is.1)
    c.judged.ensures.order

pub returns-clause-refused : goal.returns-clause-refused
returns-clause-refused g c =
    refused-weaker c.judged.result (λ e. TellsSorting (names_of c.args.keys.now) c.in_ok-sorting.sorting (noted c.survey_definitions.new.fault) (told e)) (λ e. DefinitionsRefuse (by_name g.T.TypeNode.written c.args.defs.now) c.args.extensions.now (told e))
    (λ e tells. definitions-refuse g.T.TypeNode.written c.args.defs.now c.args.keys.now c.requires.keys c.requires.sorted c.args.extensions.now c.as_slice.result.now (c.as_slice.ensures.value ∙ c.in_ok-rows.ensures.rows) (noted c.survey_definitions.new.fault) c.in_ok-rows.ensures.fault c.in_ok-sorting.sorting c.in_ok-sorting.ensures (told e) tells)
    c.judged.ensures.refused
