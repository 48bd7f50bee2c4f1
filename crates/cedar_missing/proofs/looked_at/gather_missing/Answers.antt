-- SPDX-License-Identifier: Apache-2.0
use Rattle.std.proofs.Common.{◌≡◌, ℕ, ◌+◌, List, ◌∷◌, drop, fold, sym, ap, ◌∙◌}
use Rattle.std.proofs.lemmas.List.{drop_more}
use Rattle.cedar_declared.specs.Held.{names_of}
use Rattle.cedar_declared.specs.of_definitions.declared.structures.ValidatorNamespaceDef.{ValidatorNamespaceDef}
use Rattle.cedar_fragment.specs.ActionUids.{over_conditional}
use Rattle.cedar_written.specs.declared.conditional_name.ConditionalName.{ConditionalName}
use Rattle.cedar_missing.specs.Undeclared.{joined, missing_in_definition, with_missing}
use Rattle.cedar_missing.specs.declared.missing.Missing.{Missing}
use Rattle.cedar_missing.proofs.looked_at.gather_missing.Goals as goal

pub loop-definition-preserved : goal.loop-definition-preserved
loop-definition-preserved c =
    let i : ℕ = c.loop-definition.definition-index in
    let all : List (ValidatorNamespaceDef ConditionalName ConditionalName over_conditional) = c.args.definitions.now in
    let missing : ValidatorNamespaceDef ConditionalName ConditionalName over_conditional → Missing = missing_in_definition (names_of c.args.all_defs.now) in
    let first : drop i all ≡ c.definition-item.result ∷ drop (i + 1) all =
    drop_more all i c.definition-item.result c.loop-definition-test.true ∙ ap (λ x. x ∷ drop (i + 1) all) (sym c.definition-item.is) in
    ap (λ m. fold (with_missing missing) m (drop (i + 1) all)) (c.in_ok-append.ensures ∙ ap (joined c.loop-definition.all) c.in_ok-missing.ensures)
    ∙ sym (ap (fold (with_missing missing) c.loop-definition.all) first) ∙ c.loop-definition.invariant
