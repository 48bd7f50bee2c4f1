-- SPDX-License-Identifier: Apache-2.0
-- The type with which the parent of an action is found, by what comes of it.
use Rattle.std.proofs.Common.{◌≡◌, Option, Some, None, unwrap_or, refl, sym, ap, ◌∙◌, subst}
use Rattle.std.specs.Result.{result_ok}
use Rattle.std.specs.declared.result.Result.TheVariants.{Ok, Err}
use Rattle.cedar_data.specs.declared.memory.Failure.{Failure}
use Rattle.cedar_data.specs.declared.memory.Failure.TheVariants.{Refused}
use Rattle.cedar_declared.specs.Names.{Names}
use Rattle.cedar_declared.specs.Targets.{found_action, or_refused, parent_type, resolving, undeclared_action}
use Rattle.cedar_fragment.specs.ActionUids.{type_in}
use Rattle.cedar_names.specs.declared.internal_name.InternalName.{InternalName}
use Rattle.cedar_declared.specs.of_schema_error.declared.schema_error.SchemaError.{SchemaError}
use Rattle.cedar_written.specs.Answers.{Answers}
use Rattle.cedar_written.specs.Reference.{parent}
use Rattle.cedar_written.specs.declared.conditional_name.ConditionalName.{ConditionalName}
use Rattle.cedar_missing.specs.Undeclared.{Parent, found_parent}

found_by : {E : Type 0} (e : E) (o : Option InternalName) (n : InternalName) → or_refused e o ≡ Ok n → Some n ≡ o
found_by e None n is = let p : Err e ≡ Ok n = is in absurd (cc)
found_by e (Some m) n is = ap Some (sym (ap (λ r. unwrap_or (result_ok r) n) is))

missed_by : {E : Type 0} (e e' : E) (o : Option InternalName) → or_refused e o ≡ Err e' → None ≡ o
missed_by e e' None is = refl
missed_by e e' (Some m) is = let p : Ok m ≡ Err e' = is in absurd (cc)

module _ (names : Names) (a : Parent) (ty copy : ConditionalName) where
  typed : Some ty ≡ type_in a → copy ≡ ty → found_action names a.id (parent_type (Some copy)) ≡ found_parent names a
  typed given same = ap (λ t. found_action names a.id (parent_type t)) (ap Some same ∙ given)

  -- it is found where it becomes a name
  pub parent_found : (n : InternalName) → Some ty ≡ type_in a → copy ≡ ty → resolving names (parent a.id (Some copy)) ≡ Ok n → Some n ≡ found_parent names a
  parent_found n given same is = found_by (undeclared_action a.id (parent_type (Some copy))) (found_action names a.id (parent_type (Some copy))) n is ∙ typed given same

  -- and not where it is refused
  pub parent_missed : (e : SchemaError) → Some ty ≡ type_in a → copy ≡ ty → resolving names (parent a.id (Some copy)) ≡ Err e → None ≡ found_parent names a
  parent_missed e given same is = missed_by (undeclared_action a.id (parent_type (Some copy))) e (found_action names a.id (parent_type (Some copy))) is ∙ typed given same

  pub parent_refused : (x : Failure SchemaError) (e : SchemaError) → Some ty ≡ type_in a → copy ≡ ty → Answers (Err x) (resolving names (parent a.id (Some copy))) → x ≡ Refused e → None ≡ found_parent names a
  parent_refused x e given same answers is = parent_missed e given same (subst (λ x. Answers (Err x) (resolving names (parent a.id (Some copy)))) is answers)
