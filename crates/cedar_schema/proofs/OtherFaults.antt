-- SPDX-License-Identifier: Apache-2.0
-- No fault of a fragment is for references that mean nothing, and none tells what is declared.
use Rattle.std.proofs.Common.{◌≡◌, ℕ, Bool, true, false, List, [], ◌∷◌, codes, Option, Some, None, refl, subst, if◌then◌else◌}
use Rattle.std.specs.List.{filter, flat_map}
use Rattle.std.specs.Str.{bytes_eq}
use Rattle.std.specs.declared.result.Result.{Result}
use Rattle.std.specs.declared.result.Result.TheVariants.{Ok, Err}
use Rattle.cedar_data.specs.Firsts.{AllPass, IsFirst}
use Rattle.cedar_fragment_world.specs.of_convert_fragment.Fragments.{ActionContent, Declared, Definition, Fragment}
use Rattle.cedar_fragment_world.specs.FragmentFaults.{action_faults, action_types, declaration_faults, definition_faults, each_fault, entity_faults, fragment_faults, is_reserved, reserved_in, with_attributes}
use Rattle.cedar_fragment_world.specs.FragmentWorlds.{action_type, action_uid, full_name}
use Rattle.cedar_namespace_definitions.specs.Faults.{attribute_faults, prohibited, refusal_of, value_refusal}
use Rattle.cedar_phases.specs.Kept.{is_missing, tells_declared}
use Rattle.cedar_phases.proofs.OtherRefusals.{true-false}
use Rattle.cedar_phases.proofs.of_sound.NothingMissed.{pass_append, pass_flat, pass_map}
use Rattle.cedar_schema_error.specs.FullNames.{FullName, Uid}
use Rattle.cedar_schema_error.specs.Refusals.{ActionEntityTypeDeclared, Refusal, ReservedName}
use Rattle.cedar_schema_error.specs.declared.action_behavior.ActionBehavior.{ActionBehavior}
use Rattle.cedar_schema_error.specs.declared.action_behavior.ActionBehavior.TheVariants.{PermitAttributes, ProhibitAttributes}
use Rattle.cedar_action_values.specs.declared.value_fault.ValueFault.{ValueFault}
use Rattle.cedar_action_values.specs.declared.value_fault.ValueFault.TheVariants as fault
use Rattle.cedar_action_values.specs.ActionValues.{typed_attributes}
use Rattle.cedar_types.specs.declared.value.ValueMap.{ValueMap}

-- a refusal for something else than what is kept as it stands
abbrev IsOther : Refusal → Type 0
IsOther e = (is_missing e ≡ false) × (tells_declared e ≡ false)

each_passes : {A : Type 0} (P : A → Type 0) → ((x : A) → P x) → (xs : List A) → AllPass P xs
each_passes P each [] = tt
each_passes P each (x ∷ xs) = (each x, each_passes P each xs)

of_first : (xs : List Refusal) (e : Refusal) → AllPass IsOther xs → IsFirst xs e → IsOther e
of_first [] e all first = absurd (cc)
of_first (x ∷ xs) e all first = let same : x ≡ e = cc in subst IsOther same all.0

flat_other : {A : Type 0} (f : A → List Refusal) → ((x : A) → AllPass IsOther (f x)) → (xs : List A) → AllPass IsOther (flat_map f xs)
flat_other f each xs = pass_flat IsOther f xs (each_passes (λ x. AllPass IsOther (f x)) each xs)

prohibited_other : (behavior : ActionBehavior) (ids : List (List ℕ)) → AllPass IsOther (prohibited behavior ids)
prohibited_other PermitAttributes ids = tt
prohibited_other ProhibitAttributes [] = tt
prohibited_other ProhibitAttributes (id ∷ ids) = ((refl, refl), tt)

reserved_other : (ns : Option FullName) (name : FullName) → AllPass IsOther (reserved_in ns name)
reserved_other ns name = by (is_reserved ns)
  where
    by : (b : Bool) → AllPass IsOther (if b then ReservedName name ∷ [] else [])
    by true = ((refl, refl), tt)
    by false = tt

value_other : (uid : Uid) (f : ValueFault) → IsOther (value_refusal uid f)
value_other uid fault.EmptySet = (refl, refl)
value_other uid fault.Null = (refl, refl)
value_other uid fault.EntityEscape = (refl, refl)
value_other uid fault.ExprEscape = (refl, refl)
value_other uid fault.ExtnEscape = (refl, refl)

attributes_other : (uid : Uid) (o : Option ValueMap) → AllPass IsOther (attribute_faults uid o)
attributes_other uid None = tt
attributes_other uid (Some values) = by (typed_attributes values)
  where
    by : {T : Type 0} (r : Result T ValueFault) → AllPass IsOther (refusal_of uid r)
    by (Ok t) = tt
    by (Err f) = (value_other uid f, tt)

action_other : (ns : Option FullName) (a : List ℕ × Declared ActionContent) → AllPass IsOther (action_faults ns a)
action_other ns a = pass_append IsOther (reserved_in ns (action_type ns)) (attribute_faults (action_uid ns a.0) a.1.content.attributes) (reserved_other ns (action_type ns)) (attributes_other (action_uid ns a.0) a.1.content.attributes)

definition_other : (behavior : ActionBehavior) (n : Option FullName × Definition) → AllPass IsOther (definition_faults behavior n)
definition_other behavior n = pass_append IsOther (declaration_faults behavior n.1) (each_fault n.0 n.1)
    (pass_append IsOther (action_types n.1.entity_types) (prohibited behavior (with_attributes n.1.actions))
    (pass_map IsOther (λ e. ActionEntityTypeDeclared) (filter (λ e. bytes_eq e.0 (codes "Action")) n.1.entity_types) (each_passes (λ e. IsOther ActionEntityTypeDeclared) (λ e. (refl, refl)) (filter (λ e. bytes_eq e.0 (codes "Action")) n.1.entity_types)))
    (prohibited_other behavior (with_attributes n.1.actions)))
    (pass_append IsOther (flat_map (action_faults n.0) n.1.actions) (flat_map (entity_faults n.0) n.1.entity_types)
    (flat_other (action_faults n.0) (action_other n.0) n.1.actions)
    (flat_other (entity_faults n.0) (λ e. reserved_other n.0 (full_name n.0 e.0)) n.1.entity_types))

module _ (behavior : ActionBehavior) (F : Fragment) (e : Refusal) (first : IsFirst (fragment_faults behavior F) e) where
  -- a fault of a fragment is for something else
  fault_other : IsOther e
  fault_other = of_first (fragment_faults behavior F) e (flat_other (definition_faults behavior) (definition_other behavior) F) first

  -- so it isn't for references that mean nothing
  pub fragment_other : is_missing e ≡ true → ⊥
  fragment_other is = true-false _ is fault_other.0

  -- and tells nothing that is declared
  pub fragment_tells_none : tells_declared e ≡ true → ⊥
  fragment_tells_none is = true-false _ is fault_other.1
