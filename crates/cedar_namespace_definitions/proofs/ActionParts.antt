-- SPDX-License-Identifier: Apache-2.0
-- What becomes of an action is what becomes of its parts.
use Rattle.std.proofs.Common.{◌≡◌, List, ◌∷◌, map, fold, Option, Some, None, option_map, unwrap_or, refl, sym, ap, ◌∙◌}
use Rattle.std.specs.BTreeSet.{insert_key}
use Rattle.std.specs.declared.cmp.Ordering.{Ordering}
use Rattle.std.specs.declared.result.Result.{Result}
use Rattle.cedar_names.specs.declared.internal_name.InternalName.{InternalName}
use Rattle.cedar_types.specs.declared.ty.Attributes.{Attributes}
use Rattle.cedar_types.specs.declared.value.ValueMap.{ValueMap}
use Rattle.cedar_written.specs.Answers.{all_items, in_option}
use Rattle.cedar_written.specs.Qualifying.{qualifying}
use Rattle.cedar_written.specs.declared.conditional_name.ConditionalName.{ConditionalName}
use Rattle.cedar_written.specs.declared.qualifying.Never.{Never}
use Rattle.cedar_written.specs.declared.raw_name.RawName.{RawName}
use Rattle.cedar_written.specs.declared.ty.SchemaType.{SchemaType}
use Rattle.cedar_fragment.specs.ActionUids.{over_conditional, over_raw}
use Rattle.cedar_fragment.specs.Definitions.{through_action, through_apply, through_uid}
use Rattle.cedar_fragment.specs.declared.action_uid.ActionEntityUID.{ActionEntityUID}
use Rattle.cedar_fragment.specs.declared.definitions.ActionType.{ActionType}
use Rattle.cedar_fragment.specs.declared.definitions.ApplySpec.{ApplySpec}
use Rattle.cedar_definitions.specs.declared.structures.ActionFragment.{ActionFragment}
use Rattle.cedar_definitions.specs.declared.structures.ValidatorApplySpec.{ValidatorApplySpec}
use Rattle.cedar_namespace_definitions.specs.Definitions.{action_made, application_in, applied_in, context_in, no_values, parent_in, parents_in, sure}
use Rattle.cedar_namespace_definitions.specs.Orders.{conditional_cmp, parent_cmp}
use Rattle.cedar_namespace_definitions.proofs.SureSteps.{sure_items, sure_option, sure_two}

module _ (ns : Option InternalName) where
  -- an action that applies to this, with these parents, all else as here
  abbrev with_parts : ActionType RawName over_raw → Option (ApplySpec ConditionalName) → Option (List (ActionEntityUID ConditionalName over_conditional)) → ActionType ConditionalName over_conditional
  with_parts a applies_to member_of = record { attributes = a.attributes; applies_to = applies_to; member_of = member_of; annotations = a.annotations; loc = a.loc }

  abbrev through_uids : List (ActionEntityUID RawName over_raw) → Result (List (ActionEntityUID ConditionalName over_conditional)) Never
  through_uids uids = all_items (map (through_uid over_raw over_conditional (qualifying ns)) uids)

  parents_are : (o : Option (List (ActionEntityUID RawName over_raw))) → sure (in_option (option_map through_uids o)) ≡ option_map (map (parent_in ns)) o
  parents_are None = refl
  parents_are (Some uids) = sure_option through_uids (Some uids) ∙ ap Some (sure_items (through_uid over_raw over_conditional (qualifying ns)) uids)

  whole : (a : ActionType RawName over_raw) → sure (through_action over_raw over_conditional (qualifying ns) a) ≡ with_parts a (applied_in ns a.applies_to) (option_map (map (parent_in ns)) a.member_of)
  whole a =
      sure_two (in_option (option_map (through_apply (qualifying ns)) a.applies_to)) (in_option (option_map through_uids a.member_of)) (with_parts a)
      ∙ ap (with_parts a (applied_in ns a.applies_to)) (parents_are a.member_of)

  -- such an action is made of what its parts become
  pub action_whole : (types : Attributes) (a : ActionType RawName over_raw) {context : SchemaType ConditionalName} {applies_to : ValidatorApplySpec ConditionalName} {parents : List (ActionEntityUID ConditionalName over_conditional)} {values : ValueMap}
      → context ≡ context_in (applied_in ns a.applies_to) → applies_to ≡ application_in conditional_cmp (applied_in ns a.applies_to) → parents ≡ parents_in (parent_cmp conditional_cmp) (option_map (map (parent_in ns)) a.member_of)
      → values ≡ unwrap_or a.attributes no_values
      → ◌≡◌ {A = ActionFragment ConditionalName ConditionalName over_conditional} record { context = context; applies_to = applies_to; parents = parents; attribute_types = types; attributes = values; loc = a.loc }
      (action_made conditional_cmp types (sure (through_action over_raw over_conditional (qualifying ns) a)))
  action_whole types a contexts types_of parents_of values_of =
      (λ i. record { context = contexts i; applies_to = types_of i; parents = parents_of i; attribute_types = types; attributes = values_of i; loc = a.loc }) ∙ sym (ap (action_made conditional_cmp types) (whole a))

  -- one parent more in the set of parents
  pub parent_next : (cmp : ActionEntityUID ConditionalName over_conditional → ActionEntityUID ConditionalName over_conditional → Ordering) (set : List (ActionEntityUID ConditionalName over_conditional)) (parent : ActionEntityUID RawName over_raw)
      (full : ActionEntityUID ConditionalName over_conditional) {all more : List (ActionEntityUID ConditionalName over_conditional)} {left rest : List (ActionEntityUID RawName over_raw)}
      → fold (insert_key cmp) set (map (parent_in ns) left) ≡ all → left ≡ parent ∷ rest → full ≡ parent_in ns parent → more ≡ insert_key cmp set full
      → fold (insert_key cmp) more (map (parent_in ns) rest) ≡ all
  parent_next cmp set parent full {rest = rest} sofar first through put =
      ap (λ set. fold (insert_key cmp) set (map (parent_in ns) rest)) (put ∙ ap (insert_key cmp set) through)
      ∙ ap (λ left. fold (insert_key cmp) set (map (parent_in ns) left)) (sym first) ∙ sofar
