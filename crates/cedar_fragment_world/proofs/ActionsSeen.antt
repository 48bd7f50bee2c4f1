-- SPDX-License-Identifier: Apache-2.0
-- The definition that an action becomes is the one that the fragment has, in its namespace.
use Rattle.std.proofs.Common.{◌≡◌, false, List, [], map, Option, Some, None, option_map, unwrap_or, refl, sym, ap, ◌∙◌}
use Rattle.std.specs.Ordering.{ordering_then}
use Rattle.std.specs.declared.cmp.Ordering.{Ordering}
use Rattle.std.specs.declared.result.Result.{Result}
use Rattle.cedar_data.specs.Sets.{set_of}
use Rattle.cedar_names.specs.Components.{components}
use Rattle.cedar_names.specs.Order.{word_cmp, words_cmp}
use Rattle.cedar_names.specs.declared.internal_name.InternalName.{InternalName}
use Rattle.cedar_written.proofs.TypeFolds.{fold-Record, fold-record_of}
use Rattle.cedar_written.specs.Answers.{all_items, in_option}
use Rattle.cedar_written.specs.Possibilities.{conditional, written}
use Rattle.cedar_written.specs.Qualifying as qualify
use Rattle.cedar_written.specs.Qualifying.{qualifying}
use Rattle.cedar_written.specs.Through.{through_names}
use Rattle.cedar_written.specs.WrittenTypes.{empty_record}
use Rattle.cedar_written.specs.declared.conditional_name.ConditionalName.{ConditionalName}
use Rattle.cedar_written.specs.declared.qualifying.Never.{Never}
use Rattle.cedar_written.specs.declared.raw_name.RawName.{RawName}
use Rattle.cedar_written.specs.declared.reference_type.ReferenceType.TheVariants as kind
use Rattle.cedar_written.specs.declared.ty.TypeVariant.TheVariants as variant
use Rattle.cedar_fragment.specs.ActionUids.{over_conditional, over_raw, type_in, uid_of}
use Rattle.cedar_fragment.specs.Definitions.{through_apply, through_shape, through_uid}
use Rattle.cedar_fragment.specs.declared.action_uid.ActionEntityUID.{ActionEntityUID}
use Rattle.cedar_fragment.specs.declared.definitions.ActionType.{ActionType}
use Rattle.cedar_fragment.specs.declared.definitions.ApplySpec.{ApplySpec}
use Rattle.cedar_schema_error.specs.NameReferences.{ActionReference, NameReference, action_reference_of, reference_of}
use Rattle.cedar_namespace_definitions.specs.Definitions.{action_made, action_made_in, context_in, no_context, parents_in, principals_in, resources_in, sure, types_in}
use Rattle.cedar_namespace_definitions.specs.Orders.{conditional_cmp, parent_cmp}
use Rattle.cedar_world.proofs.of_unfold.SchemaTypes.{type_is}
use Rattle.cedar_world.specs.of_unfold.Written.{Record, no_attributes}
use Rattle.cedar_world.specs.of_unfold.WrittenViews.{attribute_view, record_view, type_view, variant_view}
use Rattle.cedar_world.specs.DefinitionViews as views
use Rattle.cedar_convert_fragment.specs.Views.{action_seen, apply_seen, name_at, parent_seen}
use Rattle.cedar_fragment_world.specs.FragmentWorlds as worlds
use Rattle.cedar_fragment_world.specs.FragmentWorlds.{action_of, action_reference, action_reference_cmp, actions_of, context_of, entity_types_of, principals_of, reference, resources_of}
use Rattle.cedar_fragment_world.proofs.EntitiesSeen.{names_alike, shape_alike}
use Rattle.cedar_fragment_world.proofs.Lists.{sets_alike}
use Rattle.cedar_fragment_world.proofs.NamesSeen.{referred, words_of}
use Rattle.cedar_namespace_definitions.proofs.ReferenceOrder.{in_order}
use Rattle.cedar_namespace_definitions.proofs.SureSteps.{sure_items, sure_one, sure_three, sure_two}

-- the name of the type of a parent, as it is written
abbrev type_name : ActionEntityUID RawName over_raw → RawName
type_name u = unwrap_or (type_in u) qualify.action_name

name_given : (ty : Option RawName) → unwrap_or (option_map name_at ty) worlds.action_name ≡ name_at (unwrap_or ty qualify.action_name)
name_given None = refl
name_given (Some name) = refl

-- parents are in the order of their types, and then of their ids
abbrev uid_order : ActionEntityUID RawName over_raw → ActionEntityUID RawName over_raw → Ordering
uid_order u v = ordering_then (words_cmp (components (written (type_name u))) (components (written (type_name v)))) (word_cmp u.id v.id)

module _ (ns : Option InternalName) where
  -- ---- what an action applies to

  abbrev made_apply : ApplySpec RawName → ApplySpec ConditionalName
  made_apply a = record {
    resource_types = sure (through_names (qualifying ns) kind.Entity a.resource_types);
    principal_types = sure (through_names (qualifying ns) kind.Entity a.principal_types);
    context = sure (through_shape (qualifying ns) a.context);
  }

  abbrev applied : Option (ApplySpec RawName) → Option (ApplySpec ConditionalName)
  applied a = sure (in_option (option_map (through_apply (qualifying ns)) a))

  apply_made : (a : ApplySpec RawName) → applied (Some a) ≡ Some (made_apply a)
  apply_made a =
      sure_one (through_apply (qualifying ns) a) Some
      ∙ ap Some (sure_three (through_names (qualifying ns) kind.Entity a.resource_types) (through_names (qualifying ns) kind.Entity a.principal_types) (through_shape (qualifying ns) a.context)
      (λ resource_types principal_types context. record { resource_types = resource_types; principal_types = principal_types; context = context }))

  principals_alike : (a : Option (ApplySpec RawName)) → map reference_of (set_of conditional_cmp (principals_in (applied a))) ≡ entity_types_of (words_of ns) (principals_of (option_map apply_seen a))
  principals_alike None = refl
  principals_alike (Some a) = ap (λ a. map reference_of (set_of conditional_cmp (principals_in a))) (apply_made a) ∙ names_alike ns a.principal_types

  resources_alike : (a : Option (ApplySpec RawName)) → map reference_of (set_of conditional_cmp (resources_in (applied a))) ≡ entity_types_of (words_of ns) (resources_of (option_map apply_seen a))
  resources_alike None = refl
  resources_alike (Some a) = ap (λ a. map reference_of (set_of conditional_cmp (resources_in a))) (apply_made a) ∙ names_alike ns a.resource_types

  context_alike : (a : Option (ApplySpec RawName)) → views.type_in (context_in (applied a)) ≡ context_of (words_of ns) (option_map apply_seen a)
  context_alike None =
      type_is reference_of no_context (variant.Record empty_record) None (Record no_attributes false) refl
      (fold-Record (type_view reference_of) (variant_view reference_of) (record_view reference_of) (attribute_view reference_of) empty_record
      ∙ fold-record_of (type_view reference_of) (variant_view reference_of) (record_view reference_of) (attribute_view reference_of) [] false)
  context_alike (Some a) = ap (λ a. views.type_in (context_in a)) (apply_made a) ∙ shape_alike ns a.context

  -- ---- its parents

  -- the parent that comes of a parent
  abbrev made_uid : ActionEntityUID RawName over_raw → ActionEntityUID ConditionalName over_conditional
  made_uid u = uid_of over_conditional u.id (conditional ns kind.Entity (type_name u))

  abbrev through_uids : List (ActionEntityUID RawName over_raw) → Result (List (ActionEntityUID ConditionalName over_conditional)) Never
  through_uids us = all_items (map (through_uid over_raw over_conditional (qualifying ns)) us)

  abbrev parented : Option (List (ActionEntityUID RawName over_raw)) → Option (List (ActionEntityUID ConditionalName over_conditional))
  parented us = sure (in_option (option_map through_uids us))

  uid_alike : (u : ActionEntityUID RawName over_raw) → action_reference_of (made_uid u) ≡ action_reference (words_of ns) (parent_seen u)
  uid_alike u =
      let there : NameReference → ActionReference = λ ty. record { ty = ty; id = u.id } in
      ap there (referred ns kind.Entity (type_name u) ∙ ap (reference (words_of ns) kind.Entity) (sym (name_given (type_in u))))

  parents_alike : (us : Option (List (ActionEntityUID RawName over_raw)))
      → map action_reference_of (parents_in (parent_cmp conditional_cmp) (parented us)) ≡ actions_of (words_of ns) (unwrap_or (option_map (map parent_seen) us) [])
  parents_alike None = refl
  parents_alike (Some us) =
      ap (λ made. map action_reference_of (parents_in (parent_cmp conditional_cmp) made)) (sure_one (through_uids us) Some ∙ ap Some (sure_items (through_uid over_raw over_conditional (qualifying ns)) us))
      ∙ sets_alike uid_order (parent_cmp conditional_cmp) action_reference_cmp made_uid parent_seen (action_reference (words_of ns)) action_reference_of made_order seen_order uid_alike us
    where
      made_order : (u v : ActionEntityUID RawName over_raw) → uid_order u v ≡ parent_cmp conditional_cmp (made_uid u) (made_uid v)
      made_order u v = ap (λ o. ordering_then o (word_cmp u.id v.id)) (in_order ns kind.Entity (type_name u) (type_name v))

      seen_order : (u v : ActionEntityUID RawName over_raw) → uid_order u v ≡ action_reference_cmp (action_reference (words_of ns) (parent_seen u)) (action_reference (words_of ns) (parent_seen v))
      seen_order u v = λ i. ordering_then (words_cmp (sym (name_given (type_in u)) i).words (sym (name_given (type_in v)) i).words) (word_cmp u.id v.id)

  -- an action
  pub action_alike : (a : ActionType RawName over_raw) → views.action_of (action_made_in ns a) ≡ action_of (words_of ns) (action_seen a).content
  unfolding action_made_in
  action_alike a =
      ap (λ made. views.action_of (action_made conditional_cmp (types_in a.attributes) made)) (
      sure_two (in_option (option_map (through_apply (qualifying ns)) a.applies_to)) (in_option (option_map through_uids a.member_of))
      (λ applies_to member_of. record { attributes = a.attributes; applies_to = applies_to; member_of = member_of; annotations = a.annotations; loc = a.loc }))
      ∙ (λ i. record {
        parents = parents_alike a.member_of i;
        principals = principals_alike a.applies_to i;
        resources = resources_alike a.applies_to i;
        context = context_alike a.applies_to i;
        attribute_types = types_in a.attributes;
        attributes = (action_of (words_of ns) (action_seen a).content).attributes;
      })
