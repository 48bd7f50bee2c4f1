-- SPDX-License-Identifier: Apache-2.0
-- Declarations without their places are the same declarations of a namespace.
use Rattle.std.proofs.Common.{◌≡◌, ℕ, List, [], ◌∷◌, Option, Some, None, map, option_map, refl, ap}
use Rattle.std.specs.Prelude.{unwrap_or}
use Rattle.cedar_data.specs.Maps.{map_values}
use Rattle.cedar_data.specs.Sets as sets
use Rattle.cedar_names.specs.Identifiers.{unreserved_word}
use Rattle.cedar_names.specs.declared.id.UnreservedId.{UnreservedId}
use Rattle.cedar_written.specs.declared.common_type_id.CommonTypeId.{CommonTypeId}
use Rattle.cedar_written.specs.declared.raw_name.RawName.{RawName}
use Rattle.cedar_written.specs.declared.reference_type.ReferenceType.TheVariants as kind
use Rattle.cedar_written.specs.declared.ty.SchemaType.{SchemaType}
use Rattle.cedar_fragment.specs.ActionUids.{over_raw, type_in}
use Rattle.cedar_fragment.specs.Shapes.{type_of_shape}
use Rattle.cedar_fragment.specs.declared.action_uid.ActionEntityUID.{ActionEntityUID}
use Rattle.cedar_fragment.specs.declared.definitions.ActionType.{ActionType}
use Rattle.cedar_fragment.specs.declared.definitions.ApplySpec.{ApplySpec}
use Rattle.cedar_fragment.specs.declared.definitions.CommonType.{CommonType}
use Rattle.cedar_fragment.specs.declared.definitions.EntityType.{EntityType}
use Rattle.cedar_fragment.specs.declared.definitions.EntityTypeKind.{EntityTypeKind}
use Rattle.cedar_fragment.specs.declared.definitions.EntityTypeKind.TheVariants as sort
use Rattle.cedar_schema_error.specs.FullNames.{FullName}
use Rattle.cedar_world.specs.Definitions.{Standard}
use Rattle.cedar_convert_fragment.specs.Views.{action_seen, actions_seen, apply_seen, common_word, commons_seen, entities_seen, kind_seen, name_at, parent_seen, type_seen}
use Rattle.cedar_fragment_world.specs.FragmentWorlds.{action_at, action_name, action_of, action_reference, action_reference_cmp, actions_of, common_at, context_of, entity_at, entity_of, entity_types_of, full_name, action_uid, principals_of, reference, reference_cmp, resources_of, type_of}
use Rattle.cedar_json_written_laws.specs.Unplaced.{action_unplaced, apply_unplaced, common_unplaced, entity_unplaced, kind_unplaced, name_unplaced, parent_unplaced, type_unplaced}
use Rattle.cedar_json_schema_laws.proofs.TypesUnplaced.{type_alike}

module _ (ns : Option FullName) where
  -- names of entity types
  names_alike : (names : List RawName) → map (reference ns kind.Entity) (map name_at (map name_unplaced names)) ≡ map (reference ns kind.Entity) (map name_at names)
  names_alike [] = refl
  names_alike (name ∷ names) = ap (λ rest. reference ns kind.Entity (name_at name) ∷ rest) (names_alike names)

  types_alike : (names : List RawName) → entity_types_of ns (map name_at (map name_unplaced names)) ≡ entity_types_of ns (map name_at names)
  types_alike names = ap (sets.set_of reference_cmp) (names_alike names)

  -- the type of tags, where there is one
  tags_alike : (tags : Option (SchemaType RawName)) → option_map (type_of ns) (option_map type_seen (option_map type_unplaced tags)) ≡ option_map (type_of ns) (option_map type_seen tags)
  tags_alike None = refl
  tags_alike (Some t) = ap Some (type_alike ns t)

  -- what kind of entity type it is
  kind_alike : (k : EntityTypeKind RawName) → entity_of ns (kind_seen (kind_unplaced k)) ≡ entity_of ns (kind_seen k)
  kind_alike (sort.Standard e) = λ i. Standard (types_alike e.member_of_types i) (type_alike ns (type_of_shape e.shape) i) (tags_alike e.tags i)
  kind_alike (sort.Enum choices) = refl

  -- the type of an action as a parent, or the one that stands where none is given
  type_given : (ty : Option RawName) → reference ns kind.Entity (unwrap_or (option_map name_at (option_map name_unplaced ty)) action_name) ≡ reference ns kind.Entity (unwrap_or (option_map name_at ty) action_name)
  type_given None = refl
  type_given (Some name) = refl

  parents_alike : (us : List (ActionEntityUID RawName over_raw)) → map (action_reference ns) (map parent_seen (map parent_unplaced us)) ≡ map (action_reference ns) (map parent_seen us)
  parents_alike [] = refl
  parents_alike (u ∷ us) = λ i. record { ty = type_given (type_in u) i; id = u.id } ∷ parents_alike us i

  member_alike : (us : Option (List (ActionEntityUID RawName over_raw)))
      → actions_of ns (unwrap_or (option_map (map parent_seen) (option_map (map parent_unplaced) us)) []) ≡ actions_of ns (unwrap_or (option_map (map parent_seen) us) [])
  member_alike None = refl
  member_alike (Some us) = ap (sets.set_of action_reference_cmp) (parents_alike us)

  -- what an action applies to
  principals_alike : (a : Option (ApplySpec RawName))
      → entity_types_of ns (principals_of (option_map apply_seen (option_map apply_unplaced a))) ≡ entity_types_of ns (principals_of (option_map apply_seen a))
  principals_alike None = refl
  principals_alike (Some a) = types_alike a.principal_types

  resources_alike : (a : Option (ApplySpec RawName))
      → entity_types_of ns (resources_of (option_map apply_seen (option_map apply_unplaced a))) ≡ entity_types_of ns (resources_of (option_map apply_seen a))
  resources_alike None = refl
  resources_alike (Some a) = types_alike a.resource_types

  context_alike : (a : Option (ApplySpec RawName)) → context_of ns (option_map apply_seen (option_map apply_unplaced a)) ≡ context_of ns (option_map apply_seen a)
  context_alike None = refl
  context_alike (Some a) = type_alike ns (type_of_shape a.context)

  action_alike : (a : ActionType RawName over_raw) → action_of ns (action_seen (action_unplaced a)).content ≡ action_of ns (action_seen a).content
  action_alike a = λ i. record {
    parents = member_alike a.member_of i;
    principals = principals_alike a.applies_to i;
    resources = resources_alike a.applies_to i;
    context = context_alike a.applies_to i;
    attribute_types = (action_of ns (action_seen a).content).attribute_types;
    attributes = (action_of ns (action_seen a).content).attributes;
  }

  -- declarations by name
  pub commons_alike : (es : List (CommonTypeId × CommonType RawName)) → map (common_at ns) (commons_seen (map_values common_unplaced es)) ≡ map (common_at ns) (commons_seen es)
  commons_alike [] = refl
  commons_alike (e ∷ es) = λ i. (full_name ns (common_word e.0), type_alike ns e.1.ty i) ∷ commons_alike es i

  pub entities_alike : (es : List (UnreservedId × EntityType RawName)) → map (entity_at ns) (entities_seen (map_values entity_unplaced es)) ≡ map (entity_at ns) (entities_seen es)
  entities_alike [] = refl
  entities_alike (e ∷ es) = λ i. (full_name ns (unreserved_word e.0), kind_alike e.1.kind i) ∷ entities_alike es i

  pub actions_alike : (es : List (List ℕ × ActionType RawName over_raw)) → map (action_at ns) (actions_seen (map_values action_unplaced es)) ≡ map (action_at ns) (actions_seen es)
  actions_alike [] = refl
  actions_alike (e ∷ es) = λ i. (action_uid ns e.0, action_alike e.1 i) ∷ actions_alike es i
