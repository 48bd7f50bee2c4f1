-- SPDX-License-Identifier: Apache-2.0
-- Declarations are refused with the first of their references that the step refuses.
use Rattle.std.proofs.Common.{[], ◌∷◌, map, option_map, option_to_list, refl}
use Rattle.std.specs.List.{flat_map}
use Rattle.std.specs.declared.result.Result.{Result}
use Rattle.cedar_types.specs.of_data.Maps.{map_values}
use Rattle.cedar_written.specs.Answers.{all_items, all_values, in_option}
use Rattle.cedar_written.specs.Reference.{Reference, parent}
use Rattle.cedar_written.specs.References.{references, references_of_names}
use Rattle.cedar_written.specs.Through.{through_names, through_type}
use Rattle.cedar_written.specs.declared.ref_name.RefName as ref_name
use Rattle.cedar_written.specs.declared.reference_type.ReferenceType.TheVariants as kind
use Rattle.cedar_written.proofs.FirstRefusal.{Follows, follows_name, follows_then, follows_last, follows_map, follows_items, follows_option, names_refused, type_refused}
use Rattle.cedar_fragment.specs.Definitions.{through_action, through_apply, through_common, through_entity, through_kind, through_namespace, through_shape, through_standard, through_uid}
use Rattle.cedar_fragment.specs.References.{references_of_action, references_of_apply, references_of_common, references_of_entity, references_of_kind, references_of_namespace, references_of_shape, references_of_standard, references_of_uid}
use Rattle.cedar_fragment.specs.declared.action_uid.ActionEntityUID.{ActionEntityUID}
use Rattle.cedar_fragment.specs.declared.attributes_or_context.AttributesOrContext.{AttributesOrContext}
use Rattle.cedar_fragment.specs.declared.definitions.ActionType.{ActionType}
use Rattle.cedar_fragment.specs.declared.definitions.ApplySpec.{ApplySpec}
use Rattle.cedar_fragment.specs.declared.definitions.CommonType.{CommonType}
use Rattle.cedar_fragment.specs.declared.definitions.EntityType.{EntityType}
use Rattle.cedar_fragment.specs.declared.definitions.EntityTypeKind.{EntityTypeKind}
use Rattle.cedar_fragment.specs.declared.definitions.EntityTypeKind.TheVariants as sort
use Rattle.cedar_fragment.specs.declared.definitions.NamespaceDefinition.{NamespaceDefinition}
use Rattle.cedar_fragment.specs.declared.definitions.StandardEntityType.{StandardEntityType}

module _ {N M E : Type 0} (s : Reference N → Result M E) where
  -- a shape or a context
  pub shape_refused : (a : AttributesOrContext N) → Follows s (through_shape s a) (references_of_shape a)
  shape_refused a = follows_last s (through_type s a.0) _ (references a.0) (type_refused s a.0)

  -- a common type
  pub common_refused : (c : CommonType N) → Follows s (through_common s c) (references_of_common c)
  common_refused c = follows_last s (through_type s c.ty) _ (references c.ty) (type_refused s c.ty)

  -- a standard entity type
  pub standard_refused : (e : StandardEntityType N) → Follows s (through_standard s e) (references_of_standard e)
  standard_refused e =
      follows_then s (through_names s kind.Entity e.member_of_types) _ (references_of_names kind.Entity e.member_of_types) _ (names_refused s kind.Entity e.member_of_types) (λ ms.
      follows_then s (through_shape s e.shape) _ (references_of_shape e.shape) _ (shape_refused e.shape) (λ t.
      follows_last s (in_option (option_map (through_type s) e.tags)) _ (flat_map references (option_to_list e.tags)) (follows_option s (through_type s) references (type_refused s) e.tags)))

  -- what kind of entity type it is
  pub kind_refused : (k : EntityTypeKind N) → Follows s (through_kind s k) (references_of_kind k)
  kind_refused (sort.Standard e) = follows_last s (through_standard s e) _ (references_of_standard e) (standard_refused e)
  kind_refused (sort.Enum choices) = refl

  -- an entity type
  pub entity_refused : (e : EntityType N) → Follows s (through_entity s e) (references_of_entity e)
  entity_refused e = follows_last s (through_kind s e.kind) _ (references_of_kind e.kind) (kind_refused e.kind)

  -- what an action applies to
  pub apply_refused : (a : ApplySpec N) → Follows s (through_apply s a) (references_of_apply a)
  apply_refused a =
      follows_then s (through_names s kind.Entity a.resource_types) _ (references_of_names kind.Entity a.resource_types) _ (names_refused s kind.Entity a.resource_types) (λ ms.
      follows_then s (through_names s kind.Entity a.principal_types) _ (references_of_names kind.Entity a.principal_types) _ (names_refused s kind.Entity a.principal_types) (λ ns.
      follows_last s (through_shape s a.context) _ (references_of_shape a.context) (shape_refused a.context)))

module _ {N M E : Type 0} (R : ref_name.Ghosts N) (R' : ref_name.Ghosts M) (s : Reference N → Result M E) where
  -- an action as a parent
  pub uid_refused : (u : ActionEntityUID N R) → Follows s (through_uid R R' s u) (references_of_uid u)
  uid_refused u = follows_last s (s (parent u.id u.ty)) _ (parent u.id u.ty ∷ []) (follows_name s (parent u.id u.ty))

  -- an action
  pub action_refused : (a : ActionType N R) → Follows s (through_action R R' s a) (references_of_action a)
  action_refused a =
      follows_then s (in_option (option_map (through_apply s) a.applies_to)) _ (flat_map references_of_apply (option_to_list a.applies_to)) _ (follows_option s (through_apply s) references_of_apply (apply_refused s) a.applies_to) (λ o.
      follows_last s (in_option (option_map (λ us. all_items (map (through_uid R R' s) us)) a.member_of)) _ (flat_map (flat_map references_of_uid) (option_to_list a.member_of))
      (follows_option s (λ us. all_items (map (through_uid R R' s) us)) (flat_map references_of_uid) (follows_items s (through_uid R R' s) references_of_uid uid_refused) a.member_of))

  -- the definitions of a namespace
  pub namespace_refused : (n : NamespaceDefinition N R) → Follows s (through_namespace R R' s n) (references_of_namespace n)
  namespace_refused n =
      follows_then s (all_values (map_values (through_common s) n.common_types)) _ (flat_map (λ e. references_of_common e.1) n.common_types) _ (follows_map s (through_common s) references_of_common (common_refused s) n.common_types) (λ cs.
      follows_then s (all_values (map_values (through_entity s) n.entity_types)) _ (flat_map (λ e. references_of_entity e.1) n.entity_types) _ (follows_map s (through_entity s) references_of_entity (entity_refused s) n.entity_types) (λ es.
      follows_last s (all_values (map_values (through_action R R' s) n.actions)) _ (flat_map (λ e. references_of_action e.1) n.actions) (follows_map s (through_action R R' s) references_of_action action_refused n.actions)))
