-- SPDX-License-Identifier: Apache-2.0
-- Entity types and actions of a schema, as they are made of outlines and of the types that uses unfold to.
use Rattle.std.specs.Prelude.{◌≡◌, ℕ, List, Option, Some, None, map}
use Rattle.cedar_data.specs.Sets.{IsSetOf}
use Rattle.cedar_outlines.specs.of_declared.Names.{Names}
use Rattle.cedar_hierarchy.specs.Outlined.{ActionOutlineDescends, OutlineDescends}
use Rattle.cedar_hierarchy.specs.Targets.{AreMeant}
use Rattle.cedar_hierarchy.specs.Uses.{Uses, record_at_use, type_at_use}
use Rattle.cedar_names.specs.Names.{entity_words}
use Rattle.cedar_names.specs.Order.{words_cmp}
use Rattle.cedar_names.specs.declared.entity_uid.EntityUID.{EntityUID}
use Rattle.cedar_names.specs.declared.name.EntityType.{EntityType}
use Rattle.cedar_resolved.specs.Kinds.{enum_kind, standard_kind}
use Rattle.cedar_resolved.specs.Schemas.{action_attribute_types, action_attributes, action_context, action_descendants, action_loc, action_name, action_principals, action_resources, no_attributes, type_attributes, type_name}
use Rattle.cedar_resolved.specs.declared.action.ValidatorActionId.{ValidatorActionId}
use Rattle.cedar_resolved.specs.declared.entity_type.ValidatorEntityType.{ValidatorEntityType}
use Rattle.cedar_resolved.specs.declared.kind.ValidatorEntityTypeKind.{ValidatorEntityTypeKind}
use Rattle.cedar_schema_error.specs.FullNames.{FullName, Uid, uid_cmp, uid_in}
use Rattle.cedar_schema_error.specs.declared.use_place.UsePlace.TheVariants.{Context, Shape, Tags}
use Rattle.cedar_outlines.specs.Outlines.{ActionParts, EntityParts}
use Rattle.cedar_outlines.specs.declared.outlines.ActionOutline.{ActionOutline}
use Rattle.cedar_outlines.specs.declared.outlines.EntityOutline.{EntityOutline}
use Rattle.cedar_text.specs.declared.non_empty.NonEmpty.{NonEmpty}
use Rattle.cedar_types.specs.Types.{record_type}
use Rattle.cedar_types.specs.declared.ty.Attributes.{Attributes}
use Rattle.cedar_types.specs.declared.ty.OpenTag.TheVariants.{ClosedAttributes}
use Rattle.cedar_types.specs.declared.ty.ResolvedType.{ResolvedType}

-- the attributes of an entity type: those of its shape, none where it lists its entities
abbrev pub entity_attributes : Uses → EntityType → Option (NonEmpty (List ℕ)) → Attributes
entity_attributes uses name None = (record_at_use (type_at_use uses (Shape name))).0
entity_attributes uses name (Some ids) = no_attributes

-- its kind: whether its entities may have other attributes, and the type of their tags; or their ids
abbrev pub entity_kind : Uses → EntityType → Option (NonEmpty (List ℕ)) → ValidatorEntityTypeKind
entity_kind uses name None = standard_kind (record_at_use (type_at_use uses (Shape name))).1 (type_at_use uses (Tags name))
entity_kind uses name (Some ids) = enum_kind ids

-- under its name, an entity type has what its outline and the uses of types say, descendants aside
pub record DescribesEntity (uses : Uses) (outline : EntityType × EntityOutline) (made : EntityType × ValidatorEntityType) : Type 0 where
  pub key : made.0 ≡ outline.0
  pub named : type_name made.1 ≡ outline.0
  pub attributes : type_attributes made.1 ≡ entity_attributes uses outline.0 outline.1.choices
  pub kind : made.1.kind ≡ entity_kind uses outline.0 outline.1.choices
  pub loc : made.1.loc ≡ outline.1.loc

-- so it has, and its descendants are those by all outlines
pub record MakesEntity (names : Names) (os : List (FullName × EntityParts)) (uses : Uses) (outline : EntityType × EntityOutline) (made : EntityType × ValidatorEntityType) : Type 0 where
  pub described : DescribesEntity uses outline made
  pub descendants : IsSetOf words_cmp (OutlineDescends names os (entity_words outline.0)) (map entity_words made.1.descendants)

-- the type of a context, which is an empty record where none is used
abbrev pub context_at_use : Option ResolvedType → ResolvedType
context_at_use None = record_type no_attributes ClosedAttributes
context_at_use (Some t) = t

-- under its id, an action has what its outline and the uses of types say, descendants aside
pub record DescribesAction (names : Names) (uses : Uses) (outline : EntityUID × ActionOutline) (made : EntityUID × ValidatorActionId) : Type 0 where
  pub key : made.0 ≡ outline.0
  pub named : action_name made.1 ≡ outline.0
  pub principals : AreMeant names outline.1.applies_to.principal_apply_spec (action_principals made.1)
  pub resources : AreMeant names outline.1.applies_to.resource_apply_spec (action_resources made.1)
  pub context : action_context made.1 ≡ context_at_use (type_at_use uses (Context outline.0))
  pub attribute_types : action_attribute_types made.1 ≡ outline.1.attribute_types
  pub attributes : action_attributes made.1 ≡ outline.1.attributes
  pub loc : action_loc made.1 ≡ outline.1.loc

-- so it has, and its descendants are those by all outlines
pub record MakesAction (names : Names) (os : List (Uid × ActionParts)) (uses : Uses) (outline : EntityUID × ActionOutline) (made : EntityUID × ValidatorActionId) : Type 0 where
  pub described : DescribesAction names uses outline made
  pub descendants : IsSetOf uid_cmp (ActionOutlineDescends names os (uid_in outline.0)) (map uid_in (action_descendants made.1))
