-- SPDX-License-Identifier: Apache-2.0
-- Names, types and declarations with their places left out, where `bare` leaves out that of a name.
use Rattle.std.specs.Prelude.{◌||◌, is_some, map, Bool, IsTrue, None, Option, option_map, Some}
use Rattle.cedar_text.specs.declared.non_empty.NonEmpty.{NonEmpty}
use Rattle.cedar_data.specs.Maps.{map_values}
use Rattle.cedar_names.specs.Annotating.{annotation_entries}
use Rattle.cedar_names.specs.Components.{basename_of, internal_name, namespace_of}
use Rattle.cedar_names.specs.declared.annotation.Annotation.{Annotation}
use Rattle.cedar_names.specs.declared.annotation.Annotations.{Annotations}
use Rattle.cedar_names.specs.EntityUids.{entity_uid}
use Rattle.cedar_names.specs.declared.entity_uid.EntityUID.{EntityUID}
use Rattle.cedar_names.specs.declared.internal_name.InternalName.{InternalName}
use Rattle.cedar_names.specs.declared.name.EntityType as named
use Rattle.cedar_names.specs.declared.name.Name.{Name}
use Rattle.cedar_written.specs.Possibilities.{kind_of, possibilities_of, raw_name, raw_of, reference, written}
use Rattle.cedar_written.specs.WrittenTypes.{TypeLayer, VariantLayer}
use Rattle.cedar_written.specs.declared.conditional_name.ConditionalName.{ConditionalName}
use Rattle.cedar_written.specs.declared.raw_name.RawName.{RawName}
use Rattle.cedar_written.specs.declared.ref_name.RefName as ref_name
use Rattle.cedar_written.specs.declared.ty.SchemaType.{SchemaType, roll-SchemaType, fold-SchemaType}
use Rattle.cedar_written.specs.declared.ty.SchemaType.TheOpen as layer
use Rattle.cedar_written.specs.declared.ty.SchemaType.TheOpen.{RecordType-F, TypeOfAttribute-F}
use Rattle.cedar_written.specs.declared.ty.TypeVariant.{TypeVariant, roll-TypeVariant, fold-TypeVariant}
use Rattle.cedar_written.specs.declared.ty.RecordType.{RecordType, roll-RecordType, fold-RecordType}
use Rattle.cedar_written.specs.declared.ty.TypeOfAttribute.{TypeOfAttribute, roll-TypeOfAttribute, fold-TypeOfAttribute}
use Rattle.cedar_fragment.specs.Shapes.{shape_of, type_of_shape}
use Rattle.cedar_fragment.specs.declared.action_uid.ActionEntityUID.{ActionEntityUID}
use Rattle.cedar_fragment.specs.declared.attributes_or_context.AttributesOrContext.{AttributesOrContext}
use Rattle.cedar_fragment.specs.declared.definitions.ActionType.{ActionType}
use Rattle.cedar_fragment.specs.declared.definitions.ApplySpec.{ApplySpec}
use Rattle.cedar_fragment.specs.declared.definitions.CommonType.{CommonType}
use Rattle.cedar_fragment.specs.declared.definitions.EntityType.{EntityType}
use Rattle.cedar_fragment.specs.declared.definitions.EntityTypeKind.{EntityTypeKind}
use Rattle.cedar_fragment.specs.declared.definitions.EntityTypeKind.TheVariants as sort
use Rattle.cedar_fragment.specs.declared.definitions.Fragment.{Fragment}
use Rattle.cedar_fragment.specs.declared.definitions.NamespaceDefinition.{NamespaceDefinition}
use Rattle.cedar_fragment.specs.declared.definitions.StandardEntityType.{StandardEntityType}

-- ---- names

abbrev pub internal_unplaced : InternalName → InternalName
internal_unplaced n = internal_name (basename_of n) (namespace_of n) None

-- the name of a namespace
abbrev pub path_unplaced : Name → Name
path_unplaced n = record { internal = internal_unplaced n.internal; unreserved = n.unreserved }

-- the name of an entity type
abbrev pub entity_name_unplaced : named.EntityType → named.EntityType
entity_name_unplaced ty = record { name = path_unplaced ty.name }

-- the id of an entity or of an action
abbrev pub entity_uid_unplaced : EntityUID → EntityUID
entity_uid_unplaced uid = entity_uid (entity_name_unplaced uid.ty) uid.eid None

-- a name as it is written
abbrev pub raw_unplaced : RawName → RawName
raw_unplaced n = raw_name (internal_unplaced (written n))

-- the full names that a name may stand for
abbrev pub full_unplaced : NonEmpty InternalName → NonEmpty InternalName
full_unplaced names = record { head = internal_unplaced names.head; tail = map internal_unplaced names.tail }

-- a name with those
abbrev pub conditional_unplaced : ConditionalName → ConditionalName
conditional_unplaced n = reference (raw_unplaced (raw_of n)) (kind_of n) (full_unplaced (possibilities_of n))

-- ---- annotations

abbrev pub note_unplaced : Annotation → Annotation
note_unplaced a = record { val = a.val; loc = None }

-- annotations, each at its key
abbrev pub annotations_unplaced : Annotations → Annotations
annotations_unplaced a = record { map = map_values note_unplaced (annotation_entries a) }

-- ---- types and declarations

-- what is known of the type of an action stays known
pub still_typed : {N : Type 0} (bare : N → N) (may_lack : Bool) (ty : Option N) → IsTrue (may_lack || is_some ty) → IsTrue (may_lack || is_some (option_map bare ty))
still_typed bare may_lack None known = known
still_typed bare may_lack (Some n) known = known

module _ {N : Type 0} (bare : N → N) where
  -- a type, whose parts have no places any more: its own place is left out, and that of its name
  abbrev pub type_step : TypeLayer N → SchemaType N
  type_step (layer.Variant ty loc) = roll-SchemaType N (layer.Variant ty None)
  type_step (layer.CommonTypeRef name loc) = roll-SchemaType N (layer.CommonTypeRef (bare name) None)

  -- what kind of type it is: only names have places
  abbrev pub variant_step : VariantLayer N → TypeVariant N
  variant_step layer.String = roll-TypeVariant N layer.String
  variant_step layer.Long = roll-TypeVariant N layer.Long
  variant_step layer.Boolean = roll-TypeVariant N layer.Boolean
  variant_step (layer.Set element) = roll-TypeVariant N (layer.Set element)
  variant_step (layer.Record fields) = roll-TypeVariant N (layer.Record fields)
  variant_step (layer.Entity name) = roll-TypeVariant N (layer.Entity (bare name))
  variant_step (layer.EntityOrCommon name) = roll-TypeVariant N (layer.EntityOrCommon (bare name))
  variant_step (layer.Extension name) = roll-TypeVariant N (layer.Extension name)

  -- a record type: only its attributes have places
  abbrev pub record_step : RecordType-F N (SchemaType N) (TypeVariant N) (RecordType N) (TypeOfAttribute N) → RecordType N
  record_step r = roll-RecordType N r

  -- the type of an attribute: its annotations have places too
  abbrev pub attribute_step : TypeOfAttribute-F N (SchemaType N) (TypeVariant N) (RecordType N) (TypeOfAttribute N) → TypeOfAttribute N
  attribute_step a = roll-TypeOfAttribute N (record { ty = a.ty; annotations = annotations_unplaced a.annotations; required = a.required })

  -- a type of any depth
  abbrev pub type_unplaced : SchemaType N → SchemaType N
  type_unplaced = fold-SchemaType N (SchemaType N) (TypeVariant N) (RecordType N) (TypeOfAttribute N) type_step variant_step record_step attribute_step

  -- the same of what kind of type it is, of a record type and of the type of an attribute
  abbrev pub variant_unplaced : TypeVariant N → TypeVariant N
  variant_unplaced = fold-TypeVariant N (SchemaType N) (TypeVariant N) (RecordType N) (TypeOfAttribute N) type_step variant_step record_step attribute_step

  abbrev pub record_unplaced : RecordType N → RecordType N
  record_unplaced = fold-RecordType N (SchemaType N) (TypeVariant N) (RecordType N) (TypeOfAttribute N) type_step variant_step record_step attribute_step

  abbrev pub attribute_unplaced : TypeOfAttribute N → TypeOfAttribute N
  attribute_unplaced = fold-TypeOfAttribute N (SchemaType N) (TypeVariant N) (RecordType N) (TypeOfAttribute N) type_step variant_step record_step attribute_step

  -- a shape or a context
  abbrev pub shape_unplaced : AttributesOrContext N → AttributesOrContext N
  shape_unplaced s = shape_of (type_unplaced (type_of_shape s))

  -- a common type
  abbrev pub common_unplaced : CommonType N → CommonType N
  common_unplaced c = record { ty = type_unplaced c.ty; annotations = annotations_unplaced c.annotations; loc = None }

  -- an entity type whose entities have attributes
  abbrev pub standard_unplaced : StandardEntityType N → StandardEntityType N
  standard_unplaced e = record { member_of_types = map bare e.member_of_types; shape = shape_unplaced e.shape; tags = option_map type_unplaced e.tags }

  -- what kind of entity type it is
  abbrev pub kind_unplaced : EntityTypeKind N → EntityTypeKind N
  kind_unplaced (sort.Standard e) = sort.Standard (standard_unplaced e)
  kind_unplaced (sort.Enum choices) = sort.Enum choices

  -- an entity type
  abbrev pub entity_unplaced : EntityType N → EntityType N
  entity_unplaced e = record { kind = kind_unplaced e.kind; annotations = annotations_unplaced e.annotations; loc = None }

  -- what an action applies to
  abbrev pub apply_unplaced : ApplySpec N → ApplySpec N
  apply_unplaced a = record { resource_types = map bare a.resource_types; principal_types = map bare a.principal_types; context = shape_unplaced a.context }

module _ {N : Type 0} (R : ref_name.Ghosts N) (bare : N → N) where
  -- an action as a parent
  abbrev pub uid_unplaced : ActionEntityUID N R → ActionEntityUID N R
  uid_unplaced u = record { ty = option_map bare u.ty; id = u.id; typed = still_typed bare R.may_lack_type u.ty u.typed }

  -- an action; the values of its attributes have no places
  abbrev pub action_unplaced : ActionType N R → ActionType N R
  action_unplaced a = record {
    attributes = a.attributes;
    applies_to = option_map (apply_unplaced bare) a.applies_to;
    member_of = option_map (map uid_unplaced) a.member_of;
    annotations = annotations_unplaced a.annotations;
    loc = None;
  }

  -- the definitions of a namespace
  abbrev pub namespace_unplaced : NamespaceDefinition N R → NamespaceDefinition N R
  namespace_unplaced n = record {
    common_types = map_values (common_unplaced bare) n.common_types;
    entity_types = map_values (entity_unplaced bare) n.entity_types;
    actions = map_values action_unplaced n.actions;
    annotations = annotations_unplaced n.annotations;
  }

  -- a fragment: each namespace with its name
  abbrev pub fragment_unplaced : Fragment N R → Fragment N R
  fragment_unplaced f = record { 0 = map (λ e. (option_map path_unplaced e.0, namespace_unplaced e.1)) f.0 }
