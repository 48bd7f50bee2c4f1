-- SPDX-License-Identifier: Apache-2.0
-- Structures of a fragment with their places left out.
use Rattle.std.specs.Prelude.{map, None, option_map}
use Rattle.cedar_data.specs.Maps.{map_values}
use Rattle.cedar_names.specs.Annotating.{annotation_entries}
use Rattle.cedar_names.specs.Components.{basename_of, internal_name, namespace_of}
use Rattle.cedar_names.specs.declared.annotation.Annotation.{Annotation}
use Rattle.cedar_names.specs.declared.annotation.Annotations.{Annotations}
use Rattle.cedar_names.specs.declared.internal_name.InternalName.{InternalName}
use Rattle.cedar_names.specs.declared.name.Name.{Name}
use Rattle.cedar_written.specs.Possibilities.{raw_name, written}
use Rattle.cedar_written.specs.WrittenTypes.{TypeLayer, VariantLayer}
use Rattle.cedar_written.specs.declared.raw_name.RawName.{RawName}
use Rattle.cedar_written.specs.declared.ty.SchemaType.{SchemaType, roll-SchemaType, fold-SchemaType}
use Rattle.cedar_written.specs.declared.ty.SchemaType.TheOpen as layer
use Rattle.cedar_written.specs.declared.ty.SchemaType.TheOpen.{RecordType-F, TypeOfAttribute-F}
use Rattle.cedar_written.specs.declared.ty.TypeVariant.{TypeVariant, roll-TypeVariant, fold-TypeVariant}
use Rattle.cedar_written.specs.declared.ty.RecordType.{RecordType, roll-RecordType, fold-RecordType}
use Rattle.cedar_written.specs.declared.ty.TypeOfAttribute.{TypeOfAttribute, roll-TypeOfAttribute, fold-TypeOfAttribute}
use Rattle.cedar_fragment.specs.ActionUids.{over_raw, raw_uid, type_in}
use Rattle.cedar_fragment.specs.Shapes.{shape_of, type_of_shape}
use Rattle.cedar_fragment.specs.declared.action_uid.ActionEntityUID.{ActionEntityUID}
use Rattle.cedar_fragment.specs.declared.attributes_or_context.AttributesOrContext.{AttributesOrContext}
use Rattle.cedar_fragment.specs.declared.definitions.ActionType.{ActionType}
use Rattle.cedar_fragment.specs.declared.definitions.ApplySpec.{ApplySpec}
use Rattle.cedar_fragment.specs.declared.definitions.CommonType.{CommonType}
use Rattle.cedar_fragment.specs.declared.definitions.EntityType.{EntityType}
use Rattle.cedar_fragment.specs.declared.definitions.EntityTypeKind.{EntityTypeKind}
use Rattle.cedar_fragment.specs.declared.definitions.EntityTypeKind.TheVariants as sort
use Rattle.cedar_fragment.specs.declared.definitions.Fragment.{Fragment}
use Rattle.cedar_fragment.specs.declared.definitions.NamespaceDefinition.{NamespaceDefinition}
use Rattle.cedar_fragment.specs.declared.definitions.StandardEntityType.{StandardEntityType}

-- ---- names and annotations

-- a name
abbrev pub internal_unplaced : InternalName → InternalName
internal_unplaced n = internal_name (basename_of n) (namespace_of n) None

-- a name as it is written
abbrev pub name_unplaced : RawName → RawName
name_unplaced n = raw_name (internal_unplaced (written n))

-- the name of a namespace
abbrev pub path_unplaced : Name → Name
path_unplaced n = record { internal = internal_unplaced n.internal; unreserved = n.unreserved }

-- an annotation
abbrev pub note_unplaced : Annotation → Annotation
note_unplaced a = record { val = a.val; loc = None }

-- annotations, each at its key
abbrev pub annotations_unplaced : Annotations → Annotations
annotations_unplaced a = record { map = map_values note_unplaced (annotation_entries a) }

-- ---- types, layer by layer, where the parts of each layer have no places any more

-- a type: its own place is left out, and that of its name
abbrev pub type_step : TypeLayer RawName → SchemaType RawName
type_step (layer.Variant ty loc) = roll-SchemaType RawName (layer.Variant ty None)
type_step (layer.CommonTypeRef name loc) = roll-SchemaType RawName (layer.CommonTypeRef (name_unplaced name) None)

-- what kind of type it is: only names have places
abbrev pub variant_step : VariantLayer RawName → TypeVariant RawName
variant_step layer.String = roll-TypeVariant RawName layer.String
variant_step layer.Long = roll-TypeVariant RawName layer.Long
variant_step layer.Boolean = roll-TypeVariant RawName layer.Boolean
variant_step (layer.Set element) = roll-TypeVariant RawName (layer.Set element)
variant_step (layer.Record fields) = roll-TypeVariant RawName (layer.Record fields)
variant_step (layer.Entity name) = roll-TypeVariant RawName (layer.Entity (name_unplaced name))
variant_step (layer.EntityOrCommon name) = roll-TypeVariant RawName (layer.EntityOrCommon (name_unplaced name))
variant_step (layer.Extension name) = roll-TypeVariant RawName (layer.Extension name)

-- the parts of a record type
abbrev pub RecordParts : Type 0
RecordParts = RecordType-F RawName (SchemaType RawName) (TypeVariant RawName) (RecordType RawName) (TypeOfAttribute RawName)

-- the parts of the type of an attribute
abbrev pub AttributeParts : Type 0
AttributeParts = TypeOfAttribute-F RawName (SchemaType RawName) (TypeVariant RawName) (RecordType RawName) (TypeOfAttribute RawName)

-- a record type: only its attributes have places
abbrev pub record_step : RecordParts → RecordType RawName
record_step r = roll-RecordType RawName r

-- the type of an attribute: its annotations have places too
abbrev pub attribute_step : AttributeParts → TypeOfAttribute RawName
attribute_step a = roll-TypeOfAttribute RawName (record { ty = a.ty; annotations = annotations_unplaced a.annotations; required = a.required })

-- a type of any depth
abbrev pub type_unplaced : SchemaType RawName → SchemaType RawName
type_unplaced = fold-SchemaType RawName (SchemaType RawName) (TypeVariant RawName) (RecordType RawName) (TypeOfAttribute RawName) type_step variant_step record_step attribute_step

-- the same of what kind of type it is, of a record type and of the type of an attribute
abbrev pub variant_unplaced : TypeVariant RawName → TypeVariant RawName
variant_unplaced = fold-TypeVariant RawName (SchemaType RawName) (TypeVariant RawName) (RecordType RawName) (TypeOfAttribute RawName) type_step variant_step record_step attribute_step

abbrev pub record_unplaced : RecordType RawName → RecordType RawName
record_unplaced = fold-RecordType RawName (SchemaType RawName) (TypeVariant RawName) (RecordType RawName) (TypeOfAttribute RawName) type_step variant_step record_step attribute_step

abbrev pub attribute_unplaced : TypeOfAttribute RawName → TypeOfAttribute RawName
attribute_unplaced = fold-TypeOfAttribute RawName (SchemaType RawName) (TypeVariant RawName) (RecordType RawName) (TypeOfAttribute RawName) type_step variant_step record_step attribute_step

-- ---- declarations

-- a shape or a context
abbrev pub shape_unplaced : AttributesOrContext RawName → AttributesOrContext RawName
shape_unplaced s = shape_of (type_unplaced (type_of_shape s))

-- a common type
abbrev pub common_unplaced : CommonType RawName → CommonType RawName
common_unplaced c = record { ty = type_unplaced c.ty; annotations = annotations_unplaced c.annotations; loc = None }

-- an entity type whose entities have attributes
abbrev pub standard_unplaced : StandardEntityType RawName → StandardEntityType RawName
standard_unplaced e = record { member_of_types = map name_unplaced e.member_of_types; shape = shape_unplaced e.shape; tags = option_map type_unplaced e.tags }

-- what kind of entity type it is
abbrev pub kind_unplaced : EntityTypeKind RawName → EntityTypeKind RawName
kind_unplaced (sort.Standard e) = sort.Standard (standard_unplaced e)
kind_unplaced (sort.Enum choices) = sort.Enum choices

-- an entity type
abbrev pub entity_unplaced : EntityType RawName → EntityType RawName
entity_unplaced e = record { kind = kind_unplaced e.kind; annotations = annotations_unplaced e.annotations; loc = None }

-- an action as a parent
abbrev pub parent_unplaced : ActionEntityUID RawName over_raw → ActionEntityUID RawName over_raw
parent_unplaced a = raw_uid (option_map name_unplaced (type_in a)) a.id

-- what an action applies to
abbrev pub apply_unplaced : ApplySpec RawName → ApplySpec RawName
apply_unplaced a = record {
  resource_types = map name_unplaced a.resource_types;
  principal_types = map name_unplaced a.principal_types;
  context = shape_unplaced a.context;
}

-- an action; the values of its attributes have no places
abbrev pub action_unplaced : ActionType RawName over_raw → ActionType RawName over_raw
action_unplaced a = record {
  attributes = a.attributes;
  applies_to = option_map apply_unplaced a.applies_to;
  member_of = option_map (map parent_unplaced) a.member_of;
  annotations = annotations_unplaced a.annotations;
  loc = None;
}

-- ---- namespaces and fragments

-- the definitions of a namespace
abbrev pub namespace_unplaced : NamespaceDefinition RawName over_raw → NamespaceDefinition RawName over_raw
namespace_unplaced n = record {
  common_types = map_values common_unplaced n.common_types;
  entity_types = map_values entity_unplaced n.entity_types;
  actions = map_values action_unplaced n.actions;
  annotations = annotations_unplaced n.annotations;
}

-- a fragment: each namespace with its name
abbrev pub fragment_unplaced : Fragment RawName over_raw → Fragment RawName over_raw
fragment_unplaced f = record { 0 = map (λ e. (option_map path_unplaced e.0, namespace_unplaced e.1)) f.0 }
