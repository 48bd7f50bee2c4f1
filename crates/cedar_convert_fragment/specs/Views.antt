-- SPDX-License-Identifier: Apache-2.0
-- What fragments say that code holds.
use Rattle.std.specs.Prelude.{ℕ, List, map, Option}
use Rattle.std.specs.Option.{option_map}
use Rattle.cedar_text.specs.Lists.{elements}
use Rattle.cedar_names.specs.Components.{components, loc_of}
use Rattle.cedar_names.specs.Identifiers.{unreserved_word}
use Rattle.cedar_names.specs.Names.{name_words}
use Rattle.cedar_names.specs.declared.id.UnreservedId.{UnreservedId}
use Rattle.cedar_names.specs.declared.name.Name.{Name}
use Rattle.cedar_tree.specs.Meanings.{annotations_tree}
use Rattle.cedar_tree.specs.declared.ty.PrimitiveType.{PrimitiveType}
use Rattle.cedar_tree.specs.declared.ty.PrimitiveType.TheVariants as primitive
use Rattle.cedar_written.specs.CommonTypeIds.{unreserved_of}
use Rattle.cedar_written.specs.Possibilities.{written as name_written}
use Rattle.cedar_written.specs.declared.common_type_id.CommonTypeId.{CommonTypeId}
use Rattle.cedar_written.specs.declared.raw_name.RawName.{RawName}
use Rattle.cedar_written.specs.declared.ty.SchemaType.{SchemaType, fold-SchemaType}
use Rattle.cedar_written.specs.declared.ty.SchemaType.TheOpen as layer
use Rattle.cedar_written.specs.declared.ty.SchemaType.TheOpen.{SchemaType-F, TypeVariant-F, RecordType-F, TypeOfAttribute-F}
use Rattle.cedar_written.specs.declared.ty.TypeVariant.{TypeVariant, fold-TypeVariant}
use Rattle.cedar_written.specs.declared.ty.TypeVariant.TheVariants as variant
use Rattle.cedar_written.specs.declared.ty.RecordType.{RecordType, fold-RecordType}
use Rattle.cedar_written.specs.declared.ty.TypeOfAttribute.{TypeOfAttribute, fold-TypeOfAttribute}
use Rattle.cedar_fragment.specs.ActionUids.{over_raw, type_in}
use Rattle.cedar_fragment.specs.Shapes.{type_of_shape}
use Rattle.cedar_fragment.specs.declared.action_uid.ActionEntityUID.{ActionEntityUID}
use Rattle.cedar_fragment.specs.declared.definitions.ActionType.{ActionType}
use Rattle.cedar_fragment.specs.declared.definitions.ApplySpec.{ApplySpec}
use Rattle.cedar_fragment.specs.declared.definitions.CommonType.{CommonType}
use Rattle.cedar_fragment.specs.declared.definitions.EntityType.{EntityType}
use Rattle.cedar_fragment.specs.declared.definitions.EntityTypeKind.{EntityTypeKind}
use Rattle.cedar_fragment.specs.declared.definitions.EntityTypeKind.TheVariants as sort
use Rattle.cedar_fragment.specs.declared.definitions.Fragment as held
use Rattle.cedar_fragment.specs.declared.definitions.NamespaceDefinition.{NamespaceDefinition}
use Rattle.cedar_convert_fragment.specs.Fragments.{ActionAt, ActionContent, AppliesTo, Declared, Definition, EntityContent, FieldAt, Form, Fragment, NameAt, TypeAt, fields, written, common_type, string, long, boolean, set_of, record_of, entity, entity_or_common, extension, Shaped, Listed}

-- a name
abbrev pub name_at : RawName → NameAt
name_at n = record { words = components (name_written n); place = loc_of (name_written n) }

-- one layer of a type, where its parts are seen already
abbrev pub see_type : SchemaType-F RawName TypeAt Form Form FieldAt → TypeAt
see_type (layer.Variant form loc) = written form loc
see_type (layer.CommonTypeRef name loc) = common_type (name_at name) loc

abbrev pub see_form : TypeVariant-F RawName TypeAt Form Form FieldAt → Form
see_form layer.String = string
see_form layer.Long = long
see_form layer.Boolean = boolean
see_form (layer.Set element) = set_of element
see_form (layer.Record form) = form
see_form (layer.Entity name) = entity (name_at name)
see_form (layer.EntityOrCommon name) = entity_or_common (name_at name)
see_form (layer.Extension name) = extension (unreserved_word name)

abbrev pub see_record : RecordType-F RawName TypeAt Form Form FieldAt → Form
see_record r = record_of (fields r.attributes) r.additional_attributes

abbrev pub see_attribute : TypeOfAttribute-F RawName TypeAt Form Form FieldAt → FieldAt
see_attribute a = record { ty = a.ty; annotations = annotations_tree a.annotations; required = a.required }

-- a type
abbrev pub type_seen : SchemaType RawName → TypeAt
type_seen = fold-SchemaType RawName TypeAt Form Form FieldAt see_type see_form see_record see_attribute

abbrev pub form_seen : TypeVariant RawName → Form
form_seen = fold-TypeVariant RawName TypeAt Form Form FieldAt see_type see_form see_record see_attribute

abbrev pub record_seen : RecordType RawName → Form
record_seen = fold-RecordType RawName TypeAt Form Form FieldAt see_type see_form see_record see_attribute

abbrev pub attribute_seen : TypeOfAttribute RawName → FieldAt
attribute_seen = fold-TypeOfAttribute RawName TypeAt Form Form FieldAt see_type see_form see_record see_attribute

-- a common type
abbrev pub common_seen : CommonType RawName → Declared TypeAt
common_seen c = record { content = type_seen c.ty; annotations = annotations_tree c.annotations; loc = c.loc }

-- what kind of entity type it is
abbrev pub kind_seen : EntityTypeKind RawName → EntityContent
kind_seen (sort.Standard e) = Shaped (map name_at e.member_of_types) (type_seen (type_of_shape e.shape)) (option_map type_seen e.tags)
kind_seen (sort.Enum choices) = Listed (elements choices)

-- an entity type
abbrev pub entity_seen : EntityType RawName → Declared EntityContent
entity_seen e = record { content = kind_seen e.kind; annotations = annotations_tree e.annotations; loc = e.loc }

-- what an action applies to
abbrev pub apply_seen : ApplySpec RawName → AppliesTo
apply_seen a = record { resources = map name_at a.resource_types; principals = map name_at a.principal_types; context = type_seen (type_of_shape a.context) }

-- an action as a parent
abbrev pub parent_seen : ActionEntityUID RawName over_raw → ActionAt
parent_seen u = record { ty = option_map name_at (type_in u); id = u.id }

-- an action
abbrev pub action_seen : ActionType RawName over_raw → Declared ActionContent
action_seen a = record {
  content = record { attributes = a.attributes; applies_to = option_map apply_seen a.applies_to; member_of = option_map (map parent_seen) a.member_of };
  annotations = annotations_tree a.annotations;
  loc = a.loc;
}

-- the word of the name of a common type
abbrev pub common_word : CommonTypeId → List ℕ
common_word c = unreserved_word (unreserved_of c)

-- what is declared by name
abbrev pub commons_seen : List (CommonTypeId × CommonType RawName) → List (List ℕ × Declared TypeAt)
commons_seen es = map (λ e. (common_word e.0, common_seen e.1)) es

abbrev pub entities_seen : List (UnreservedId × EntityType RawName) → List (List ℕ × Declared EntityContent)
entities_seen es = map (λ e. (unreserved_word e.0, entity_seen e.1)) es

abbrev pub actions_seen : List (List ℕ × ActionType RawName over_raw) → List (List ℕ × Declared ActionContent)
actions_seen es = map (λ e. (e.0, action_seen e.1)) es

-- what a namespace declares
abbrev pub definition_seen : NamespaceDefinition RawName over_raw → Definition
definition_seen n = record {
  common_types = commons_seen n.common_types;
  entity_types = entities_seen n.entity_types;
  actions = actions_seen n.actions;
  annotations = annotations_tree n.annotations;
}

-- the name of a namespace, where it has one
abbrev pub namespace_words : Option Name → Option (List (List ℕ))
namespace_words name = option_map name_words name

-- what namespaces declare, each with its name
abbrev pub namespaces_seen : List (Option Name × NamespaceDefinition RawName over_raw) → Fragment
namespaces_seen es = map (λ e. (namespace_words e.0, definition_seen e.1)) es

-- what a fragment declares
abbrev pub fragment_seen : held.Fragment RawName over_raw → Fragment
fragment_seen f = namespaces_seen f.0

-- a type that is built in
abbrev pub primitive_variant : {N : Type 0} → PrimitiveType → TypeVariant N
primitive_variant primitive.Long = variant.Long
primitive_variant primitive.String = variant.String
primitive_variant primitive.Bool = variant.Boolean
