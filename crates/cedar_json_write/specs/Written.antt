-- SPDX-License-Identifier: Apache-2.0
-- What is written in JSON of a fragment and its parts: the value of each.
use Rattle.std.specs.Prelude.{ℕ, Bool, true, false, not, List, [], ◌∷◌, ◌++◌, map, codes, Option, Some, None}
use Rattle.serde_json.specs.Data.{Data, null, boolean, number, string, array, object, Items, Members, no_members, put}
use Rattle.serde_json.specs.Find.{of_integer}
use Rattle.serde_json.specs.View.{items_of}
use Rattle.cedar_text.specs.Joining.{joined}
use Rattle.cedar_text.specs.Lists.{elements}
use Rattle.cedar_names.specs.Annotating.{annotation_entries}
use Rattle.cedar_names.specs.Components.{components}
use Rattle.cedar_names.specs.Identifiers.{any_word, unreserved_word}
use Rattle.cedar_names.specs.Names.{name_words}
use Rattle.cedar_names.specs.declared.annotation.Annotation.{Annotation}
use Rattle.cedar_names.specs.declared.annotation.Annotations.{Annotations}
use Rattle.cedar_names.specs.declared.any_id.AnyId.{AnyId}
use Rattle.cedar_names.specs.declared.name.Name.{Name}
use Rattle.cedar_types.specs.declared.value.CedarValueJson.{CedarValueJson, fold-CedarValueJson}
use Rattle.cedar_types.specs.declared.value.CedarValueJson.TheOpen as value
use Rattle.cedar_types.specs.declared.value.CedarValueJson.TheOpen.{CedarValueJson-F, ValueList-F, ValueMap-F}
use Rattle.cedar_types.specs.declared.value.ValueList.{ValueList, fold-ValueList}
use Rattle.cedar_types.specs.declared.value.ValueMap.{ValueMap, fold-ValueMap}
use Rattle.cedar_written.specs.CommonTypeIds.{unreserved_of}
use Rattle.cedar_written.specs.Possibilities.{written}
use Rattle.cedar_written.specs.declared.common_type_id.CommonTypeId.{CommonTypeId}
use Rattle.cedar_written.specs.declared.raw_name.RawName.{RawName}
use Rattle.cedar_written.specs.declared.ty.SchemaType.{SchemaType, fold-SchemaType}
use Rattle.cedar_written.specs.declared.ty.SchemaType.TheOpen as layer
use Rattle.cedar_written.specs.declared.ty.SchemaType.TheOpen.{SchemaType-F, TypeVariant-F, RecordType-F, TypeOfAttribute-F}
use Rattle.cedar_written.specs.declared.ty.TypeVariant.{TypeVariant, fold-TypeVariant}
use Rattle.cedar_written.specs.declared.ty.RecordType.{RecordType, fold-RecordType}
use Rattle.cedar_written.specs.declared.ty.TypeOfAttribute.{TypeOfAttribute, fold-TypeOfAttribute}
use Rattle.cedar_fragment.specs.ActionUids.{over_raw, type_in}
use Rattle.cedar_fragment.specs.Printed.{is_empty_type}
use Rattle.cedar_fragment.specs.Shapes.{type_of_shape}
use Rattle.cedar_fragment.specs.declared.action_uid.ActionEntityUID.{ActionEntityUID}
use Rattle.cedar_fragment.specs.declared.attributes_or_context.AttributesOrContext.{AttributesOrContext}
use Rattle.cedar_fragment.specs.declared.definitions.ActionType.{ActionType}
use Rattle.cedar_fragment.specs.declared.definitions.ApplySpec.{ApplySpec}
use Rattle.cedar_fragment.specs.declared.definitions.CommonType.{CommonType}
use Rattle.cedar_fragment.specs.declared.definitions.EntityType.{EntityType}
use Rattle.cedar_fragment.specs.declared.definitions.EntityTypeKind.{EntityTypeKind}
use Rattle.cedar_fragment.specs.declared.definitions.EntityTypeKind.TheVariants as sort
use Rattle.cedar_fragment.specs.declared.definitions.Fragment.{Fragment}
use Rattle.cedar_fragment.specs.declared.definitions.NamespaceDefinition.{NamespaceDefinition}
use Rattle.cedar_fragment.specs.declared.definitions.StandardEntityType.{StandardEntityType}

-- ---- objects and arrays

-- a key, and the value at it
abbrev pub Field : Type 0
Field = List ℕ × Data

-- the members with these put in, one after another
abbrev pub put_all : List Field → Members → Members
put_all [] ms = ms
put_all (f ∷ fs) ms = put_all fs (put f.0 f.1 ms)

-- the object that has these members
abbrev pub object_of : List Field → Data
object_of fs = object (put_all fs no_members)

abbrev pub array_of : List Data → Data
array_of ds = array (items_of ds)

-- the array of these
abbrev pub all_of : {A : Type 0} → (A → Data) → List A → Data
all_of of xs = array_of (map of xs)

-- the object that has these at their keys
abbrev pub each_at : {K V : Type 0} → (K → List ℕ) → (V → Data) → List (K × V) → Data
each_at key of es = object_of (map (λ e. (key e.0, of e.1)) es)

-- ---- members that stand only where they say something

abbrev pub unless : Bool → List ℕ → Data → List Field
unless true k d = []
unless false k d = (k, d) ∷ []

abbrev pub if_some : {A : Type 0} → List ℕ → (A → Data) → Option A → List Field
if_some k of None = []
if_some k of (Some x) = (k, of x) ∷ []

abbrev pub if_any : {A : Type 0} → List ℕ → (List A → Data) → List A → List Field
if_any k of [] = []
if_any k of (x ∷ xs) = (k, of (x ∷ xs)) ∷ []

-- ---- names and annotations

abbrev pub name_text : RawName → List ℕ
name_text n = joined (components (written n))

abbrev pub name_json : RawName → Data
name_json n = string (name_text n)

abbrev pub names_json : List RawName → Data
names_json = all_of name_json

abbrev pub annotation_json : Annotation → Data
annotation_json a = string a.val

abbrev pub annotations_json : List (AnyId × Annotation) → Data
annotations_json = each_at any_word annotation_json

abbrev pub notes : Annotations → List Field
notes a = if_any (codes "annotations") annotations_json (annotation_entries a)

-- ---- types, by the members of their objects

abbrev pub Fields : Type 0
Fields = List Field

-- the word of a type
abbrev pub typed : List ℕ → Field
typed word = (codes "type", string word)

abbrev pub named : List ℕ → RawName → Fields
named word n = typed word ∷ (codes "name", name_json n) ∷ []

abbrev pub type_step : SchemaType-F RawName Fields Fields Fields Fields → Fields
type_step (layer.Variant ty loc) = ty
type_step (layer.CommonTypeRef name loc) = typed (name_text name) ∷ []

abbrev pub variant_step : TypeVariant-F RawName Fields Fields Fields Fields → Fields
variant_step layer.String = typed (codes "String") ∷ []
variant_step layer.Long = typed (codes "Long") ∷ []
variant_step layer.Boolean = typed (codes "Boolean") ∷ []
variant_step (layer.Set element) = typed (codes "Set") ∷ (codes "element", object_of element) ∷ []
variant_step (layer.Record fields) = typed (codes "Record") ∷ fields
variant_step (layer.Entity name) = named (codes "Entity") name
variant_step (layer.EntityOrCommon name) = named (codes "EntityOrCommon") name
variant_step (layer.Extension name) = typed (codes "Extension") ∷ (codes "name", string (unreserved_word name)) ∷ []

-- attributes by their names
abbrev pub attributes_json : List (List ℕ × Fields) → Data
attributes_json = each_at (λ k. k) object_of

abbrev pub record_step : RecordType-F RawName Fields Fields Fields Fields → Fields
record_step r = (codes "attributes", attributes_json r.attributes) ∷ unless (not r.additional_attributes) (codes "additionalAttributes") (boolean true)

abbrev pub attribute_step : TypeOfAttribute-F RawName Fields Fields Fields Fields → Fields
attribute_step a = a.ty ++ (unless a.required (codes "required") (boolean false) ++ notes a.annotations)

abbrev pub type_fields : SchemaType RawName → Fields
type_fields = fold-SchemaType RawName Fields Fields Fields Fields type_step variant_step record_step attribute_step

abbrev pub variant_fields : TypeVariant RawName → Fields
variant_fields = fold-TypeVariant RawName Fields Fields Fields Fields type_step variant_step record_step attribute_step

abbrev pub record_fields : RecordType RawName → Fields
record_fields = fold-RecordType RawName Fields Fields Fields Fields type_step variant_step record_step attribute_step

abbrev pub attribute_fields : TypeOfAttribute RawName → Fields
attribute_fields = fold-TypeOfAttribute RawName Fields Fields Fields Fields type_step variant_step record_step attribute_step

abbrev pub type_json : SchemaType RawName → Data
type_json t = object_of (type_fields t)

abbrev pub attribute_json : TypeOfAttribute RawName → Data
attribute_json a = object_of (attribute_fields a)

-- ---- the values of attributes of actions

abbrev pub value_step : CedarValueJson-F Data Items Fields → Data
value_step value.Null = null
value_step (value.Bool b) = boolean b
value_step (value.Long z) = number (of_integer z)
value_step (value.String t) = string t
value_step (value.Set items) = array items
value_step (value.Record fields) = object_of fields
value_step (value.ExprEscape fields) = object_of fields
value_step (value.EntityEscape fields) = object_of fields
value_step (value.ExtnEscape fields) = object_of fields

abbrev pub list_step : ValueList-F Data Items Fields → Items
list_step l = items_of l.items

abbrev pub map_step : ValueMap-F Data Items Fields → Fields
map_step m = m.map

abbrev pub value_json : CedarValueJson → Data
value_json = fold-CedarValueJson Data Items Fields value_step list_step map_step

abbrev pub list_items : ValueList → Items
list_items = fold-ValueList Data Items Fields value_step list_step map_step

abbrev pub map_fields : ValueMap → Fields
map_fields = fold-ValueMap Data Items Fields value_step list_step map_step

abbrev pub values_json : ValueMap → Data
values_json m = object_of (map_fields m)

-- ---- declarations

-- a shape or a context, unless it is the closed record without attributes
abbrev pub shape_at : List ℕ → AttributesOrContext RawName → Fields
shape_at k s = unless (is_empty_type (type_of_shape s)) k (type_json (type_of_shape s))

abbrev pub common_json : CommonType RawName → Data
common_json c = object_of (type_fields c.ty ++ notes c.annotations)

abbrev pub standard_fields : StandardEntityType RawName → Fields
standard_fields e = if_any (codes "memberOfTypes") names_json e.member_of_types ++ (shape_at (codes "shape") e.shape ++ if_some (codes "tags") type_json e.tags)

abbrev pub kind_fields : EntityTypeKind RawName → Fields
kind_fields (sort.Standard e) = standard_fields e
kind_fields (sort.Enum choices) = (codes "enum", all_of string (elements choices)) ∷ []

abbrev pub entity_json : EntityType RawName → Data
entity_json e = object_of (kind_fields e.kind ++ notes e.annotations)

abbrev pub parent_json : ActionEntityUID RawName over_raw → Data
parent_json a = object_of ((codes "id", string a.id) ∷ if_some (codes "type") name_json (type_in a))

abbrev pub apply_json : ApplySpec RawName → Data
apply_json a = object_of ((codes "resourceTypes", names_json a.resource_types) ∷ (codes "principalTypes", names_json a.principal_types) ∷ shape_at (codes "context") a.context)

abbrev pub action_json : ActionType RawName over_raw → Data
action_json a =
    object_of (if_some (codes "attributes") values_json a.attributes ++ (if_some (codes "appliesTo") apply_json a.applies_to
    ++ (if_some (codes "memberOf") (all_of parent_json) a.member_of ++ notes a.annotations)))

-- ---- namespaces and fragments

abbrev pub common_word : CommonTypeId → List ℕ
common_word id = unreserved_word (unreserved_of id)

abbrev pub namespace_json : NamespaceDefinition RawName over_raw → Data
namespace_json n =
    object_of (if_any (codes "commonTypes") (each_at common_word common_json) n.common_types
    ++ ((codes "entityTypes", each_at unreserved_word entity_json n.entity_types) ∷ (codes "actions", each_at (λ k. k) action_json n.actions) ∷ notes n.annotations))

-- the name of a namespace; that of the unnamed one is empty
abbrev pub namespace_text : Option Name → List ℕ
namespace_text None = []
namespace_text (Some n) = joined (name_words n)

abbrev pub fragment_json : Fragment RawName over_raw → Data
fragment_json f = each_at namespace_text namespace_json f.0
