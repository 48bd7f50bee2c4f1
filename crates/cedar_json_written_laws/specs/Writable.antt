-- SPDX-License-Identifier: Apache-2.0
-- Which structures are read back from what is written of them in JSON. Beside the conditions of the subject each map has to
-- be in the order of its keys: each is, but here it is a list of entries, of which that isn't known.
use Rattle.std.specs.Prelude.{◌≡◌, ◌<◌, ◌^◌, ⊤, ℕ, zero, suc, ℤ, pos, negsuc, true, false, List, [], codes, Option, Some, None, IfSome}
use Rattle.std.specs.Cmp.Lexicographic.{slice_cmp}
use Rattle.std.specs.List.{AllByRecursion}
use Rattle.std.specs.Map.{keys_of}
use Rattle.std.specs.Option.{option_cmp}
use Rattle.std.specs.Ordering.{nat_cmp}
use Rattle.cedar_data.specs.Maps.{IsSortedMap}
use Rattle.cedar_text.specs.Words.{has_word}
use Rattle.cedar_names.specs.Annotating.{annotation_entries, any_cmp}
use Rattle.cedar_names.specs.Names.{name_cmp}
use Rattle.cedar_names.specs.declared.annotation.Annotations.{Annotations}
use Rattle.cedar_names.specs.declared.name.Name.{Name}
use Rattle.cedar_types.specs.Values.{list_values, members}
use Rattle.cedar_types.specs.declared.value.CedarValueJson.{CedarValueJson, out-CedarValueJson}
use Rattle.cedar_types.specs.declared.value.CedarValueJson.TheOpen as one
use Rattle.cedar_types.specs.declared.value.ValueMap.{ValueMap}
use Rattle.cedar_written.specs.CommonTypeIds.{is_reserved_basename}
use Rattle.cedar_written.specs.WrittenTypes.{TypeLayer, VariantLayer}
use Rattle.cedar_written.specs.declared.common_type_id.CommonTypeId.{CommonTypeId}
use Rattle.cedar_written.specs.declared.raw_name.RawName.{RawName}
use Rattle.cedar_written.specs.declared.ty.SchemaType.{SchemaType, out-SchemaType}
use Rattle.cedar_written.specs.declared.ty.SchemaType.TheOpen as layer
use Rattle.cedar_written.specs.declared.ty.TypeVariant.{out-TypeVariant}
use Rattle.cedar_written.specs.declared.ty.RecordType.{out-RecordType}
use Rattle.cedar_written.specs.declared.ty.TypeOfAttribute.{TypeOfAttribute, out-TypeOfAttribute}
use Rattle.cedar_fragment.specs.ActionUids.{over_raw}
use Rattle.cedar_fragment.specs.Shapes.{type_of_shape}
use Rattle.cedar_fragment.specs.declared.attributes_or_context.AttributesOrContext.{AttributesOrContext}
use Rattle.cedar_fragment.specs.declared.definitions.ActionType.{ActionType}
use Rattle.cedar_fragment.specs.declared.definitions.ApplySpec.{ApplySpec}
use Rattle.cedar_fragment.specs.declared.definitions.CommonType.{CommonType}
use Rattle.cedar_fragment.specs.declared.definitions.EntityType.{EntityType}
use Rattle.cedar_fragment.specs.declared.definitions.EntityTypeKind.{EntityTypeKind}
use Rattle.cedar_fragment.specs.declared.definitions.EntityTypeKind.TheVariants as sort
use Rattle.cedar_fragment.specs.declared.definitions.Fragment.{Fragment}
use Rattle.cedar_fragment.specs.declared.definitions.NamespaceDefinition.{NamespaceDefinition}
use Rattle.cedar_json_types.specs.Types.{word_of}
use Rattle.cedar_json_types.specs.declared.words.TypeWord.TheVariants as word
use Rattle.cedar_json_values.specs.ActionValues.{OneValue}
use Rattle.cedar_json_namespaces.specs.Namespaces.{common_cmp, id_cmp}
use Rattle.cedar_json_write.specs.Written.{common_word, name_text}

-- ---- annotations and types

-- annotations in the order of their keys
abbrev pub InOrder : Annotations → Type 0
InOrder a = IsSortedMap any_cmp (annotation_entries a)

-- an attribute, where Inside says which types are written within a set or record
abbrev pub WritableAttribute : (SchemaType RawName → Type 0) → TypeOfAttribute RawName → Type 0
WritableAttribute Inside a = Inside (out-TypeOfAttribute RawName a).ty × InOrder (out-TypeOfAttribute RawName a).annotations

-- attributes in the order of their names
abbrev pub WritableAttributes : (SchemaType RawName → Type 0) → List (List ℕ × TypeOfAttribute RawName) → Type 0
WritableAttributes Inside es = IsSortedMap (slice_cmp nat_cmp) es × AllByRecursion (λ e. WritableAttribute Inside e.1) es

-- a set or record stands where `left` more of them may nest
abbrev pub WritableVariant : ℕ → (SchemaType RawName → Type 0) → VariantLayer RawName → Type 0
WritableVariant left Inside (layer.Set element) = (0 < left) × Inside element
WritableVariant left Inside (layer.Record r) = (0 < left) × WritableAttributes Inside (out-RecordType RawName r).attributes
WritableVariant left Inside _ = ⊤

-- the name of a common type is none of the words of types
abbrev pub WritableLayer : ℕ → (SchemaType RawName → Type 0) → TypeLayer RawName → Type 0
WritableLayer left Inside (layer.Variant ty loc) = WritableVariant left Inside (out-TypeVariant RawName ty)
WritableLayer left Inside (layer.CommonTypeRef name loc) = word_of (name_text name) ≡ word.Other

-- a type in which fewer than so many sets and records nest; at 0 there is none
unfoldable pub Writable : ℕ → SchemaType RawName → Type 0
Writable zero t = ⊥
Writable (suc left) t = WritableLayer left (Writable left) (out-SchemaType RawName t)

-- ---- values of attributes of actions

-- a whole number of 64 bits, as each is
abbrev pub Fits : ℤ → Type 0
Fits (pos n) = n < 2 ^ 63
Fits (negsuc n) = ⊤

-- a value has this name, and none has
abbrev pub HasName : ValueMap → List ℕ → Type 0
HasName m k = has_word (keys_of (members m)) k ≡ true

abbrev pub LacksName : ValueMap → List ℕ → Type 0
LacksName m k = has_word (keys_of (members m)) k ≡ false

-- the first of the three names of escapes that is there is the one of the escape; a record has none of them
abbrev pub IsEscapeOf : OneValue → Type 0
IsEscapeOf (one.ExprEscape m) = HasName m (codes "__expr")
IsEscapeOf (one.EntityEscape m) = LacksName m (codes "__expr") × HasName m (codes "__entity")
IsEscapeOf (one.ExtnEscape m) = LacksName m (codes "__expr") × LacksName m (codes "__entity") × HasName m (codes "__extn")
IsEscapeOf (one.Record m) = LacksName m (codes "__expr") × LacksName m (codes "__entity") × LacksName m (codes "__extn")
IsEscapeOf _ = ⊤

-- values in the order of their names, where Inside says which are written within another
abbrev pub WritableMembers : (CedarValueJson → Type 0) → ValueMap → Type 0
WritableMembers Inside m = IsSortedMap (slice_cmp nat_cmp) (members m) × AllByRecursion (λ e. Inside e.1) (members m)

-- an array or object stands where `left` more of them may nest
abbrev pub WritableOne : ℕ → (CedarValueJson → Type 0) → OneValue → Type 0
WritableOne left Inside (one.Long z) = Fits z
WritableOne left Inside (one.Set l) = (0 < left) × AllByRecursion Inside (list_values l)
WritableOne left Inside (one.Record m) = (0 < left) × WritableMembers Inside m
WritableOne left Inside (one.ExprEscape m) = (0 < left) × WritableMembers Inside m
WritableOne left Inside (one.EntityEscape m) = (0 < left) × WritableMembers Inside m
WritableOne left Inside (one.ExtnEscape m) = (0 < left) × WritableMembers Inside m
WritableOne left Inside _ = ⊤

-- a value in which fewer than so many arrays and objects nest; at 0 there is none
unfoldable pub WritableValue : ℕ → CedarValueJson → Type 0
WritableValue zero v = ⊥
WritableValue (suc left) v = IsEscapeOf (out-CedarValueJson v) × WritableOne left (WritableValue left) (out-CedarValueJson v)

-- the attributes of an action, in each of which at most 128 arrays and objects nest
abbrev pub WritableValues : ValueMap → Type 0
WritableValues = WritableMembers (WritableValue 129)

-- ---- declarations

-- at most 128 sets and records nest in the type
abbrev pub WritableType : SchemaType RawName → Type 0
WritableType = Writable 129

-- a shape or a context
abbrev pub WritableShape : AttributesOrContext RawName → Type 0
WritableShape s = WritableType (type_of_shape s)

-- a common type
abbrev pub WritableCommon : CommonType RawName → Type 0
WritableCommon c = WritableType c.ty × InOrder c.annotations

-- what kind of entity type it is
abbrev pub WritableKind : EntityTypeKind RawName → Type 0
WritableKind (sort.Standard e) = WritableShape e.shape × IfSome e.tags WritableType
WritableKind (sort.Enum choices) = ⊤

-- an entity type
abbrev pub WritableEntity : EntityType RawName → Type 0
WritableEntity e = WritableKind e.kind × InOrder e.annotations

-- what an action applies to
abbrev pub WritableApply : ApplySpec RawName → Type 0
WritableApply a = WritableShape a.context

-- an action; one without attributes asks nothing of them
abbrev pub WritableAction : ActionType RawName over_raw → Type 0
WritableAction a = IfSome a.attributes WritableValues × IfSome a.applies_to WritableApply × InOrder a.annotations

-- ---- namespaces and fragments

-- no identifier of a common type is reserved
abbrev pub WritableCommonEntry : CommonTypeId × CommonType RawName → Type 0
WritableCommonEntry e = (is_reserved_basename (common_word e.0) ≡ false) × WritableCommon e.1

-- the definitions of a namespace
abbrev pub WritableNamespace : NamespaceDefinition RawName over_raw → Type 0
WritableNamespace n =
    (IsSortedMap common_cmp n.common_types × AllByRecursion WritableCommonEntry n.common_types)
    × (IsSortedMap id_cmp n.entity_types × AllByRecursion (λ e. WritableEntity e.1) n.entity_types)
    × (IsSortedMap (slice_cmp nat_cmp) n.actions × AllByRecursion (λ e. WritableAction e.1) n.actions) × InOrder n.annotations

-- the unnamed namespace has no annotations
abbrev pub IsBareUnnamed : Option Name → NamespaceDefinition RawName over_raw → Type 0
IsBareUnnamed None n = annotation_entries n.annotations ≡ []
IsBareUnnamed (Some name) n = ⊤

-- a namespace with its name
abbrev pub WritableEntry : Option Name × NamespaceDefinition RawName over_raw → Type 0
WritableEntry e = IsBareUnnamed e.0 e.1 × WritableNamespace e.1

-- a fragment
abbrev pub WritableFragment : Fragment RawName over_raw → Type 0
WritableFragment f = IsSortedMap (option_cmp name_cmp) f.0 × AllByRecursion WritableEntry f.0
