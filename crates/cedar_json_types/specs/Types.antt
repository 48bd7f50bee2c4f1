-- SPDX-License-Identifier: Apache-2.0
-- Types: what is first wrong with a value that has to be one, and which type a value has the shape of.
use Rattle.std.specs.Prelude.{◌≡◌, ◌<◌, ℕ, zero, suc, true, false, Bool, List, [], ◌∷◌, codes, bytes_eq, if◌then◌else◌, Option, Some, None, option_and_then, unwrap_or}
use Rattle.std.specs.Cmp.Lexicographic.{slice_cmp}
use Rattle.std.specs.Ordering.{nat_cmp}
use Rattle.serde_json.specs.Data.{Data, string}
use Rattle.serde_json.specs.Find.{get, as_str}
use Rattle.cedar_names.specs.declared.annotation.Annotations.{Annotations}
use Rattle.cedar_written.specs.WrittenTypes.{TypeLayer, VariantLayer}
use Rattle.cedar_written.specs.declared.raw_name.RawName.{RawName}
use Rattle.cedar_written.specs.declared.ty.SchemaType.{SchemaType, out-SchemaType}
use Rattle.cedar_written.specs.declared.ty.SchemaType.TheOpen as layer
use Rattle.cedar_written.specs.declared.ty.TypeVariant.{TypeVariant, out-TypeVariant}
use Rattle.cedar_written.specs.declared.ty.RecordType.{RecordType, out-RecordType}
use Rattle.cedar_written.specs.declared.ty.TypeOfAttribute.{TypeOfAttribute, out-TypeOfAttribute}
use Rattle.cedar_json_fault.specs.declared.json_fault.JsonFault.TheVariants as fault
use Rattle.cedar_json_fault.specs.declared.json_fault.JsonShape.TheVariants as shape
use Rattle.cedar_json_fault.specs.declared.json_fault.NameKind.TheVariants as what
use Rattle.cedar_json_types.specs.Faults.{Fault, here, first, under, in_text, any_text, no_flag, needs, allows, keys_fault, excess_of, map_fault, entry_fault}
use Rattle.cedar_json_types.specs.Keys.{keys_of, shape_of}
use Rattle.cedar_json_types.specs.Parts.{reference_fault, id_fault, annotations_fault, Names, IsName, IsId, AreAnnotations, NoAnnotations}
use Rattle.cedar_json_types.specs.Shapes.{Keyed, Lacks, At, MayHave, MapOf, Entry, IsFlag}
use Rattle.cedar_json_types.specs.declared.keyed.KeySet.{KeySet}
use Rattle.cedar_json_types.specs.declared.keyed.KeySet.TheVariants as set
use Rattle.cedar_json_types.specs.declared.words.TypeWord.{TypeWord}
use Rattle.cedar_json_types.specs.declared.words.TypeWord.TheVariants as word

-- ---- the word

-- what the text at the key `type` says; any text but these eight is the name of a common type
abbrev pub word_of : List ℕ → TypeWord
word_of w =
    if bytes_eq w (codes "String") then word.String else (if bytes_eq w (codes "Long") then word.Long else (if bytes_eq w (codes "Boolean") then word.Boolean else
    (if bytes_eq w (codes "Set") then word.Set else (if bytes_eq w (codes "Record") then word.Record else (if bytes_eq w (codes "Entity") then word.Entity else
    (if bytes_eq w (codes "EntityOrCommon") then word.EntityOrCommon else (if bytes_eq w (codes "Extension") then word.Extension else word.Other)))))))

-- the text at a key, and no bytes where there is none
abbrev pub text_at : List ℕ → Data → List ℕ
text_at k d = unwrap_or (option_and_then as_str (get k d)) []

-- the keys of a type that a word with no further key doesn't take, and those that `Set`, `Record` and the words with a name don't
abbrev pub not_plain : List (List ℕ)
not_plain = codes "element" ∷ codes "attributes" ∷ codes "additionalAttributes" ∷ codes "name" ∷ []

abbrev pub not_set : List (List ℕ)
not_set = codes "attributes" ∷ codes "additionalAttributes" ∷ codes "name" ∷ []

abbrev pub not_record : List (List ℕ)
not_record = codes "element" ∷ codes "name" ∷ []

abbrev pub not_named : List (List ℕ)
not_named = codes "element" ∷ codes "attributes" ∷ codes "additionalAttributes" ∷ []

-- ---- faults

-- a set or record may not stand where none may nest, nor an array or object of an attribute of an action
abbrev pub too_deep : ℕ → Fault
too_deep zero = Some (here fault.TooDeep)
too_deep (suc n) = None

-- what is wrong with the type of an attribute, behind the type itself
abbrev pub attribute_fault : (Data → Fault) → Data → Fault
attribute_fault type d = first (type d) (first (allows (codes "required") no_flag d) (allows (codes "annotations") annotations_fault d))

-- what is wrong with the attributes of a record
abbrev pub attributes_fault : (Data → Fault) → Data → Fault
attributes_fault type = map_fault (entry_fault any_text (attribute_fault type))

-- the faults behind the word, in their order; `part` says what is wrong with a type inside
abbrev pub word_fault : ℕ → (KeySet → Data → Fault) → TypeWord → Data → Fault
word_fault left part word.String d = excess_of shape.NoFields not_plain d
word_fault left part word.Long d = excess_of shape.NoFields not_plain d
word_fault left part word.Boolean d = excess_of shape.NoFields not_plain d
word_fault left part word.Set d = first (too_deep left) (first (excess_of shape.SetType not_set d) (needs (codes "element") (part set.Type) d))
word_fault left part word.Record d = first (too_deep left) (first (excess_of shape.RecordType not_record d) (first (needs (codes "attributes") (attributes_fault (part set.Attribute)) d) (allows (codes "additionalAttributes") no_flag d)))
word_fault left part word.Entity d = first (excess_of shape.NamedType not_named d) (needs (codes "name") (in_text (reference_fault what.EntityType)) d)
word_fault left part word.EntityOrCommon d = first (excess_of shape.NamedType not_named d) (needs (codes "name") (in_text (reference_fault what.EntityOrCommonType)) d)
word_fault left part word.Extension d = first (excess_of shape.NamedType not_named d) (needs (codes "name") (in_text (id_fault what.ExtensionType)) d)
word_fault left part word.Other d = first (excess_of shape.NoFields not_plain d) (under (codes "type") (reference_fault what.CommonType (text_at (codes "type") d)))

-- the faults up to the word, in their order
abbrev pub head_fault : KeySet → Data → Fault
head_fault set d = first (keys_fault (shape_of set) (keys_of set) d) (needs (codes "type") (in_text any_text) d)

-- the faults of a type, in their order
abbrev pub layer_fault : ℕ → (KeySet → Data → Fault) → KeySet → Data → Fault
layer_fault left part set d = first (head_fault set d) (word_fault left part (word_of (text_at (codes "type") d)) d)

-- the first fault of a type within a set or record, where `left` more of them may nest from that one on
unfoldable pub part_fault : ℕ → KeySet → Data → Fault
part_fault zero set d = None
part_fault (suc n) set d = layer_fault n (part_fault n) set d

-- the first fault of a type, where `left` sets and records may nest
abbrev pub type_fault : ℕ → KeySet → Data → Fault
type_fault left set d = layer_fault left (part_fault left) set d

-- ---- shapes

-- an object with the keys of a type, and with this word
pub record Head (set : KeySet) (d : Data) (w : List ℕ) : Type 0 where
  pub keyed : Keyed (keys_of set) d
  pub typed : get (codes "type") d ≡ Some (string w)

-- the type, whether it is required, and what is said of it
abbrev pub AttributeLayer : (Data → SchemaType RawName → Type 0) → Data → SchemaType RawName → Bool → Annotations → Type 0
AttributeLayer Of d ty required annotations =
    Of d ty × MayHave (codes "required") (λ b. b ≡ true) IsFlag d required × MayHave (codes "annotations") NoAnnotations AreAnnotations d annotations

unfoldable pub AttributeShape : (Data → SchemaType RawName → Type 0) → Data → TypeOfAttribute RawName → Type 0
AttributeShape Of d a = AttributeLayer Of d (out-TypeOfAttribute RawName a).ty (out-TypeOfAttribute RawName a).required (out-TypeOfAttribute RawName a).annotations

-- attributes, which are required unless the value says no
abbrev pub AttributesShape : (Data → SchemaType RawName → Type 0) → Data → List (List ℕ × TypeOfAttribute RawName) → Type 0
AttributesShape Of = MapOf (slice_cmp nat_cmp) (Entry (λ k t. t ≡ k) (AttributeShape Of))

-- the word of a type that is no common type
abbrev pub word_for : VariantLayer RawName → TypeWord
word_for layer.String = word.String
word_for layer.Long = word.Long
word_for layer.Boolean = word.Boolean
word_for (layer.Set element) = word.Set
word_for (layer.Record fields) = word.Record
word_for (layer.Entity name) = word.Entity
word_for (layer.EntityOrCommon name) = word.EntityOrCommon
word_for (layer.Extension name) = word.Extension

-- the keys of a record type
abbrev pub RecordLayer : (Data → SchemaType RawName → Type 0) → Data → List (List ℕ × TypeOfAttribute RawName) → Bool → Type 0
RecordLayer Of d attributes additional = At (codes "attributes") (AttributesShape Of) d attributes × MayHave (codes "additionalAttributes") (λ b. b ≡ false) IsFlag d additional

-- the keys behind the word; Part says which type a value inside has the shape of
abbrev pub VariantParts : ℕ → (KeySet → Data → SchemaType RawName → Type 0) → Data → VariantLayer RawName → Type 0
VariantParts left Part d layer.String = Lacks not_plain d
VariantParts left Part d layer.Long = Lacks not_plain d
VariantParts left Part d layer.Boolean = Lacks not_plain d
VariantParts left Part d (layer.Set element) = (0 < left) × Lacks not_set d × At (codes "element") (Part set.Type) d element
VariantParts left Part d (layer.Record fields) = (0 < left) × Lacks not_record d × RecordLayer (Part set.Attribute) d (out-RecordType RawName fields).attributes (out-RecordType RawName fields).additional_attributes
VariantParts left Part d (layer.Entity name) = Lacks not_named d × At (codes "name") IsName d name
VariantParts left Part d (layer.EntityOrCommon name) = Lacks not_named d × At (codes "name") IsName d name
VariantParts left Part d (layer.Extension name) = Lacks not_named d × At (codes "name") IsId d name

-- one layer of a type, with no place, where `left` sets and records may nest
abbrev pub ShapesLayer : ℕ → (KeySet → Data → SchemaType RawName → Type 0) → KeySet → Data → TypeLayer RawName → Type 0
ShapesLayer left Part set d (layer.Variant ty loc) = (loc ≡ None) × ((w : List ℕ) × Head set d w × (word_of w ≡ word_for (out-TypeVariant RawName ty)) × VariantParts left Part d (out-TypeVariant RawName ty))
ShapesLayer left Part set d (layer.CommonTypeRef name loc) = (loc ≡ None) × ((w : List ℕ) × Head set d w × (word_of w ≡ word.Other) × Lacks not_plain d × Names w name)

-- the value has the shape of the type, in which fewer than so many sets and records nest; at 0 there is none
unfoldable pub Part : ℕ → KeySet → Data → SchemaType RawName → Type 0
Part zero set d t = ⊥
Part (suc left) set d t = ShapesLayer left (Part left) set d (out-SchemaType RawName t)

-- the value has the shape of the type, in which at most `left` sets and records nest
abbrev pub TypeShape : ℕ → KeySet → Data → SchemaType RawName → Type 0
TypeShape left = Part (suc left)

-- the same of a type with this word that is no common type
unfoldable pub VariantShape : ℕ → TypeWord → Data → TypeVariant RawName → Type 0
VariantShape left w d v = (w ≡ word_for (out-TypeVariant RawName v)) × VariantParts left (Part left) d (out-TypeVariant RawName v)
