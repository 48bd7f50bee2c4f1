-- SPDX-License-Identifier: Apache-2.0
-- The steps of a type, in the form that the code has their parts.
use Rattle.std.proofs.Common.{◌≡◌, ℕ, suc, List, codes, Bool, true, false, Option, Some, None, refl, sym, subst, ap, ◌∙◌, ◌-◌, ◌<◌, arith, rules}
use Rattle.serde_json.specs.Data.{Data, string}
use Rattle.serde_json.specs.Find.{get}
use Rattle.cedar_names.specs.declared.annotation.Annotations.{Annotations}
use Rattle.cedar_names.specs.declared.id.UnreservedId.{UnreservedId}
use Rattle.cedar_written.specs.WrittenTypes.{TypeLayer, VariantLayer}
use Rattle.cedar_written.specs.declared.raw_name.RawName.{RawName}
use Rattle.cedar_written.specs.declared.ty.SchemaType.{SchemaType, out-SchemaType, the_lemmas}
use Rattle.cedar_written.specs.declared.ty.SchemaType.TheVariants as type
use Rattle.cedar_written.specs.declared.ty.SchemaType.TheOpen as layer
use Rattle.cedar_written.specs.declared.ty.TypeVariant.{TypeVariant, out-TypeVariant}
use Rattle.cedar_written.specs.declared.ty.TypeVariant.TheVariants as variant
use Rattle.cedar_written.specs.declared.ty.RecordType.{RecordType, out-RecordType, roll-RecordType, out-roll-RecordType}
use Rattle.cedar_written.specs.declared.ty.TypeOfAttribute.{TypeOfAttribute, out-TypeOfAttribute, roll-TypeOfAttribute}
use Rattle.cedar_json_types.specs.Faults.{Fault}
use Rattle.cedar_json_types.specs.Keys.{keys_of}
use Rattle.cedar_json_types.specs.Parts.{Names, IsName, IsId, AreAnnotations, NoAnnotations}
use Rattle.cedar_json_types.specs.Shapes.{Keyed, Lacks, At, MayHave, IsFlag}
use Rattle.cedar_json_types.specs.Types.{AttributeShape, AttributesShape, Head, Part, RecordLayer, ShapesLayer, TypeShape, VariantParts, VariantShape, not_named, not_plain, not_record, not_set, part_fault, type_fault, word_for, word_of}
use Rattle.cedar_json_types.specs.declared.keyed.KeySet.{KeySet}
use Rattle.cedar_json_types.specs.declared.keyed.KeySet.TheVariants as set
use Rattle.cedar_json_types.specs.declared.words.TypeWord.{TypeWord}
use Rattle.cedar_json_types.specs.declared.words.TypeWord.TheVariants as word

-- the code's facts of a head
pub head_made : (set : KeySet) (d : Data) (w : List ℕ) → Keyed (keys_of set) d → get (codes "type") d ≡ Some (string w) → Head set d w
head_made set d w keyed typed = record { keyed = keyed; typed = typed }

-- ---- one level in

pub one_less : (left : ℕ) (set : KeySet) (d : Data) (t : SchemaType RawName) → 0 < left → TypeShape (left - 1) set d t → Part left set d t
one_less left set d t some shape = subst (λ n. Part n set d t) (omega (arith, some)) shape

pub less_fault : (left : ℕ) (set : KeySet) (d : Data) → 0 < left → part_fault left set d ≡ type_fault (left - 1) set d
unfolding part_fault
less_fault left set d some = let deep : left ≡ suc (left - 1) = omega (arith, some) in ap (λ n. part_fault n set d) deep

pub ruleset less = (one_less, less_fault)

-- ---- attributes

pub attribute_made : (Of : Data → SchemaType RawName → Type 0) (d : Data) (ty : SchemaType RawName) (required : Bool) (annotations : Annotations)
    → Of d ty → MayHave (codes "required") (λ b. b ≡ true) IsFlag d required → MayHave (codes "annotations") NoAnnotations AreAnnotations d annotations
    → AttributeShape Of d (roll-TypeOfAttribute RawName (record { ty = ty; annotations = annotations; required = required }))
unfolding AttributeShape
attribute_made Of d ty required annotations typed flag noted = (typed, flag, noted)

pub attribute_put : (Of : Data → SchemaType RawName → Type 0) (d : Data) (read ty : SchemaType RawName) (required : Bool) (annotations : Annotations)
    → Of d read → ty ≡ read → MayHave (codes "required") (λ b. b ≡ true) IsFlag d required → MayHave (codes "annotations") NoAnnotations AreAnnotations d annotations
    → AttributeShape Of d (roll-TypeOfAttribute RawName (record { ty = ty; annotations = annotations; required = required }))
attribute_put Of d read ty required annotations typed same flag noted = attribute_made Of d ty required annotations (subst (λ t. Of d t) (sym same) typed) flag noted

-- ---- what kind of type it is

variant_made : (left : ℕ) (d : Data) (v : TypeVariant RawName) (l : VariantLayer RawName) → out-TypeVariant RawName v ≡ l → VariantParts left (Part left) d l → VariantShape left (word_for l) d v
unfolding VariantShape
variant_made left d v l opened fits = subst (λ m. (word_for l ≡ word_for m) × VariantParts left (Part left) d m) (sym opened) (refl, fits)

pub string_variant : (left : ℕ) (d : Data) → Lacks not_plain d → VariantShape left word.String d variant.String
string_variant left d lacks = variant_made left d variant.String layer.String (search (rules, the_lemmas)) lacks

pub long_variant : (left : ℕ) (d : Data) → Lacks not_plain d → VariantShape left word.Long d variant.Long
long_variant left d lacks = variant_made left d variant.Long layer.Long (search (rules, the_lemmas)) lacks

pub boolean_variant : (left : ℕ) (d : Data) → Lacks not_plain d → VariantShape left word.Boolean d variant.Boolean
boolean_variant left d lacks = variant_made left d variant.Boolean layer.Boolean (search (rules, the_lemmas)) lacks

pub set_variant : (left : ℕ) (d : Data) (t : SchemaType RawName) → 0 < left → Lacks not_set d → At (codes "element") (Part left set.Type) d t → VariantShape left word.Set d (variant.Set t)
set_variant left d t some lacks element = variant_made left d (variant.Set t) (layer.Set t) (search (rules, the_lemmas)) (some, lacks, element)

pub record_variant : (left : ℕ) (d : Data) (attributes : List (List ℕ × TypeOfAttribute RawName)) (additional : Bool) → 0 < left → Lacks not_record d
    → At (codes "attributes") (AttributesShape (Part left set.Attribute)) d attributes → MayHave (codes "additionalAttributes") (λ b. b ≡ false) IsFlag d additional
    → VariantShape left word.Record d (variant.Record (roll-RecordType RawName (record { attributes = attributes; additional_attributes = additional })))
record_variant left d attributes additional some lacks at flag =
    variant_made left d (variant.Record (roll-RecordType RawName (record { attributes = attributes; additional_attributes = additional }))) (layer.Record (roll-RecordType RawName (record { attributes = attributes; additional_attributes = additional })))
    (search (rules, the_lemmas))
    (some, lacks, subst (λ x. RecordLayer (Part left set.Attribute) d x.attributes x.additional_attributes) (sym (out-roll-RecordType RawName (record { attributes = attributes; additional_attributes = additional }))) (at, flag))

pub entity_variant : (left : ℕ) (d : Data) (n : RawName) → Lacks not_named d → At (codes "name") IsName d n → VariantShape left word.Entity d (variant.Entity n)
entity_variant left d n lacks named = variant_made left d (variant.Entity n) (layer.Entity n) (search (rules, the_lemmas)) (lacks, named)

pub entity_or_common_variant : (left : ℕ) (d : Data) (n : RawName) → Lacks not_named d → At (codes "name") IsName d n → VariantShape left word.EntityOrCommon d (variant.EntityOrCommon n)
entity_or_common_variant left d n lacks named = variant_made left d (variant.EntityOrCommon n) (layer.EntityOrCommon n) (search (rules, the_lemmas)) (lacks, named)

pub extension_variant : (left : ℕ) (d : Data) (id : UnreservedId) → Lacks not_named d → At (codes "name") IsId d id → VariantShape left word.Extension d (variant.Extension id)
extension_variant left d id lacks named = variant_made left d (variant.Extension id) (layer.Extension id) (search (rules, the_lemmas)) (lacks, named)

pub ruleset variant_shapes = (string_variant, long_variant, boolean_variant, set_variant, record_variant, entity_variant, entity_or_common_variant, extension_variant)

-- ---- types

type_made : (left : ℕ) (set : KeySet) (d : Data) (t : SchemaType RawName) (l : TypeLayer RawName) → out-SchemaType RawName t ≡ l → ShapesLayer left (Part left) set d l → TypeShape left set d t
unfolding Part
type_made left set d t l opened fits = subst (λ m. ShapesLayer left (Part left) set d m) (sym opened) fits

pub variant_type : (left : ℕ) (set : KeySet) (d : Data) (w : List ℕ) (v : TypeVariant RawName) → Head set d w → VariantShape left (word_of w) d v → TypeShape left set d (type.Variant v None)
unfolding VariantShape
variant_type left set d w v head shape = type_made left set d (type.Variant v None) (layer.Variant v None) (search (rules, the_lemmas)) (refl, (w, head, shape.0, shape.1))

pub common_type : (left : ℕ) (set : KeySet) (d : Data) (w : List ℕ) (n : RawName) → Head set d w → word_of w ≡ word.Other → Lacks not_plain d → Names w n → TypeShape left set d (type.CommonTypeRef n None)
common_type left set d w n head other lacks named = type_made left set d (type.CommonTypeRef n None) (layer.CommonTypeRef n None) (search (rules, the_lemmas)) (refl, (w, head, other, lacks, named))

pub ruleset type_shapes = (variant_type, common_type)
