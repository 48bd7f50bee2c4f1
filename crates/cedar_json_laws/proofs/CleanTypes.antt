-- SPDX-License-Identifier: Apache-2.0
-- A value that has the shape of a type has no fault.
use Rattle.std.proofs.Common.{◌≡◌, ◌<◌, ℕ, zero, suc, Bool, true, false, List, [], codes, unwrap_or, None, option_and_then, refl, ap, ◌∙◌, arith}
use Rattle.std.specs.Cmp.Lexicographic.{slice_cmp}
use Rattle.std.specs.Ordering.{nat_cmp}
use Rattle.serde_json.specs.Data.{Data, string}
use Rattle.serde_json.specs.Find.{as_str}
use Rattle.cedar_written.specs.WrittenTypes.{TypeLayer, VariantLayer}
use Rattle.cedar_written.specs.declared.raw_name.RawName.{RawName}
use Rattle.cedar_written.specs.declared.ty.SchemaType.{SchemaType, out-SchemaType}
use Rattle.cedar_written.specs.declared.ty.SchemaType.TheOpen as layer
use Rattle.cedar_written.specs.declared.ty.TypeVariant.{out-TypeVariant}
use Rattle.cedar_written.specs.declared.ty.TypeOfAttribute.{TypeOfAttribute, out-TypeOfAttribute}
use Rattle.cedar_json_fault.specs.declared.json_fault.JsonShape.TheVariants as shape
use Rattle.cedar_json_fault.specs.declared.json_fault.NameKind.TheVariants as what
use Rattle.cedar_json_types.specs.Faults.{Fault, in_text, any_text, no_flag, allows, entry_fault}
use Rattle.cedar_json_types.specs.Keys.{keys_of, shape_of}
use Rattle.cedar_json_types.specs.Parts.{reference_fault, id_fault, IsName, IsId, Names}
use Rattle.cedar_json_types.specs.Shapes.{MayHave, Entry, IsFlag, Lacks}
use Rattle.cedar_json_types.specs.Types.{AttributeShape, AttributesShape, Head, Part, ShapesLayer, VariantParts, attribute_fault, attributes_fault, head_fault, layer_fault, not_named, not_plain, not_record, not_set, part_fault, text_at, too_deep, word_fault, word_for, word_of}
use Rattle.cedar_json_types.specs.declared.keyed.KeySet.{KeySet}
use Rattle.cedar_json_types.specs.declared.keyed.KeySet.TheVariants as set
use Rattle.cedar_json_types.specs.declared.words.TypeWord.TheVariants as word
use Rattle.cedar_json_types.proofs.Chains.{under-none}
use Rattle.cedar_json_laws.proofs.CleanParts.{neither_fault, keyed_clean, lacks_clean, needs_clean, at_clean, may_have_clean, map_clean, entry_clean, any_text_clean, flag_clean, name_clean, names_clean, id_clean, notes_clean}

-- some sets and records may nest
pub some_left : (left : ℕ) → 0 < left → too_deep left ≡ None
some_left zero some = absurd (omega (arith, some))
some_left (suc n) some = refl

head_clean : (set : KeySet) (d : Data) (w : List ℕ) → Head set d w → head_fault set d ≡ None
head_clean set d w head = neither_fault _ _ (keyed_clean (shape_of set) (keys_of set) d head.keyed) (needs_clean (codes "type") (in_text any_text) d (string w) head.typed refl)

word_there : (set : KeySet) (d : Data) (w : List ℕ) → Head set d w → text_at (codes "type") d ≡ w
word_there set d w head = ap (λ o. unwrap_or (option_and_then as_str o) []) head.typed

flag_may : (k : List ℕ) (absent : Bool) (d : Data) (b : Bool) → MayHave k (λ b. b ≡ absent) IsFlag d b → allows k no_flag d ≡ None
flag_may k absent d b is = may_have_clean IsFlag no_flag flag_clean k (λ b. b ≡ absent) d b is

module _ (Of : Data → SchemaType RawName → Type 0) (type : Data → Fault) (clean : (d : Data) (t : SchemaType RawName) → Of d t → type d ≡ None) where
  pub attribute_clean : (d : Data) (a : TypeOfAttribute RawName) → AttributeShape Of d a → attribute_fault type d ≡ None
  unfolding AttributeShape
  attribute_clean d a is =
      neither_fault _ _ (clean d (out-TypeOfAttribute RawName a).ty is.0)
      (neither_fault _ _ (flag_may (codes "required") true d (out-TypeOfAttribute RawName a).required is.1) (notes_clean d (out-TypeOfAttribute RawName a).annotations is.2))

  pub attributes_clean : (d : Data) (es : List (List ℕ × TypeOfAttribute RawName)) → AttributesShape Of d es → attributes_fault type d ≡ None
  attributes_clean d es are = map_clean (Entry (λ k t. t ≡ k) (AttributeShape Of)) (entry_fault any_text (attribute_fault type)) (entry_clean (λ k t. t ≡ k) (AttributeShape Of) any_text (attribute_fault type) any_text_clean attribute_clean) (slice_cmp nat_cmp) d es are

module _ (left : ℕ) (clean : (set : KeySet) (d : Data) (t : SchemaType RawName) → Part left set d t → part_fault left set d ≡ None) where
  variant_clean : (d : Data) (v : VariantLayer RawName) → VariantParts left (Part left) d v → word_fault left (part_fault left) (word_for v) d ≡ None
  variant_clean d layer.String lacks = lacks_clean shape.NoFields not_plain d lacks
  variant_clean d layer.Long lacks = lacks_clean shape.NoFields not_plain d lacks
  variant_clean d layer.Boolean lacks = lacks_clean shape.NoFields not_plain d lacks
  variant_clean d (layer.Set element) is =
      neither_fault _ _ (some_left left is.0) (neither_fault _ _ (lacks_clean shape.SetType not_set d is.1)
      (at_clean (Part left set.Type) (part_fault left set.Type) (clean set.Type) (codes "element") d element is.2))
  variant_clean d (layer.Record fields) is =
      neither_fault _ _ (some_left left is.0) (neither_fault _ _ (lacks_clean shape.RecordType not_record d is.1)
      (neither_fault _ _ (at_clean (AttributesShape (Part left set.Attribute)) (attributes_fault (part_fault left set.Attribute)) (attributes_clean (Part left set.Attribute) (part_fault left set.Attribute) (clean set.Attribute)) (codes "attributes") d _ is.2.0)
      (flag_may (codes "additionalAttributes") false d _ is.2.1)))
  variant_clean d (layer.Entity name) is = neither_fault _ _ (lacks_clean shape.NamedType not_named d is.0) (at_clean IsName (in_text (reference_fault what.EntityType)) (name_clean what.EntityType) (codes "name") d name is.1)
  variant_clean d (layer.EntityOrCommon name) is = neither_fault _ _ (lacks_clean shape.NamedType not_named d is.0) (at_clean IsName (in_text (reference_fault what.EntityOrCommonType)) (name_clean what.EntityOrCommonType) (codes "name") d name is.1)
  variant_clean d (layer.Extension name) is = neither_fault _ _ (lacks_clean shape.NamedType not_named d is.0) (at_clean IsId (in_text (id_fault what.ExtensionType)) (id_clean what.ExtensionType) (codes "name") d name is.1)

  common_clean : (d : Data) (w : List ℕ) (n : RawName) → text_at (codes "type") d ≡ w → Lacks not_plain d → Names w n → word_fault left (part_fault left) word.Other d ≡ None
  common_clean d w n there lacks named =
      neither_fault _ _ (lacks_clean shape.NoFields not_plain d lacks)
      (under-none (codes "type") (reference_fault what.CommonType (text_at (codes "type") d)) (ap (reference_fault what.CommonType) there ∙ names_clean what.CommonType w n named))

  layer_clean : (set : KeySet) (d : Data) (l : TypeLayer RawName) → ShapesLayer left (Part left) set d l → layer_fault left (part_fault left) set d ≡ None
  layer_clean set d (layer.Variant ty loc) is =
      let w = is.1.0 in
      neither_fault _ _ (head_clean set d w is.1.1) (ap (λ x. word_fault left (part_fault left) x d) (ap word_of (word_there set d w is.1.1) ∙ is.1.2) ∙ variant_clean d (out-TypeVariant RawName ty) is.1.3)
  layer_clean set d (layer.CommonTypeRef name loc) is =
      let w = is.1.0 in
      neither_fault _ _ (head_clean set d w is.1.1) (ap (λ x. word_fault left (part_fault left) x d) (ap word_of (word_there set d w is.1.1) ∙ is.1.2) ∙ common_clean d w name (word_there set d w is.1.1) is.1.3 is.1.4)

pub part_clean : (left : ℕ) (set : KeySet) (d : Data) (t : SchemaType RawName) → Part left set d t → part_fault left set d ≡ None
unfolding Part part_fault
part_clean zero set d t is = refl
part_clean (suc left) set d t is = layer_clean left (part_clean left) set d (out-SchemaType RawName t) is
