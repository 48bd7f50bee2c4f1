-- SPDX-License-Identifier: Apache-2.0
-- A value without a fault as a type has the shape of one.
use Rattle.std.proofs.Common.{◌≡◌, ◌<◌, ℕ, zero, suc, Bool, true, false, List, [], codes, unwrap_or, Some, None, option_and_then, refl, sym, ap, ◌∙◌, subst, arith}
use Rattle.std.specs.Cmp.Lexicographic.{slice_cmp}
use Rattle.std.specs.Ordering.{nat_cmp}
use Rattle.serde_json.specs.Data.{Data}
use Rattle.serde_json.specs.Find.{as_str}
use Rattle.cedar_names.specs.declared.annotation.Annotations.{Annotations}
use Rattle.cedar_written.specs.declared.raw_name.RawName.{RawName}
use Rattle.cedar_written.specs.declared.ty.SchemaType.{SchemaType}
use Rattle.cedar_written.specs.declared.ty.SchemaType.TheVariants as type
use Rattle.cedar_written.specs.declared.ty.TypeVariant.{TypeVariant}
use Rattle.cedar_written.specs.declared.ty.TypeVariant.TheVariants as variant
use Rattle.cedar_written.specs.declared.ty.RecordType.{roll-RecordType}
use Rattle.cedar_written.specs.declared.ty.TypeOfAttribute.{TypeOfAttribute, roll-TypeOfAttribute}
use Rattle.cedar_json_fault.specs.declared.json_fault.JsonShape.TheVariants as shape
use Rattle.cedar_json_fault.specs.declared.json_fault.NameKind.TheVariants as what
use Rattle.cedar_json_types.specs.Faults.{Fault, allows, any_text, excess_of, first, in_text, keys_fault, needs, no_flag, under}
use Rattle.cedar_json_types.specs.Keys.{keys_of, shape_of}
use Rattle.cedar_json_types.specs.Parts.{AreAnnotations, IsId, IsName, NoAnnotations, annotations_fault, id_fault, reference_fault}
use Rattle.cedar_json_types.specs.Shapes.{IsFlag, MayHave}
use Rattle.cedar_json_types.specs.Types.{AttributeShape, AttributesShape, Head, Part, TypeShape, VariantShape, attribute_fault, attributes_fault, head_fault, layer_fault, not_named, not_plain, not_record, not_set, part_fault, text_at, too_deep, word_fault, word_of}
use Rattle.cedar_json_types.specs.declared.keyed.KeySet.{KeySet}
use Rattle.cedar_json_types.specs.declared.keyed.KeySet.TheVariants as set
use Rattle.cedar_json_types.specs.declared.words.TypeWord.{TypeWord}
use Rattle.cedar_json_types.specs.declared.words.TypeWord.TheVariants as word
use Rattle.cedar_json_types.proofs.TypeLemmas.{attribute_made, boolean_variant, common_type, entity_or_common_variant, entity_variant, extension_variant, long_variant, record_variant, set_variant, string_variant, variant_type}
use Rattle.cedar_json_shape_laws.proofs.Members.{at_shaped, entries_shaped, in_needed, may_have_shaped, text_key}
use Rattle.cedar_json_shape_laws.proofs.Names.{annotations_shaped, is_id_shaped, name_shaped, reference_shaped}
use Rattle.cedar_json_shape_laws.proofs.Steps.{a_flag, a_text, keyed, lacks, neither, not_under}

-- more may nest where that is no fault
pub more_left : (left : ℕ) → too_deep left ≡ None → 0 < left
more_left zero none = absurd (cc)
more_left (suc n) none = omega arith

-- the value of a key that is true or false, or of an absent one
flag_shaped : (k : List ℕ) (absent : Bool) (d : Data) → allows k no_flag d ≡ None → (b : Bool) × MayHave k (λ b. b ≡ absent) IsFlag d b
flag_shaped k absent d none = may_have_shaped IsFlag no_flag a_flag k (λ b. b ≡ absent) absent refl d none

pub notes_shaped : (d : Data) → allows (codes "annotations") annotations_fault d ≡ None → (a : Annotations) × MayHave (codes "annotations") NoAnnotations AreAnnotations d a
notes_shaped d none = may_have_shaped AreAnnotations annotations_fault annotations_shaped (codes "annotations") NoAnnotations (record { map = [] }) refl d none

-- ---- attributes

module _ (Of : Data → SchemaType RawName → Type 0) (fault : Data → Fault) (shaped : (d : Data) → fault d ≡ None → (t : SchemaType RawName) × Of d t) where
  pub attribute_shaped : (d : Data) → attribute_fault fault d ≡ None → (a : TypeOfAttribute RawName) × AttributeShape Of d a
  attribute_shaped d none =
      let both = neither (fault d) (first (allows (codes "required") no_flag d) (allows (codes "annotations") annotations_fault d)) none in
      let last = neither (allows (codes "required") no_flag d) (allows (codes "annotations") annotations_fault d) both.1 in
      let ty = shaped d both.0 in
      let required = flag_shaped (codes "required") true d last.0 in
      let notes = notes_shaped d last.1 in
      (roll-TypeOfAttribute RawName (record { ty = ty.0; annotations = notes.0; required = required.0 }), attribute_made Of d ty.0 required.0 notes.0 ty.1 required.1 notes.1)

  attributes_shaped : (d : Data) → attributes_fault fault d ≡ None → (es : List (List ℕ × TypeOfAttribute RawName)) × AttributesShape Of d es
  attributes_shaped d none = entries_shaped (λ k t. t ≡ k) (AttributeShape Of) any_text (attribute_fault fault) text_key attribute_shaped (slice_cmp nat_cmp) d none

-- ---- the head of a type

head_shaped : (set : KeySet) (d : Data) → head_fault set d ≡ None → (w : List ℕ) × Head set d w
head_shaped set d none =
    let both = neither (keys_fault (shape_of set) (keys_of set) d) (needs (codes "type") (in_text any_text) d) none in
    let typed = in_needed (codes "type") (in_text any_text) d both.1 in
    let text = a_text any_text typed.0 typed.2 in
    (text.0, record { keyed = keyed (shape_of set) (keys_of set) d both.0; typed = typed.1 ∙ ap Some text.1 })

word_there : (set : KeySet) (d : Data) (w : List ℕ) → Head set d w → text_at (codes "type") d ≡ w
word_there set d w head = ap (λ o. unwrap_or (option_and_then as_str o) []) head.typed

-- ---- what kind of type it is

module _ (left : ℕ) (shaped : (set : KeySet) (d : Data) → 0 < left → part_fault left set d ≡ None → (t : SchemaType RawName) × Part left set d t) where
  abbrev fault : TypeWord → Data → Fault
  fault = word_fault left (part_fault left)

  set_shaped : (d : Data) → fault word.Set d ≡ None → (v : TypeVariant RawName) × VariantShape left word.Set d v
  set_shaped d none =
      let deep = neither (too_deep left) _ none in
      let both = neither (excess_of shape.SetType not_set d) (needs (codes "element") (part_fault left set.Type) d) deep.1 in
      let some = more_left left deep.0 in
      let element = at_shaped (Part left set.Type) (part_fault left set.Type) (λ e. shaped set.Type e some) (codes "element") d both.1 in
      (variant.Set element.0, set_variant left d element.0 some (lacks shape.SetType not_set d both.0) element.1)

  record_shaped : (d : Data) → fault word.Record d ≡ None → (v : TypeVariant RawName) × VariantShape left word.Record d v
  record_shaped d none =
      let attributes = attributes_fault (part_fault left set.Attribute) in
      let deep = neither (too_deep left) _ none in
      let keys = neither (excess_of shape.RecordType not_record d) _ deep.1 in
      let both = neither (needs (codes "attributes") attributes d) (allows (codes "additionalAttributes") no_flag d) keys.1 in
      let some = more_left left deep.0 in
      let at = at_shaped (AttributesShape (Part left set.Attribute)) attributes (attributes_shaped (Part left set.Attribute) (part_fault left set.Attribute) (λ e. shaped set.Attribute e some)) (codes "attributes") d both.0 in
      let additional = flag_shaped (codes "additionalAttributes") false d both.1 in
      (variant.Record (roll-RecordType RawName (record { attributes = at.0; additional_attributes = additional.0 })), record_variant left d at.0 additional.0 some (lacks shape.RecordType not_record d keys.0) at.1 additional.1)

  entity_shaped : (d : Data) → fault word.Entity d ≡ None → (v : TypeVariant RawName) × VariantShape left word.Entity d v
  entity_shaped d none =
      let both = neither (excess_of shape.NamedType not_named d) (needs (codes "name") (in_text (reference_fault what.EntityType)) d) none in
      let name = at_shaped IsName (in_text (reference_fault what.EntityType)) (name_shaped what.EntityType) (codes "name") d both.1 in
      (variant.Entity name.0, entity_variant left d name.0 (lacks shape.NamedType not_named d both.0) name.1)

  entity_or_common_shaped : (d : Data) → fault word.EntityOrCommon d ≡ None → (v : TypeVariant RawName) × VariantShape left word.EntityOrCommon d v
  entity_or_common_shaped d none =
      let both = neither (excess_of shape.NamedType not_named d) (needs (codes "name") (in_text (reference_fault what.EntityOrCommonType)) d) none in
      let name = at_shaped IsName (in_text (reference_fault what.EntityOrCommonType)) (name_shaped what.EntityOrCommonType) (codes "name") d both.1 in
      (variant.EntityOrCommon name.0, entity_or_common_variant left d name.0 (lacks shape.NamedType not_named d both.0) name.1)

  extension_shaped : (d : Data) → fault word.Extension d ≡ None → (v : TypeVariant RawName) × VariantShape left word.Extension d v
  extension_shaped d none =
      let both = neither (excess_of shape.NamedType not_named d) (needs (codes "name") (in_text (id_fault what.ExtensionType)) d) none in
      let id = at_shaped IsId (in_text (id_fault what.ExtensionType)) (is_id_shaped what.ExtensionType) (codes "name") d both.1 in
      (variant.Extension id.0, extension_variant left d id.0 (lacks shape.NamedType not_named d both.0) id.1)

  -- ---- types

  common_shaped : (set : KeySet) (d : Data) (w : List ℕ) → Head set d w → word_of w ≡ word.Other → fault word.Other d ≡ None → (t : SchemaType RawName) × TypeShape left set d t
  common_shaped set d w head other none =
      let reference = reference_fault what.CommonType in
      let both = neither (excess_of shape.NoFields not_plain d) (under (codes "type") (reference (text_at (codes "type") d))) none in
      let clean = sym (ap reference (word_there set d w head)) ∙ not_under (codes "type") (reference (text_at (codes "type") d)) both.1 in
      let name = reference_shaped what.CommonType w clean in
      (type.CommonTypeRef name.0 None, common_type left set d w name.0 head other (lacks shape.NoFields not_plain d both.0) name.1)

  -- a type of this kind, where the word says so
  of_variant : (set : KeySet) (d : Data) (w : List ℕ) (kind : TypeWord) → Head set d w → word_of w ≡ kind → (v : TypeVariant RawName) → VariantShape left kind d v → (t : SchemaType RawName) × TypeShape left set d t
  of_variant set d w kind head is v fits = (type.Variant v None, variant_type left set d w v head (subst (λ x. VariantShape left x d v) (sym is) fits))

  word_shaped : (set : KeySet) (d : Data) (w : List ℕ) (kind : TypeWord) → Head set d w → word_of w ≡ kind → fault kind d ≡ None → (t : SchemaType RawName) × TypeShape left set d t
  word_shaped set d w word.String head is none = of_variant set d w word.String head is variant.String (string_variant left d (lacks shape.NoFields not_plain d none))
  word_shaped set d w word.Long head is none = of_variant set d w word.Long head is variant.Long (long_variant left d (lacks shape.NoFields not_plain d none))
  word_shaped set d w word.Boolean head is none = of_variant set d w word.Boolean head is variant.Boolean (boolean_variant left d (lacks shape.NoFields not_plain d none))
  word_shaped set d w word.Set head is none = let made = set_shaped d none in of_variant set d w word.Set head is made.0 made.1
  word_shaped set d w word.Record head is none = let made = record_shaped d none in of_variant set d w word.Record head is made.0 made.1
  word_shaped set d w word.Entity head is none = let made = entity_shaped d none in of_variant set d w word.Entity head is made.0 made.1
  word_shaped set d w word.EntityOrCommon head is none = let made = entity_or_common_shaped d none in of_variant set d w word.EntityOrCommon head is made.0 made.1
  word_shaped set d w word.Extension head is none = let made = extension_shaped d none in of_variant set d w word.Extension head is made.0 made.1
  word_shaped set d w word.Other head is none = common_shaped set d w head is none

  layer_shaped : (set : KeySet) (d : Data) → layer_fault left (part_fault left) set d ≡ None → (t : SchemaType RawName) × TypeShape left set d t
  layer_shaped set d none =
      let both = neither (head_fault set d) (fault (word_of (text_at (codes "type") d)) d) none in
      let head = head_shaped set d both.0 in
      let same = word_there set d head.0 head.1 in
      word_shaped set d head.0 (word_of head.0) head.1 refl (sym (ap (λ w. fault (word_of w) d) same) ∙ both.1)

pub part_shaped : (left : ℕ) (set : KeySet) (d : Data) → 0 < left → part_fault left set d ≡ None → (t : SchemaType RawName) × Part left set d t
unfolding part_fault
part_shaped zero set d some none = absurd (omega (arith, some))
part_shaped (suc left) set d some none = layer_shaped left (part_shaped left) set d none
