-- SPDX-License-Identifier: Apache-2.0
-- A value has the shape of at most one type.
use Rattle.std.proofs.Common.{◌≡◌, ℕ, zero, suc, true, false, List, [], codes, unwrap_or, option_and_then, refl, sym, ap, ◌∙◌, subst}
use Rattle.std.specs.Prelude.{⊤}
use Rattle.std.specs.Cmp.Lexicographic.{slice_cmp}
use Rattle.std.specs.Ordering.{nat_cmp}
use Rattle.serde_json.specs.Data.{Data}
use Rattle.serde_json.specs.Find.{as_str}
use Rattle.cedar_names.specs.declared.id.UnreservedId.{UnreservedId}
use Rattle.cedar_written.specs.WrittenTypes.{TypeLayer, VariantLayer}
use Rattle.cedar_written.specs.declared.raw_name.RawName.{RawName}
use Rattle.cedar_written.specs.declared.ty.SchemaType.{SchemaType, out-SchemaType, roll-SchemaType, roll-out-SchemaType}
use Rattle.cedar_written.specs.declared.ty.SchemaType.TheOpen as layer
use Rattle.cedar_written.specs.declared.ty.TypeVariant.{TypeVariant, out-TypeVariant, roll-TypeVariant, roll-out-TypeVariant}
use Rattle.cedar_written.specs.declared.ty.RecordType.{RecordType, out-RecordType, roll-RecordType, roll-out-RecordType}
use Rattle.cedar_written.specs.declared.ty.TypeOfAttribute.{TypeOfAttribute, out-TypeOfAttribute, roll-TypeOfAttribute, roll-out-TypeOfAttribute}
use Rattle.cedar_json_types.specs.Parts.{AreAnnotations, IsId, IsName, Names, NoAnnotations}
use Rattle.cedar_json_types.specs.Shapes.{Entry, IsFlag}
use Rattle.cedar_json_types.specs.Types.{AttributeShape, AttributesShape, Head, Part, RecordLayer, ShapesLayer, VariantParts, word_for, word_of}
use Rattle.cedar_json_types.specs.declared.keyed.KeySet.{KeySet}
use Rattle.cedar_json_types.specs.declared.keyed.KeySet.TheVariants as set
use Rattle.cedar_json_types.specs.declared.words.TypeWord.{TypeWord}
use Rattle.cedar_json_types.specs.declared.words.TypeWord.TheVariants as word
use Rattle.cedar_json_laws.proofs.OnceParts.{annotations_once, at_once, entry_once, flag_once, id_once, is_once, map_once, may_have_once, name_once, names_once, no_annotations_once, nothing_once, text_key_once}

-- ---- a type is its layer

type_is : (t u : SchemaType RawName) → out-SchemaType RawName t ≡ out-SchemaType RawName u → t ≡ u
type_is t u same = sym (roll-out-SchemaType RawName t) ∙ ap (roll-SchemaType RawName) same ∙ roll-out-SchemaType RawName u

variant_is : (t u : TypeVariant RawName) → out-TypeVariant RawName t ≡ out-TypeVariant RawName u → t ≡ u
variant_is t u same = sym (roll-out-TypeVariant RawName t) ∙ ap (roll-TypeVariant RawName) same ∙ roll-out-TypeVariant RawName u

record_is : (t u : RecordType RawName) → out-RecordType RawName t ≡ out-RecordType RawName u → t ≡ u
record_is t u same = sym (roll-out-RecordType RawName t) ∙ ap (roll-RecordType RawName) same ∙ roll-out-RecordType RawName u

attribute_is : (t u : TypeOfAttribute RawName) → out-TypeOfAttribute RawName t ≡ out-TypeOfAttribute RawName u → t ≡ u
attribute_is t u same = sym (roll-out-TypeOfAttribute RawName t) ∙ ap (roll-TypeOfAttribute RawName) same ∙ roll-out-TypeOfAttribute RawName u

-- ---- a type that is no common type, by its word and what stands behind it

abbrev Behind : TypeWord → Type 0
Behind word.String = ⊤
Behind word.Long = ⊤
Behind word.Boolean = ⊤
Behind word.Set = SchemaType RawName
Behind word.Record = RecordType RawName
Behind word.Entity = RawName
Behind word.EntityOrCommon = RawName
Behind word.Extension = UnreservedId
Behind word.Other = ⊤

abbrev behind : (v : VariantLayer RawName) → Behind (word_for v)
behind layer.String = tt
behind layer.Long = tt
behind layer.Boolean = tt
behind (layer.Set element) = element
behind (layer.Record fields) = fields
behind (layer.Entity name) = name
behind (layer.EntityOrCommon name) = name
behind (layer.Extension name) = name

-- no word names a common type here, and any layer will do
abbrev of_word : (w : TypeWord) → Behind w → VariantLayer RawName
of_word word.String b = layer.String
of_word word.Long b = layer.Long
of_word word.Boolean b = layer.Boolean
of_word word.Set b = layer.Set b
of_word word.Record b = layer.Record b
of_word word.Entity b = layer.Entity b
of_word word.EntityOrCommon b = layer.EntityOrCommon b
of_word word.Extension b = layer.Extension b
of_word word.Other b = layer.String

is_of_word : (v : VariantLayer RawName) → of_word (word_for v) (behind v) ≡ v
is_of_word layer.String = refl
is_of_word layer.Long = refl
is_of_word layer.Boolean = refl
is_of_word (layer.Set element) = refl
is_of_word (layer.Record fields) = refl
is_of_word (layer.Entity name) = refl
is_of_word (layer.EntityOrCommon name) = refl
is_of_word (layer.Extension name) = refl

not_other : (v : VariantLayer RawName) → word_for v ≡ word.Other → ⊥
not_other layer.String is = absurd (cc)
not_other layer.Long is = absurd (cc)
not_other layer.Boolean is = absurd (cc)
not_other (layer.Set element) is = absurd (cc)
not_other (layer.Record fields) is = absurd (cc)
not_other (layer.Entity name) is = absurd (cc)
not_other (layer.EntityOrCommon name) is = absurd (cc)
not_other (layer.Extension name) is = absurd (cc)

-- ---- attributes

module _ (Of : Data → SchemaType RawName → Type 0) (once : (d : Data) (t u : SchemaType RawName) → Of d t → Of d u → t ≡ u) where
  pub attribute_once : (d : Data) (a b : TypeOfAttribute RawName) → AttributeShape Of d a → AttributeShape Of d b → a ≡ b
  unfolding AttributeShape
  attribute_once d a b x y =
      let ty = once d (out-TypeOfAttribute RawName a).ty (out-TypeOfAttribute RawName b).ty x.0 y.0 in
      let required = may_have_once IsFlag flag_once (codes "required") (λ b. b ≡ true) (is_once true) d (out-TypeOfAttribute RawName a).required (out-TypeOfAttribute RawName b).required x.1 y.1 in
      let noted = may_have_once AreAnnotations annotations_once (codes "annotations") NoAnnotations no_annotations_once d (out-TypeOfAttribute RawName a).annotations (out-TypeOfAttribute RawName b).annotations x.2 y.2 in
      attribute_is a b (λ i. record { ty = ty i; annotations = noted i; required = required i })

  attributes_once : (d : Data) (es fs : List (List ℕ × TypeOfAttribute RawName)) → AttributesShape Of d es → AttributesShape Of d fs → es ≡ fs
  attributes_once d es fs x y = map_once (Entry (λ k t. t ≡ k) (AttributeShape Of)) (entry_once (λ k t. t ≡ k) (AttributeShape Of) text_key_once attribute_once) (slice_cmp nat_cmp) d es fs x y

  record_once : (d : Data) (r s : RecordType RawName) → RecordLayer Of d (out-RecordType RawName r).attributes (out-RecordType RawName r).additional_attributes
      → RecordLayer Of d (out-RecordType RawName s).attributes (out-RecordType RawName s).additional_attributes → r ≡ s
  record_once d r s x y =
      let attributes = at_once (AttributesShape Of) attributes_once (codes "attributes") d (out-RecordType RawName r).attributes (out-RecordType RawName s).attributes x.0 y.0 in
      let additional = may_have_once IsFlag flag_once (codes "additionalAttributes") (λ b. b ≡ false) (is_once false) d (out-RecordType RawName r).additional_attributes (out-RecordType RawName s).additional_attributes x.1 y.1 in
      record_is r s (λ i. record { attributes = attributes i; additional_attributes = additional i })

-- ---- types

word_once : (set : KeySet) (d : Data) (w w' : List ℕ) → Head set d w → Head set d w' → w ≡ w'
word_once set d w w' x y = ap (λ o. unwrap_or (option_and_then as_str o) []) (sym x.typed ∙ y.typed)

module _ (left : ℕ) (once : (set : KeySet) (d : Data) (t u : SchemaType RawName) → Part left set d t → Part left set d u → t ≡ u) where
  behind_once : (w : TypeWord) (d : Data) (a b : Behind w) → VariantParts left (Part left) d (of_word w a) → VariantParts left (Part left) d (of_word w b) → a ≡ b
  behind_once word.String d a b x y = refl
  behind_once word.Long d a b x y = refl
  behind_once word.Boolean d a b x y = refl
  behind_once word.Set d a b x y = at_once (Part left set.Type) (once set.Type) (codes "element") d a b x.2 y.2
  behind_once word.Record d a b x y = record_once (Part left set.Attribute) (once set.Attribute) d a b x.2 y.2
  behind_once word.Entity d a b x y = at_once IsName name_once (codes "name") d a b x.1 y.1
  behind_once word.EntityOrCommon d a b x y = at_once IsName name_once (codes "name") d a b x.1 y.1
  behind_once word.Extension d a b x y = at_once IsId id_once (codes "name") d a b x.1 y.1
  behind_once word.Other d a b x y = refl

  abbrev Parts : Data → VariantLayer RawName → Type 0
  Parts d v = VariantParts left (Part left) d v

  variant_once : (d : Data) (v u : VariantLayer RawName) → word_for v ≡ word_for u → Parts d v → Parts d u → v ≡ u
  variant_once d v u same x y =
      let here = λ (b : Behind (word_for v)) (z : Parts d (of_word (word_for v) b)). ap (of_word (word_for v)) (behind_once (word_for v) d (behind v) b (subst (Parts d) (sym (is_of_word v)) x) z) in
      let there = subst (λ w. (b : Behind w) → Parts d (of_word w b) → of_word (word_for v) (behind v) ≡ of_word w b) same here in
      sym (is_of_word v) ∙ there (behind u) (subst (Parts d) (sym (is_of_word u)) y) ∙ is_of_word u

  layer_once : (set : KeySet) (d : Data) (l m : TypeLayer RawName) → ShapesLayer left (Part left) set d l → ShapesLayer left (Part left) set d m → l ≡ m
  layer_once set d (layer.Variant ty loc) (layer.Variant ty' loc') x y =
      let words = sym x.1.2 ∙ ap word_of (word_once set d x.1.0 y.1.0 x.1.1 y.1.1) ∙ y.1.2 in
      let same = variant_is ty ty' (variant_once d (out-TypeVariant RawName ty) (out-TypeVariant RawName ty') words x.1.3 y.1.3) in
      let place = nothing_once loc loc' x.0 y.0 in
      λ i. layer.Variant (same i) (place i)
  layer_once set d (layer.Variant ty loc) (layer.CommonTypeRef name loc') x y =
      absurd (not_other (out-TypeVariant RawName ty) (sym x.1.2 ∙ ap word_of (word_once set d x.1.0 y.1.0 x.1.1 y.1.1) ∙ y.1.2))
  layer_once set d (layer.CommonTypeRef name loc) (layer.Variant ty loc') x y =
      absurd (not_other (out-TypeVariant RawName ty) (sym y.1.2 ∙ ap word_of (word_once set d y.1.0 x.1.0 y.1.1 x.1.1) ∙ x.1.2))
  layer_once set d (layer.CommonTypeRef name loc) (layer.CommonTypeRef name' loc') x y =
      let same = names_once x.1.0 name name' x.1.4 (subst (λ w. Names w name') (word_once set d y.1.0 x.1.0 y.1.1 x.1.1) y.1.4) in
      let place = nothing_once loc loc' x.0 y.0 in
      λ i. layer.CommonTypeRef (same i) (place i)

pub part_once : (left : ℕ) (set : KeySet) (d : Data) (t u : SchemaType RawName) → Part left set d t → Part left set d u → t ≡ u
unfolding Part
part_once zero set d t u x y = absurd x
part_once (suc left) set d t u x y = type_is t u (layer_once left (part_once left) set d (out-SchemaType RawName t) (out-SchemaType RawName u) x y)
