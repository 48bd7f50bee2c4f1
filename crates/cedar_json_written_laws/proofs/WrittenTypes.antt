-- SPDX-License-Identifier: Apache-2.0
-- What is written of a type has its shape.
use Rattle.std.proofs.Common.{◌≡◌, ◌<◌, ℕ, zero, suc, Bool, true, false, not, List, [], ◌∷◌, ◌++◌, codes, Option, Some, None, refl, sym, ap, ◌∙◌, subst, append-nil, append_assoc}
use Rattle.std.specs.List.{AllByRecursion}
use Rattle.std.specs.Str.{bytes_eq}
use Rattle.serde_json.specs.Data.{Data, boolean, string}
use Rattle.serde_json.specs.Find.{get}
use Rattle.cedar_data.specs.Maps.{map_values}
use Rattle.cedar_text.specs.Words.{has_word}
use Rattle.cedar_names.specs.Identifiers.{unreserved_word}
use Rattle.cedar_names.specs.declared.annotation.Annotations.{Annotations}
use Rattle.cedar_written.specs.WrittenTypes.{TypeLayer, VariantLayer}
use Rattle.cedar_written.specs.declared.raw_name.RawName.{RawName}
use Rattle.cedar_written.specs.declared.ty.SchemaType.{SchemaType, out-SchemaType, map-SchemaType, fold_out-SchemaType, out-roll-SchemaType}
use Rattle.cedar_written.specs.declared.ty.SchemaType.TheOpen as layer
use Rattle.cedar_written.specs.declared.ty.TypeVariant.{TypeVariant, out-TypeVariant, map-TypeVariant, fold_out-TypeVariant, out-roll-TypeVariant}
use Rattle.cedar_written.specs.declared.ty.RecordType.{RecordType, out-RecordType, fold_out-RecordType, out-roll-RecordType}
use Rattle.cedar_written.specs.declared.ty.TypeOfAttribute.{TypeOfAttribute, out-TypeOfAttribute, fold_out-TypeOfAttribute, out-roll-TypeOfAttribute}
use Rattle.cedar_json_types.specs.Keys.{keys_of, type_keys}
use Rattle.cedar_json_types.specs.Parts.{AreAnnotations, NoAnnotations}
use Rattle.cedar_json_types.specs.Shapes.{Entry, IsFlag, Keyed, Lacks, MayHave, OrAbsent}
use Rattle.cedar_json_types.specs.Types.{AttributeLayer, AttributeShape, AttributesShape, Head, Part, RecordLayer, ShapesLayer, VariantParts, not_named, not_plain, not_record, word_for, word_of}
use Rattle.cedar_json_types.specs.declared.keyed.KeySet.{KeySet}
use Rattle.cedar_json_types.specs.declared.keyed.KeySet.TheVariants as set
use Rattle.cedar_json_types.specs.declared.words.TypeWord.TheVariants as word
use Rattle.cedar_json_write.specs.Written as json
use Rattle.cedar_json_write.specs.Written.{Field, Fields, attribute_fields, attribute_json, attributes_json, name_text, notes, object_of, record_fields, type_fields, type_json, unless, variant_fields}
use Rattle.cedar_json_write.proofs.Parts.{attribute_fields-is, attributes_of, record_fields-is}
use Rattle.cedar_json_written_laws.specs.Unplaced as bare
use Rattle.cedar_json_written_laws.specs.Unplaced.{annotations_unplaced, attribute_unplaced, name_unplaced, record_unplaced, type_unplaced, variant_unplaced}
use Rattle.cedar_json_written_laws.specs.Writable.{InOrder, Writable, WritableAttribute, WritableAttributes, WritableLayer, WritableVariant}
use Rattle.cedar_json_written_laws.proofs.Fields.{Within, field_at, get_field, in_neither, keyed_object, may_have_field, not_before, not_behind, outside, unless-other, unless-shape, within-any, within-append, within-behind, within-more, within-unless}
use Rattle.cedar_json_written_laws.proofs.Ordered.{AllWritten, map_written}
use Rattle.cedar_json_written_laws.proofs.WrittenParts.{id_written, name_written, names_written, noted}

-- ---- one layer, as it is written and without places

abbrev layer_fields : TypeLayer RawName → Fields
layer_fields l = json.type_step (map-SchemaType RawName (SchemaType RawName) (TypeVariant RawName) (RecordType RawName) (TypeOfAttribute RawName) Fields Fields Fields Fields type_fields variant_fields record_fields attribute_fields l)

abbrev variant_layer_fields : VariantLayer RawName → Fields
variant_layer_fields l = json.variant_step (map-TypeVariant RawName (SchemaType RawName) (TypeVariant RawName) (RecordType RawName) (TypeOfAttribute RawName) Fields Fields Fields Fields type_fields variant_fields record_fields attribute_fields l)

type_fields-is : (t : SchemaType RawName) → type_fields t ≡ layer_fields (out-SchemaType RawName t)
type_fields-is t = fold_out-SchemaType RawName Fields Fields Fields Fields json.type_step json.variant_step json.record_step json.attribute_step t

variant_fields-is : (v : TypeVariant RawName) → variant_fields v ≡ variant_layer_fields (out-TypeVariant RawName v)
variant_fields-is v = fold_out-TypeVariant RawName Fields Fields Fields Fields json.type_step json.variant_step json.record_step json.attribute_step v

abbrev layer_bare : TypeLayer RawName → TypeLayer RawName
layer_bare (layer.Variant ty loc) = layer.Variant (variant_unplaced ty) None
layer_bare (layer.CommonTypeRef name loc) = layer.CommonTypeRef (name_unplaced name) None

abbrev variant_layer_bare : VariantLayer RawName → VariantLayer RawName
variant_layer_bare layer.String = layer.String
variant_layer_bare layer.Long = layer.Long
variant_layer_bare layer.Boolean = layer.Boolean
variant_layer_bare (layer.Set element) = layer.Set (type_unplaced element)
variant_layer_bare (layer.Record fields) = layer.Record (record_unplaced fields)
variant_layer_bare (layer.Entity name) = layer.Entity (name_unplaced name)
variant_layer_bare (layer.EntityOrCommon name) = layer.EntityOrCommon (name_unplaced name)
variant_layer_bare (layer.Extension name) = layer.Extension name

-- the same within, of each layer
abbrev pub within_type : TypeLayer RawName → TypeLayer RawName
within_type l = map-SchemaType RawName (SchemaType RawName) (TypeVariant RawName) (RecordType RawName) (TypeOfAttribute RawName) (SchemaType RawName) (TypeVariant RawName) (RecordType RawName) (TypeOfAttribute RawName) type_unplaced variant_unplaced record_unplaced attribute_unplaced l

abbrev pub within_variant : VariantLayer RawName → VariantLayer RawName
within_variant l = map-TypeVariant RawName (SchemaType RawName) (TypeVariant RawName) (RecordType RawName) (TypeOfAttribute RawName) (SchemaType RawName) (TypeVariant RawName) (RecordType RawName) (TypeOfAttribute RawName) type_unplaced variant_unplaced record_unplaced attribute_unplaced l

type_out : (l : TypeLayer RawName) → out-SchemaType RawName (bare.type_step (within_type l)) ≡ layer_bare l
type_out (layer.Variant ty loc) = out-roll-SchemaType RawName (layer.Variant (variant_unplaced ty) None)
type_out (layer.CommonTypeRef name loc) = out-roll-SchemaType RawName (layer.CommonTypeRef (name_unplaced name) None)

pub type_unplaced-is : (t : SchemaType RawName) → type_unplaced t ≡ bare.type_step (within_type (out-SchemaType RawName t))
type_unplaced-is t = fold_out-SchemaType RawName (SchemaType RawName) (TypeVariant RawName) (RecordType RawName) (TypeOfAttribute RawName) bare.type_step bare.variant_step bare.record_step bare.attribute_step t

type_opened : (t : SchemaType RawName) → out-SchemaType RawName (type_unplaced t) ≡ layer_bare (out-SchemaType RawName t)
type_opened t = ap (out-SchemaType RawName) (type_unplaced-is t) ∙ type_out (out-SchemaType RawName t)

variant_out : (l : VariantLayer RawName) → out-TypeVariant RawName (bare.variant_step (within_variant l)) ≡ variant_layer_bare l
variant_out layer.String = out-roll-TypeVariant RawName layer.String
variant_out layer.Long = out-roll-TypeVariant RawName layer.Long
variant_out layer.Boolean = out-roll-TypeVariant RawName layer.Boolean
variant_out (layer.Set element) = out-roll-TypeVariant RawName (layer.Set (type_unplaced element))
variant_out (layer.Record fields) = out-roll-TypeVariant RawName (layer.Record (record_unplaced fields))
variant_out (layer.Entity name) = out-roll-TypeVariant RawName (layer.Entity (name_unplaced name))
variant_out (layer.EntityOrCommon name) = out-roll-TypeVariant RawName (layer.EntityOrCommon (name_unplaced name))
variant_out (layer.Extension name) = out-roll-TypeVariant RawName (layer.Extension name)

pub variant_unplaced-is : (v : TypeVariant RawName) → variant_unplaced v ≡ bare.variant_step (within_variant (out-TypeVariant RawName v))
variant_unplaced-is v = fold_out-TypeVariant RawName (SchemaType RawName) (TypeVariant RawName) (RecordType RawName) (TypeOfAttribute RawName) bare.type_step bare.variant_step bare.record_step bare.attribute_step v

variant_opened : (v : TypeVariant RawName) → out-TypeVariant RawName (variant_unplaced v) ≡ variant_layer_bare (out-TypeVariant RawName v)
variant_opened v = ap (out-TypeVariant RawName) (variant_unplaced-is v) ∙ variant_out (out-TypeVariant RawName v)

abbrev record_bare : RecordType RawName → bare.RecordParts
record_bare r = record { attributes = map_values attribute_unplaced (out-RecordType RawName r).attributes; additional_attributes = (out-RecordType RawName r).additional_attributes }

pub record_unplaced-is : (r : RecordType RawName) → record_unplaced r ≡ bare.record_step (record_bare r)
record_unplaced-is r = fold_out-RecordType RawName (SchemaType RawName) (TypeVariant RawName) (RecordType RawName) (TypeOfAttribute RawName) bare.type_step bare.variant_step bare.record_step bare.attribute_step r

record_opened : (r : RecordType RawName) → out-RecordType RawName (record_unplaced r) ≡ record_bare r
record_opened r = ap (out-RecordType RawName) (record_unplaced-is r) ∙ out-roll-RecordType RawName (record_bare r)

abbrev attribute_bare : TypeOfAttribute RawName → bare.AttributeParts
attribute_bare a = record {
  ty = type_unplaced (out-TypeOfAttribute RawName a).ty;
  annotations = annotations_unplaced (out-TypeOfAttribute RawName a).annotations;
  required = (out-TypeOfAttribute RawName a).required;
}

attribute_opened : (a : TypeOfAttribute RawName) → out-TypeOfAttribute RawName (attribute_unplaced a) ≡ attribute_bare a
attribute_opened a =
    ap (out-TypeOfAttribute RawName) (fold_out-TypeOfAttribute RawName (SchemaType RawName) (TypeVariant RawName) (RecordType RawName) (TypeOfAttribute RawName) bare.type_step bare.variant_step bare.record_step bare.attribute_step a)
    ∙ out-roll-TypeOfAttribute RawName (attribute_bare a)

-- ---- the keys of a type

record_within : (r : RecordType RawName) → Within (type_keys []) (record_fields r)
record_within r = subst (Within (type_keys [])) (sym (record_fields-is r)) (refl, within-unless (type_keys []) (not (out-RecordType RawName r).additional_attributes) (codes "additionalAttributes") (boolean true) refl)

variant_within : (l : VariantLayer RawName) → Within (type_keys []) (variant_layer_fields l)
variant_within layer.String = (refl, tt)
variant_within layer.Long = (refl, tt)
variant_within layer.Boolean = (refl, tt)
variant_within (layer.Set element) = (refl, (refl, tt))
variant_within (layer.Record fields) = (refl, record_within fields)
variant_within (layer.Entity name) = (refl, (refl, tt))
variant_within (layer.EntityOrCommon name) = (refl, (refl, tt))
variant_within (layer.Extension name) = (refl, (refl, tt))

layer_within : (l : TypeLayer RawName) → Within (type_keys []) (layer_fields l)
layer_within (layer.Variant ty loc) = subst (Within (type_keys [])) (sym (variant_fields-is ty)) (variant_within (out-TypeVariant RawName ty))
layer_within (layer.CommonTypeRef name loc) = (refl, tt)

-- a type has no other keys than the five
pub type_within : (t : SchemaType RawName) → Within (type_keys []) (type_fields t)
type_within t = subst (Within (type_keys [])) (sym (type_fields-is t)) (layer_within (out-SchemaType RawName t))

-- ---- a type with fields behind it

-- the fields are at keys that the place of the type adds
pub record Behind (set : KeySet) (more : List Field) : Type 0 where
  pub added : List (List ℕ)
  pub keys : keys_of set ≡ type_keys added
  pub within : Within added more
  pub no_type : has_word added (codes "type") ≡ false
  pub no_element : has_word added (codes "element") ≡ false
  pub no_attributes : has_word added (codes "attributes") ≡ false
  pub no_additional : has_word added (codes "additionalAttributes") ≡ false
  pub no_name : has_word added (codes "name") ≡ false

-- nothing stands behind a type within another
pub alone : Behind set.Type []
alone = record { added = []; keys = refl; within = tt; no_type = refl; no_element = refl; no_attributes = refl; no_additional = refl; no_name = refl }

pub behind_common : (a : Annotations) → Behind set.CommonType (notes a)
behind_common a = record {
  added = codes "annotations" ∷ [];
  keys = refl;
  within = within-any (codes "annotations" ∷ []) (codes "annotations") json.annotations_json _ refl;
  no_type = refl;
  no_element = refl;
  no_attributes = refl;
  no_additional = refl;
  no_name = refl;
}

-- what stands behind the type of an attribute
abbrev pub behind_type : Bool → Annotations → List Field
behind_type required a = unless required (codes "required") (boolean false) ++ notes a

pub behind_attribute : (required : Bool) (a : Annotations) → Behind set.Attribute (behind_type required a)
behind_attribute required a =
    let added = codes "required" ∷ codes "annotations" ∷ [] in
    record {
      added = added;
      keys = refl;
      within = within-append added (unless required (codes "required") (boolean false)) (notes a) (within-unless added required (codes "required") (boolean false) refl) (within-any added (codes "annotations") json.annotations_json _ refl);
      no_type = refl;
      no_element = refl;
      no_attributes = refl;
      no_additional = refl;
      no_name = refl;
    }

module _ (set : KeySet) (more : List Field) (b : Behind set more) where
  -- at a key of its own a type has what it has without those fields
  own : (k : List ℕ) (fs : List Field) (o : Option Data) → has_word b.added k ≡ false → field_at k fs ≡ o → get k (object_of (fs ++ more)) ≡ o
  own k fs o free is = get_field k (fs ++ more) ∙ not_behind k fs more (outside b.added k more b.within free) ∙ is

  head_written : (fs : List Field) (w : List ℕ) → Within (type_keys []) fs → field_at (codes "type") fs ≡ Some (string w) → Head set (object_of (fs ++ more)) w
  head_written fs w within typed =
      let all = within-append (type_keys b.added) fs more (within-more (type_keys []) b.added fs within) (within-behind (type_keys []) b.added more b.within) in
      record {
        keyed = subst (λ ks. Keyed ks (object_of (fs ++ more))) (sym b.keys) (keyed_object (type_keys b.added) (fs ++ more) all);
        typed = own (codes "type") fs (Some (string w)) b.no_type typed;
      }

  plain : (fs : List Field) → field_at (codes "element") fs ≡ None → field_at (codes "attributes") fs ≡ None → field_at (codes "additionalAttributes") fs ≡ None → field_at (codes "name") fs ≡ None → Lacks not_plain (object_of (fs ++ more))
  plain fs e a o n = (own (codes "element") fs None b.no_element e, (own (codes "attributes") fs None b.no_attributes a, (own (codes "additionalAttributes") fs None b.no_additional o, (own (codes "name") fs None b.no_name n, tt))))

  named : (fs : List Field) → field_at (codes "element") fs ≡ None → field_at (codes "attributes") fs ≡ None → field_at (codes "additionalAttributes") fs ≡ None → Lacks not_named (object_of (fs ++ more))
  named fs e a o = (own (codes "element") fs None b.no_element e, (own (codes "attributes") fs None b.no_attributes a, (own (codes "additionalAttributes") fs None b.no_additional o, tt)))

-- ---- attributes

module _ (Of : Data → SchemaType RawName → Type 0) (Inside : SchemaType RawName → Type 0)
    (type_written : (required : Bool) (a : Annotations) (t : SchemaType RawName) → Inside t → Of (object_of (type_fields t ++ behind_type required a)) (type_unplaced t)) where
  -- what stands behind the type of an attribute is said of the attribute
  required_written : (t : SchemaType RawName) (required : Bool) (a : Annotations) → MayHave (codes "required") (λ b. b ≡ true) IsFlag (object_of (type_fields t ++ behind_type required a)) required
  required_written t required a =
      may_have_field IsFlag (codes "required") (λ b. b ≡ true) (type_fields t ++ behind_type required a) (field_at (codes "required") (unless required (codes "required") (boolean false))) required
      (not_before (codes "required") (type_fields t) (behind_type required a) (outside (type_keys []) (codes "required") (type_fields t) (type_within t) refl)
      ∙ not_behind (codes "required") (unless required (codes "required") (boolean false)) (notes a) (outside (codes "annotations" ∷ []) (codes "required") (notes a) (within-any (codes "annotations" ∷ []) (codes "annotations") json.annotations_json _ refl) refl))
      (unless-shape IsFlag (codes "required") (λ b. b ≡ true) required (boolean false) required (λ is. is) (λ is. ap boolean (sym is)))

  noted_written : (t : SchemaType RawName) (required : Bool) (a : Annotations) → InOrder a → MayHave (codes "annotations") NoAnnotations AreAnnotations (object_of (type_fields t ++ behind_type required a)) (annotations_unplaced a)
  noted_written t required a sorted =
      let flag = unless required (codes "required") (boolean false) in
      let none = in_neither (codes "annotations") (type_fields t) flag (outside (type_keys []) (codes "annotations") (type_fields t) (type_within t) refl) (unless-other (codes "annotations") required (codes "required") (boolean false) refl) in
      subst (λ fs. MayHave (codes "annotations") NoAnnotations AreAnnotations (object_of fs) (annotations_unplaced a)) (append_assoc (type_fields t) flag (notes a)) (noted (type_fields t ++ flag) a none sorted)

  attribute_layer : (t : SchemaType RawName) (required : Bool) (a : Annotations) → Inside t → InOrder a
      → AttributeLayer Of (object_of (type_fields t ++ behind_type required a)) (type_unplaced t) required (annotations_unplaced a)
  attribute_layer t required a inside sorted = (type_written required a t inside, required_written t required a, noted_written t required a sorted)

  pub attribute_written : (a : TypeOfAttribute RawName) → WritableAttribute Inside a → AttributeShape Of (attribute_json a) (attribute_unplaced a)
  unfolding AttributeShape
  attribute_written a writable =
      let l = out-TypeOfAttribute RawName a in
      subst (λ (m : bare.AttributeParts). AttributeLayer Of (attribute_json a) m.ty m.required m.annotations) (sym (attribute_opened a))
      (subst (λ fs. AttributeLayer Of (object_of fs) (type_unplaced l.ty) l.required (annotations_unplaced l.annotations)) (sym (attribute_fields-is a)) (attribute_layer l.ty l.required l.annotations writable.0 writable.1))

  all_attributes : (es : List (List ℕ × TypeOfAttribute RawName)) → AllByRecursion {X = List ℕ × TypeOfAttribute RawName} (λ e. WritableAttribute Inside e.1) es
      → AllWritten (λ (k : List ℕ). k) attribute_json attribute_unplaced (Entry (λ k t. t ≡ k) (AttributeShape Of)) es
  all_attributes [] all = tt
  all_attributes (e ∷ es) all = ((refl, attribute_written e.1 all.0), all_attributes es all.1)

  attributes_written : (es : List (List ℕ × TypeOfAttribute RawName)) → WritableAttributes Inside es → AttributesShape Of (attributes_json (map_values attribute_fields es)) (map_values attribute_unplaced es)
  attributes_written es writable =
      subst (λ d. AttributesShape Of d (map_values attribute_unplaced es)) (attributes_of es)
      (map_written (λ (k : List ℕ). k) attribute_json attribute_unplaced (Entry (λ k t. t ≡ k) (AttributeShape Of)) es writable.0 (all_attributes es writable.1))

-- ---- types

not_so : (b : Bool) → not b ≡ true → b ≡ false
not_so true is = absurd (cc)
not_so false is = refl

so : (b : Bool) → not b ≡ false → true ≡ b
so true is = refl
so false is = absurd (cc)

module _ (left : ℕ) (inside : (set : KeySet) (more : List Field) → Behind set more → (t : SchemaType RawName) → Writable left t → Part left set (object_of (type_fields t ++ more)) (type_unplaced t)) where
  element_written : (t : SchemaType RawName) → Writable left t → Part left set.Type (type_json t) (type_unplaced t)
  element_written t writable = subst (λ fs. Part left set.Type (object_of fs) (type_unplaced t)) (append-nil (type_fields t)) (inside set.Type [] alone t writable)

  fields_written : (es : List (List ℕ × TypeOfAttribute RawName)) → WritableAttributes (Writable left) es → AttributesShape (Part left set.Attribute) (attributes_json (map_values attribute_fields es)) (map_values attribute_unplaced es)
  fields_written = attributes_written (Part left set.Attribute) (Writable left) (λ required a t writable. inside set.Attribute (behind_type required a) (behind_attribute required a) t writable)

  module _ (kind : KeySet) (more : List Field) (b : Behind kind more) where
    -- the word of a type that is no common type, and what stands behind it
    abbrev Worded : Data → VariantLayer RawName → Type 0
    Worded d v = (w : List ℕ) × Head kind d w × (word_of w ≡ word_for v) × VariantParts left (Part left) d v

    -- the fields of a record type
    abbrev record_front : List (List ℕ × TypeOfAttribute RawName) → List Field
    record_front es = json.typed (codes "Record") ∷ (codes "attributes", attributes_json (map_values attribute_fields es)) ∷ []

    abbrev others : Bool → List Field
    others additional = unless (not additional) (codes "additionalAttributes") (boolean true)

    -- the parts of a record type behind its word
    abbrev RecordParts : Data → List (List ℕ × TypeOfAttribute RawName) → Bool → Type 0
    RecordParts d es additional = (0 < left) × Lacks not_record d × RecordLayer (Part left set.Attribute) d es additional

    abbrev WordedRecord : Data → List (List ℕ × TypeOfAttribute RawName) → Bool → Type 0
    WordedRecord d es additional = (w : List ℕ) × Head kind d w × (word_of w ≡ word.Record) × RecordParts d es additional

    record_written : (es : List (List ℕ × TypeOfAttribute RawName)) (additional : Bool) → 0 < left → WritableAttributes (Writable left) es
        → WordedRecord (object_of ((record_front es ++ others additional) ++ more)) (map_values attribute_unplaced es) additional
    record_written es additional some writable =
        let front = record_front es in
        let fs = front ++ others additional in
        let other = λ (k : List ℕ) (o : Option Data) (free : has_word b.added k ≡ false) (apart : bytes_eq k (codes "additionalAttributes") ≡ false) (is : field_at k front ≡ o).
        own kind more b k fs o free (not_behind k front (others additional) (unless-other k (not additional) (codes "additionalAttributes") (boolean true) apart) ∙ is) in
        let within = within-append (type_keys []) front (others additional) (refl, (refl, tt)) (within-unless (type_keys []) (not additional) (codes "additionalAttributes") (boolean true) refl) in
        let typed = not_behind (codes "type") front (others additional) (unless-other (codes "type") (not additional) (codes "additionalAttributes") (boolean true) refl) in
        let flag = unless-shape IsFlag (codes "additionalAttributes") (λ b. b ≡ false) (not additional) (boolean true) additional (not_so additional) (λ is. ap boolean (so additional is)) in
        let found = own kind more b (codes "additionalAttributes") fs (field_at (codes "additionalAttributes") (others additional)) b.no_additional (not_before (codes "additionalAttributes") front (others additional) refl) in (
          codes "Record",
          head_written kind more b fs (codes "Record") within typed,
          refl,
          (
            some,
            (other (codes "element") None b.no_element refl refl, (other (codes "name") None b.no_name refl refl, tt)),
            (
              (attributes_json (map_values attribute_fields es), other (codes "attributes") (Some (attributes_json (map_values attribute_fields es))) b.no_attributes refl refl, fields_written es writable),
              subst (λ o. OrAbsent (λ b. b ≡ false) IsFlag o additional) (sym found) flag,
            ),
          ),
        )

    variant_written : (v : VariantLayer RawName) → WritableVariant left (Writable left) v → Worded (object_of (variant_layer_fields v ++ more)) (variant_layer_bare v)
    variant_written layer.String writable =
        let fs = variant_layer_fields layer.String in
        (codes "String", head_written kind more b fs (codes "String") (refl, tt) refl, refl, plain kind more b fs refl refl refl refl)
    variant_written layer.Long writable =
        let fs = variant_layer_fields layer.Long in
        (codes "Long", head_written kind more b fs (codes "Long") (refl, tt) refl, refl, plain kind more b fs refl refl refl refl)
    variant_written layer.Boolean writable =
        let fs = variant_layer_fields layer.Boolean in
        (codes "Boolean", head_written kind more b fs (codes "Boolean") (refl, tt) refl, refl, plain kind more b fs refl refl refl refl)
    variant_written (layer.Set element) writable =
        let fs = variant_layer_fields (layer.Set element) in (
          codes "Set",
          head_written kind more b fs (codes "Set") (refl, (refl, tt)) refl,
          refl,
          (
            writable.0,
            (own kind more b (codes "attributes") fs None b.no_attributes refl, (own kind more b (codes "additionalAttributes") fs None b.no_additional refl, (own kind more b (codes "name") fs None b.no_name refl, tt))),
            (type_json element, own kind more b (codes "element") fs (Some (type_json element)) b.no_element refl, element_written element writable.1),
          ),
        )
    variant_written (layer.Record r) writable =
        let es = (out-RecordType RawName r).attributes in
        let additional = (out-RecordType RawName r).additional_attributes in
        subst (λ fs. Worded (object_of ((json.typed (codes "Record") ∷ fs) ++ more)) (layer.Record (record_unplaced r))) (sym (record_fields-is r))
        (subst (λ (m : bare.RecordParts). WordedRecord (object_of ((record_front es ++ others additional) ++ more)) m.attributes m.additional_attributes) (sym (record_opened r)) (record_written es additional writable.0 writable.1))
    variant_written (layer.Entity name) writable =
        let fs = variant_layer_fields (layer.Entity name) in (
          codes "Entity",
          head_written kind more b fs (codes "Entity") (refl, (refl, tt)) refl,
          refl,
          (named kind more b fs refl refl refl, (json.name_json name, own kind more b (codes "name") fs (Some (json.name_json name)) b.no_name refl, name_written name)),
        )
    variant_written (layer.EntityOrCommon name) writable =
        let fs = variant_layer_fields (layer.EntityOrCommon name) in (
          codes "EntityOrCommon",
          head_written kind more b fs (codes "EntityOrCommon") (refl, (refl, tt)) refl,
          refl,
          (named kind more b fs refl refl refl, (json.name_json name, own kind more b (codes "name") fs (Some (json.name_json name)) b.no_name refl, name_written name)),
        )
    variant_written (layer.Extension name) writable =
        let fs = variant_layer_fields (layer.Extension name) in
        let text = string (unreserved_word name) in (
          codes "Extension",
          head_written kind more b fs (codes "Extension") (refl, (refl, tt)) refl,
          refl,
          (named kind more b fs refl refl refl, (text, own kind more b (codes "name") fs (Some text) b.no_name refl, (unreserved_word name, refl, id_written name))),
        )

    layer_written : (l : TypeLayer RawName) → WritableLayer left (Writable left) l → ShapesLayer left (Part left) kind (object_of (layer_fields l ++ more)) (layer_bare l)
    layer_written (layer.Variant ty loc) writable = (
      refl,
      subst (λ fs. Worded (object_of (fs ++ more)) (out-TypeVariant RawName (variant_unplaced ty))) (sym (variant_fields-is ty))
          (subst (λ v. Worded (object_of (variant_layer_fields (out-TypeVariant RawName ty) ++ more)) v) (sym (variant_opened ty)) (variant_written (out-TypeVariant RawName ty) writable)),
    )
    layer_written (layer.CommonTypeRef name loc) writable =
        let fs = layer_fields (layer.CommonTypeRef name loc) in
        (refl, (name_text name, head_written kind more b fs (name_text name) (refl, tt) refl, writable, plain kind more b fs refl refl refl refl, names_written name))

-- what is written of a type, with fields behind it that its place adds, has the shape of the type
pub part_written : (left : ℕ) (set : KeySet) (more : List Field) → Behind set more → (t : SchemaType RawName) → Writable left t → Part left set (object_of (type_fields t ++ more)) (type_unplaced t)
unfolding Part Writable
part_written zero set more b t writable = absurd writable
part_written (suc left) set more b t writable =
    subst (λ fs. ShapesLayer left (Part left) set (object_of (fs ++ more)) (out-SchemaType RawName (type_unplaced t))) (sym (type_fields-is t))
    (subst (λ l. ShapesLayer left (Part left) set (object_of (layer_fields (out-SchemaType RawName t) ++ more)) l) (sym (type_opened t)) (layer_written left (part_written left) set more b (out-SchemaType RawName t) writable))

pub type_written : (left : ℕ) (t : SchemaType RawName) → Writable left t → Part left set.Type (type_json t) (type_unplaced t)
type_written left t writable = subst (λ fs. Part left set.Type (object_of fs) (type_unplaced t)) (append-nil (type_fields t)) (part_written left set.Type [] alone t writable)

-- the type of an attribute
pub attribute_of_type_written : (left : ℕ) (a : TypeOfAttribute RawName) → WritableAttribute (Writable left) a → AttributeShape (Part left set.Attribute) (attribute_json a) (attribute_unplaced a)
attribute_of_type_written left = attribute_written (Part left set.Attribute) (Writable left) (λ required a t writable. part_written left set.Attribute (behind_type required a) (behind_attribute required a) t writable)
