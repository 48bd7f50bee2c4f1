-- SPDX-License-Identifier: Apache-2.0
-- The written type that a type of a schema is, for each way to make one.
use Rattle.std.proofs.Common.{◌≡◌, ℕ, Bool, true, false, cond, List, [], ◌∷◌, Option, Some, None, option_map, refl, sym, ap, ◌∙◌, subst}
use Rattle.std.specs.Cmp.Lexicographic.{slice_cmp}
use Rattle.std.specs.List.{filter}
use Rattle.std.specs.List.Sorted.{IsStrictlySortedBy}
use Rattle.std.specs.Map.{keys_of}
use Rattle.std.specs.Ordering.{nat_cmp}
use Rattle.cedar_data.specs.Maps.{map_values}
use Rattle.cedar_names.specs.Identifiers.{unreserved_word}
use Rattle.cedar_names.specs.declared.id.UnreservedId.{UnreservedId}
use Rattle.cedar_names.specs.of_text.declared.location.Loc.{Loc}
use Rattle.cedar_written.proofs.TypeFolds.{fold-Variant, fold-CommonTypeRef, fold-String, fold-Long, fold-Boolean, fold-Set, fold-Record, fold-Entity, fold-EntityOrCommon, fold-Extension}
use Rattle.cedar_written.specs.declared.ty.SchemaType.{SchemaType}
use Rattle.cedar_written.specs.declared.ty.SchemaType.TheVariants as type
use Rattle.cedar_written.specs.declared.ty.TypeVariant.{TypeVariant}
use Rattle.cedar_written.specs.declared.ty.TypeVariant.TheVariants as variant
use Rattle.cedar_written.specs.declared.ty.RecordType.{RecordType, out-RecordType, fold_out-RecordType}
use Rattle.cedar_written.specs.declared.ty.TypeOfAttribute.{TypeOfAttribute, out-TypeOfAttribute, fold_out-TypeOfAttribute}
use Rattle.cedar_unfold.specs.Following.{first_of, follows, next_entry, next_attribute, labels, following, first_attribute}
use Rattle.cedar_unfold.specs.Heads.{attributes_of}
use Rattle.cedar_unfolding.specs.Written.{Written, WrittenAttributes, Boolean, Long, String, Extension, Set, Record, Entity, EntityOrCommon, CommonTypeRef, attribute}
use Rattle.cedar_unfolding.specs.WrittenViews.{written_attributes, type_view, variant_view, record_view, attribute_view, written_type, written_variant, written_attribute}

module _ {N M : Type 0} (name : N → M) where
  abbrev of_type : SchemaType N → Written M
  of_type = written_type name

  -- a type that is written out, whose kind is known
  pub type_is : (t : SchemaType N) (v : TypeVariant N) (loc : Option Loc) (w : Written M) → t ≡ type.Variant v loc → written_variant name v ≡ w → written_type name t ≡ w
  type_is t v loc w is kind = ap of_type is ∙ fold-Variant (type_view name) (variant_view name) (record_view name) (attribute_view name) v loc ∙ kind

  pub is_common : (t : SchemaType N) (n : N) (loc : Option Loc) → t ≡ type.CommonTypeRef n loc → written_type name t ≡ CommonTypeRef (name n)
  is_common t n loc is = ap of_type is ∙ fold-CommonTypeRef (type_view name) (variant_view name) (record_view name) (attribute_view name) n loc

  pub variant_string : (v : TypeVariant N) → v ≡ variant.String → written_variant name v ≡ String
  variant_string v is = ap (written_variant name) is ∙ fold-String (type_view name) (variant_view name) (record_view name) (attribute_view name)

  pub variant_long : (v : TypeVariant N) → v ≡ variant.Long → written_variant name v ≡ Long
  variant_long v is = ap (written_variant name) is ∙ fold-Long (type_view name) (variant_view name) (record_view name) (attribute_view name)

  pub variant_boolean : (v : TypeVariant N) → v ≡ variant.Boolean → written_variant name v ≡ Boolean
  variant_boolean v is = ap (written_variant name) is ∙ fold-Boolean (type_view name) (variant_view name) (record_view name) (attribute_view name)

  pub variant_set : (v : TypeVariant N) (t : SchemaType N) → v ≡ variant.Set t → written_variant name v ≡ Set (written_type name t)
  variant_set v t is = ap (written_variant name) is ∙ fold-Set (type_view name) (variant_view name) (record_view name) (attribute_view name) t

  pub variant_entity : (v : TypeVariant N) (n : N) → v ≡ variant.Entity n → written_variant name v ≡ Entity (name n)
  variant_entity v n is = ap (written_variant name) is ∙ fold-Entity (type_view name) (variant_view name) (record_view name) (attribute_view name) n

  pub variant_either : (v : TypeVariant N) (n : N) → v ≡ variant.EntityOrCommon n → written_variant name v ≡ EntityOrCommon (name n)
  variant_either v n is = ap (written_variant name) is ∙ fold-EntityOrCommon (type_view name) (variant_view name) (record_view name) (attribute_view name) n

  pub variant_extension : (v : TypeVariant N) (id : UnreservedId) → v ≡ variant.Extension id → written_variant name v ≡ Extension (unreserved_word id)
  variant_extension v id is = ap (written_variant name) is ∙ fold-Extension (type_view name) (variant_view name) (record_view name) (attribute_view name) id

  -- the attributes of a record
  abbrev entries_of : RecordType N → List (List ℕ × (Bool × Written M))
  entries_of r = map_values (written_attribute name) (out-RecordType N r).attributes

  pub variant_record : (v : TypeVariant N) (r : RecordType N) → v ≡ variant.Record r → written_variant name v ≡ Record (written_attributes (entries_of r)) (out-RecordType N r).additional_attributes
  variant_record v r is =
      ap (written_variant name) is
      ∙ fold-Record (type_view name) (variant_view name) (record_view name) (attribute_view name) r
      ∙ fold_out-RecordType N (Written M) (Written M) (Written M) (Bool × Written M) (type_view name) (variant_view name) (record_view name) (attribute_view name) r

  -- an attribute
  pub attribute_is : (a : TypeOfAttribute N) → written_attribute name a ≡ ((out-TypeOfAttribute N a).required, written_type name (out-TypeOfAttribute N a).ty)
  attribute_is a = fold_out-TypeOfAttribute N (Written M) (Written M) (Written M) (Bool × Written M) (type_view name) (variant_view name) (record_view name) (attribute_view name) a

  abbrev shown : List ℕ × TypeOfAttribute N → List ℕ × Written M × Bool
  shown e = (e.0, (written_attribute name e.1).1, (written_attribute name e.1).0)

  first_entry : (after : Option (List ℕ)) (es : List (List ℕ × TypeOfAttribute N)) → option_map shown (next_entry after es) ≡ next_attribute after (written_attributes (map_values (written_attribute name) es))
  first_entry after [] = refl
  first_entry after (e ∷ es) = by_test (follows after e.0) (first_entry after es) where
    others : WrittenAttributes M
    others = following after (written_attributes (map_values (written_attribute name) es))

    by_test : (b : Bool) → option_map shown (next_entry after es) ≡ first_attribute others
        → option_map shown (first_of (cond b (e ∷ filter (λ e. follows after e.0) es) (filter (λ e. follows after e.0) es)))
        ≡ first_attribute (cond b (attribute e.0 (written_attribute name e.1).0 (written_attribute name e.1).1 others) others)
    by_test true rest = refl
    by_test false rest = rest

  labels_of : (es : List (List ℕ × TypeOfAttribute N)) → labels (written_attributes (map_values (written_attribute name) es)) ≡ keys_of es
  labels_of [] = refl
  labels_of (e ∷ es) = ap (λ l. e.0 ∷ l) (labels_of es)

  module _ (t : SchemaType N) (v : TypeVariant N) (loc : Option Loc) (r : RecordType N) (outer : t ≡ type.Variant v loc) (inner : v ≡ variant.Record r) where
    attributes_are : attributes_of (written_type name t) ≡ written_attributes (entries_of r)
    attributes_are = ap attributes_of (type_is t v loc (Record (written_attributes (entries_of r)) (out-RecordType N r).additional_attributes) outer (variant_record v r inner))

    -- the attribute that is found in the map
    pub next_is : (after : Option (List ℕ)) (found : Option (List ℕ × TypeOfAttribute N)) → found ≡ next_entry after (out-RecordType N r).attributes
        → option_map (λ e. (e.0, written_type name (out-TypeOfAttribute N e.1).ty, (out-TypeOfAttribute N e.1).required)) found ≡ next_attribute after (attributes_of (written_type name t))
    next_is after found is =
        by_parts found ∙ ap (option_map shown) is ∙ first_entry after (out-RecordType N r).attributes ∙ ap (next_attribute after) (sym attributes_are)
      where
        told : List ℕ × TypeOfAttribute N → List ℕ × Written M × Bool
        told e = (e.0, written_type name (out-TypeOfAttribute N e.1).ty, (out-TypeOfAttribute N e.1).required)

        by_parts : (found : Option (List ℕ × TypeOfAttribute N)) → option_map told found ≡ option_map shown found
        by_parts None = refl
        by_parts (Some e) = λ i. Some (e.0, (sym (attribute_is e.1) i).1, (sym (attribute_is e.1) i).0)

    pub labels_ordered : IsStrictlySortedBy (slice_cmp nat_cmp) (keys_of (out-RecordType N r).attributes) → IsStrictlySortedBy (slice_cmp nat_cmp) (labels (attributes_of (written_type name t)))
    labels_ordered sorted = subst (IsStrictlySortedBy (slice_cmp nat_cmp)) (sym (ap labels attributes_are ∙ labels_of (out-RecordType N r).attributes)) sorted

    -- a record, as a look tells of it
    pub record_again : written_type name t ≡ Record (attributes_of (written_type name t)) (out-RecordType N r).additional_attributes
    record_again =
        type_is t v loc (Record (written_attributes (entries_of r)) (out-RecordType N r).additional_attributes) outer (variant_record v r inner)
        ∙ ap (λ ws. Record ws (out-RecordType N r).additional_attributes) (sym attributes_are)

pub ruleset schema_types = (type_is, is_common, variant_string, variant_long, variant_boolean, variant_set, variant_entity, variant_either, variant_extension, record_again)
