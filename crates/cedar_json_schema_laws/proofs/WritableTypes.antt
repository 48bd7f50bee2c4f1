-- SPDX-License-Identifier: Apache-2.0
-- Types that may be written, by what is seen of them.
use Rattle.std.proofs.Common.{arith, ◌≡◌, ◌+◌, ◌<◌, ℕ, zero, suc, Bool, List, [], ◌∷◌, map, refl, ap, subst}
use Rattle.std.specs.List.{AllByRecursion}
use Rattle.std.specs.List.Sorted.{IsStrictlySortedBy}
use Rattle.std.specs.Map.{keys_of}
use Rattle.std.specs.declared.cmp.Ordering.{Ordering}
use Rattle.std.specs.declared.cmp.Ordering.TheVariants.{Less}
use Rattle.cedar_data.specs.Maps.{IsSortedMap, map_values}
use Rattle.cedar_names.specs.Annotating.{annotation_entries}
use Rattle.cedar_names.specs.Identifiers.{any_word}
use Rattle.cedar_names.specs.Order.{word_cmp}
use Rattle.cedar_names.specs.declared.annotation.Annotation.{Annotation}
use Rattle.cedar_names.specs.declared.annotation.Annotations.{Annotations}
use Rattle.cedar_tree.specs.Meanings.{annotations_tree, place_where}
use Rattle.cedar_tree.specs.Trees.{Node, Text}
use Rattle.cedar_written.specs.WrittenTypes.{TypeLayer, VariantLayer}
use Rattle.cedar_written.specs.declared.raw_name.RawName.{RawName}
use Rattle.cedar_written.specs.declared.ty.SchemaType.{SchemaType, out-SchemaType, map-SchemaType, fold_out-SchemaType}
use Rattle.cedar_written.specs.declared.ty.SchemaType.TheOpen as layer
use Rattle.cedar_written.specs.declared.ty.TypeVariant.{TypeVariant, out-TypeVariant, map-TypeVariant, fold_out-TypeVariant}
use Rattle.cedar_written.specs.declared.ty.RecordType.{RecordType, out-RecordType, fold_out-RecordType}
use Rattle.cedar_written.specs.declared.ty.TypeOfAttribute.{TypeOfAttribute, out-TypeOfAttribute, fold_out-TypeOfAttribute}
use Rattle.cedar_convert_fragment.specs.Fragments.{FieldAt, Form, TypeAt, fields, record_of}
use Rattle.cedar_convert_fragment.specs.Views.{attribute_seen, form_seen, record_seen, see_attribute, see_form, see_record, see_type, type_seen}
use Rattle.cedar_json_written_laws.specs.Writable.{InOrder, Writable, WritableAttribute, WritableAttributes, WritableLayer, WritableVariant}
use Rattle.cedar_json_schema_laws.proofs.SeenTypes.{Fits, FormFits, FieldFits, each_field, names_of-fields, depth, fields_depth}

-- keys whose words ascend
module _ {K J : Type 0} (cmp : J → J → Ordering) (f : K → J) where
  below_each : (k : K) (ks : List K) → AllByRecursion (λ y. cmp (f k) y ≡ Less) (map f ks) → AllByRecursion (λ y. cmp (f k) (f y) ≡ Less) ks
  below_each k [] all = tt
  below_each k (x ∷ ks) all = (all.0, below_each k ks all.1)

  pub sorted_by : (ks : List K) → IsStrictlySortedBy cmp (map f ks) → IsStrictlySortedBy (λ a b. cmp (f a) (f b)) ks
  unfolding IsStrictlySortedBy
  sorted_by [] sorted = tt
  sorted_by (k ∷ ks) sorted = (below_each k ks sorted.0, sorted_by ks sorted.1)

  -- maps whose keys are seen through f, and whose values through g
  keys_through : {V W : Type 0} (g : V → W) (es : List (K × V)) → keys_of (map (λ e. (f e.0, g e.1)) es) ≡ map f (keys_of es)
  keys_through g [] = refl
  keys_through g (e ∷ es) = ap (λ ks. f e.0 ∷ ks) (keys_through g es)

  pub sorted_through : {V W : Type 0} (g : V → W) (es : List (K × V)) → IsSortedMap cmp (map (λ e. (f e.0, g e.1)) es) → IsSortedMap (λ a b. cmp (f a) (f b)) es
  sorted_through g es sorted = sorted_by (keys_of es) (subst (IsStrictlySortedBy cmp) (keys_through g es) sorted)

-- annotations
pub annotations_writable : (a : Annotations) → IsSortedMap word_cmp (annotations_tree a) → InOrder a
annotations_writable a sorted = sorted_through word_cmp any_word {W = Node Text} (λ (v : Annotation). record { node = v.val; loc = place_where v.loc }) (annotation_entries a) sorted

-- ---- one layer, as it is seen

abbrev layer_seen : TypeLayer RawName → TypeAt
layer_seen l = see_type (map-SchemaType RawName (SchemaType RawName) (TypeVariant RawName) (RecordType RawName) (TypeOfAttribute RawName) TypeAt Form Form FieldAt type_seen form_seen record_seen attribute_seen l)

abbrev variant_layer_seen : VariantLayer RawName → Form
variant_layer_seen l = see_form (map-TypeVariant RawName (SchemaType RawName) (TypeVariant RawName) (RecordType RawName) (TypeOfAttribute RawName) TypeAt Form Form FieldAt type_seen form_seen record_seen attribute_seen l)

abbrev record_layer_seen : RecordType RawName → Form
record_layer_seen r = record_of (fields (map_values attribute_seen (out-RecordType RawName r).attributes)) (out-RecordType RawName r).additional_attributes

abbrev attribute_layer_seen : TypeOfAttribute RawName → FieldAt
attribute_layer_seen a = record {
  ty = type_seen (out-TypeOfAttribute RawName a).ty;
  annotations = annotations_tree (out-TypeOfAttribute RawName a).annotations;
  required = (out-TypeOfAttribute RawName a).required;
}

type_seen-is : (t : SchemaType RawName) → type_seen t ≡ layer_seen (out-SchemaType RawName t)
type_seen-is t = fold_out-SchemaType RawName TypeAt Form Form FieldAt see_type see_form see_record see_attribute t

form_seen-is : (v : TypeVariant RawName) → form_seen v ≡ variant_layer_seen (out-TypeVariant RawName v)
form_seen-is v = fold_out-TypeVariant RawName TypeAt Form Form FieldAt see_type see_form see_record see_attribute v

record_seen-is : (r : RecordType RawName) → record_seen r ≡ record_layer_seen r
record_seen-is r = fold_out-RecordType RawName TypeAt Form Form FieldAt see_type see_form see_record see_attribute r

attribute_seen-is : (a : TypeOfAttribute RawName) → attribute_seen a ≡ attribute_layer_seen a
attribute_seen-is a = fold_out-TypeOfAttribute RawName TypeAt Form Form FieldAt see_type see_form see_record see_attribute a

-- ---- a layer that may be written, where the types within may

module _ (left : ℕ) (inside : (t : SchemaType RawName) → Fits left (type_seen t) → Writable left t) where
  attribute_writable : (a : TypeOfAttribute RawName) → FieldFits left (attribute_seen a) → WritableAttribute (Writable left) a
  attribute_writable a fits =
      let here : FieldFits left (attribute_layer_seen a) = subst (FieldFits left) (attribute_seen-is a) fits in
      (inside (out-TypeOfAttribute RawName a).ty here.0, annotations_writable (out-TypeOfAttribute RawName a).annotations here.1)

  each_writable : (es : List (List ℕ × TypeOfAttribute RawName)) → AllByRecursion {X = List ℕ × FieldAt} (λ e. FieldFits left e.1) (map_values attribute_seen es)
      → AllByRecursion {X = List ℕ × TypeOfAttribute RawName} (λ e. WritableAttribute (Writable left) e.1) es
  each_writable [] all = tt
  each_writable (e ∷ es) all = (attribute_writable e.1 all.0, each_writable es all.1)

  attributes_writable : (es : List (List ℕ × TypeOfAttribute RawName)) (additional : Bool) → FormFits (suc left) (record_of (fields (map_values attribute_seen es)) additional) → (0 < left) × WritableAttributes (Writable left) es
  attributes_writable es additional fits =
      let seen = map_values attribute_seen es in
      let deep : fields_depth (fields seen) + 1 < suc left = fits.0 in
      let names : IsStrictlySortedBy word_cmp (keys_of seen) = subst (IsStrictlySortedBy word_cmp) (names_of-fields seen) fits.1.0 in
      (omega arith, (sorted_through word_cmp (λ (k : List ℕ). k) attribute_seen es names, each_writable es (each_field left seen (omega arith) fits.1.1)))

  variant_writable : (v : VariantLayer RawName) → FormFits (suc left) (variant_layer_seen v) → WritableVariant left (Writable left) v
  variant_writable layer.String fits = tt
  variant_writable layer.Long fits = tt
  variant_writable layer.Boolean fits = tt
  variant_writable (layer.Set element) fits =
      let deep : depth (type_seen element) + 1 < suc left = fits.0 in
      (omega arith, inside element (omega arith, fits.1))
  variant_writable (layer.Record r) fits =
      let here : FormFits (suc left) (record_layer_seen r) = subst (FormFits (suc left)) (record_seen-is r) fits in
      attributes_writable (out-RecordType RawName r).attributes (out-RecordType RawName r).additional_attributes here
  variant_writable (layer.Entity name) fits = tt
  variant_writable (layer.EntityOrCommon name) fits = tt
  variant_writable (layer.Extension name) fits = tt

  layer_writable : (l : TypeLayer RawName) → Fits (suc left) (layer_seen l) → WritableLayer left (Writable left) l
  layer_writable (layer.Variant ty loc) fits = variant_writable (out-TypeVariant RawName ty) (subst (FormFits (suc left)) (form_seen-is ty) fits)
  layer_writable (layer.CommonTypeRef name loc) fits = fits.1

-- a type that nests so deep, and is in order
pub type_writable : (left : ℕ) (t : SchemaType RawName) → Fits left (type_seen t) → Writable left t
unfolding Writable
type_writable zero t fits = let deep : depth (type_seen t) < 0 = fits.0 in absurd (omega arith)
type_writable (suc left) t fits = layer_writable left (type_writable left) (out-SchemaType RawName t) (subst (Fits (suc left)) (type_seen-is t) fits)
