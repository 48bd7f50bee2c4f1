-- SPDX-License-Identifier: Apache-2.0
-- No float is written of a type or of the value of an attribute of an action.
use Rattle.std.proofs.Common.{◌≡◌, ℕ, true, false, not, ℤ, pos, negsuc, List, [], ◌∷◌, map, codes, refl, sym, ap, ◌∙◌, subst}
use Rattle.std.specs.List.{AllByRecursion}
use Rattle.serde_json.specs.Data.{Data, Items, boolean}
use Rattle.serde_json.specs.Find.{is_float, of_integer}
use Rattle.serde_json.specs.View.{items_of}
use Rattle.serde_json.specs.Written.{has_float, items_have_float}
use Rattle.cedar_data.specs.Maps.{map_values}
use Rattle.cedar_names.specs.Annotating.{annotation_entries}
use Rattle.cedar_names.specs.Identifiers.{any_word}
use Rattle.cedar_names.specs.declared.annotation.Annotation.{Annotation}
use Rattle.cedar_names.specs.declared.annotation.Annotations.{Annotations}
use Rattle.cedar_names.specs.declared.any_id.AnyId.{AnyId}
use Rattle.cedar_written.specs.declared.raw_name.RawName.{RawName}
use Rattle.cedar_written.specs.declared.ty.SchemaType.{SchemaType}
use Rattle.cedar_written.specs.declared.ty.TypeOfAttribute.{TypeOfAttribute}
use Rattle.cedar_written.proofs.TypeFolds.{fold-Variant, fold-CommonTypeRef, fold-String, fold-Long, fold-Boolean, fold-Set, fold-Record, fold-Entity, fold-EntityOrCommon, fold-Extension, fold-record_of, fold-attribute_of}
use Rattle.cedar_written.proofs.TypeInduction.{Cases, by_cases}
use Rattle.cedar_types.specs.declared.value.CedarValueJson.{CedarValueJson, roll-CedarValueJson, map-CedarValueJson, fold-roll-CedarValueJson}
use Rattle.cedar_types.specs.declared.value.CedarValueJson.TheOpen as value
use Rattle.cedar_types.specs.declared.value.CedarValueJson.TheOpen.{CedarValueJson-F, ValueList-F, ValueMap-F}
use Rattle.cedar_types.specs.declared.value.ValueList.{ValueList, roll-ValueList, map-ValueList, fold-roll-ValueList}
use Rattle.cedar_types.specs.declared.value.ValueMap.{ValueMap, ind-ValueMap, roll-ValueMap, map-ValueMap, fold-roll-ValueMap}
use Rattle.cedar_json_write.specs.Written.{Fields, annotation_json, annotations_json, attribute_fields, attribute_step, list_items, list_step, map_fields, map_step, notes, object_of, record_fields, record_step, type_fields, type_json, type_step, value_json, value_step, variant_fields, variant_step}
use Rattle.cedar_json_write.proofs.Plain.{Plain, append_plain, both, each_plain, if_any_plain, object_plain, unless_plain}

-- ---- annotations

annotations_plain : (es : List (AnyId × Annotation)) → has_float (annotations_json es) ≡ false
annotations_plain es = object_plain _ (each_plain any_word annotation_json (λ a. refl) es)

pub notes_plain : (a : Annotations) → Plain (notes a)
notes_plain a = if_any_plain (codes "annotations") annotations_json annotations_plain (annotation_entries a)

-- ---- types

attributes_plain : (es : List (List ℕ × TypeOfAttribute RawName)) → AllByRecursion {X = List ℕ × TypeOfAttribute RawName} (λ e. Plain (attribute_fields e.1)) es → Plain (map (λ e. (e.0, object_of e.1)) (map_values attribute_fields es))
attributes_plain [] all = tt
attributes_plain (e ∷ es) all = (object_plain (attribute_fields e.1) all.0, attributes_plain es all.1)

plain_cases : Cases {N = RawName} (λ t. Plain (type_fields t)) (λ v. Plain (variant_fields v)) (λ r. Plain (record_fields r)) (λ a. Plain (attribute_fields a))
plain_cases = record {
  of_variant = λ v loc plain. subst Plain (sym (fold-Variant type_step variant_step record_step attribute_step v loc)) plain;
  of_common = λ name loc. subst Plain (sym (fold-CommonTypeRef type_step variant_step record_step attribute_step name loc)) (refl, tt);
  of_string = subst Plain (sym (fold-String type_step variant_step record_step attribute_step)) (refl, tt);
  of_long = subst Plain (sym (fold-Long type_step variant_step record_step attribute_step)) (refl, tt);
  of_boolean = subst Plain (sym (fold-Boolean type_step variant_step record_step attribute_step)) (refl, tt);
  of_set = λ t plain. subst Plain (sym (fold-Set type_step variant_step record_step attribute_step t)) (refl, (object_plain (type_fields t) plain, tt));
  of_record = λ r plain. subst Plain (sym (fold-Record type_step variant_step record_step attribute_step r)) (refl, plain);
  of_entity = λ name. subst Plain (sym (fold-Entity type_step variant_step record_step attribute_step name)) (refl, (refl, tt));
  of_entity_or_common = λ name. subst Plain (sym (fold-EntityOrCommon type_step variant_step record_step attribute_step name)) (refl, (refl, tt));
  of_extension = λ name. subst Plain (sym (fold-Extension type_step variant_step record_step attribute_step name)) (refl, (refl, tt));
  of_attributes = λ es additional all. subst Plain (sym (fold-record_of type_step variant_step record_step attribute_step es additional))
      (object_plain (map (λ e. (e.0, object_of e.1)) (map_values attribute_fields es)) (attributes_plain es all), unless_plain (not additional) (codes "additionalAttributes") (boolean true) refl);
  of_attribute = λ t annotations required plain. subst Plain (sym (fold-attribute_of type_step variant_step record_step attribute_step t annotations required))
      (append_plain (type_fields t) _ plain (append_plain _ (notes annotations) (unless_plain required (codes "required") (boolean false) refl) (notes_plain annotations)));
}

pub type_fields_plain : (t : SchemaType RawName) → Plain (type_fields t)
type_fields_plain = by_cases (λ t. Plain (type_fields t)) (λ v. Plain (variant_fields v)) (λ r. Plain (record_fields r)) (λ a. Plain (attribute_fields a)) plain_cases

pub type_plain : (t : SchemaType RawName) → has_float (type_json t) ≡ false
type_plain t = object_plain (type_fields t) (type_fields_plain t)

-- ---- values of attributes of actions

abbrev OneValue : Type 0
OneValue = (v : CedarValueJson) × (has_float (value_json v) ≡ false)

abbrev OneList : Type 0
OneList = (l : ValueList) × (items_have_float (list_items l) ≡ false)

abbrev OneMap : Type 0
OneMap = (m : ValueMap) × Plain (map_fields m)

abbrev step_equation : (x : CedarValueJson-F CedarValueJson ValueList ValueMap) → value_json (roll-CedarValueJson x) ≡ value_step (map-CedarValueJson CedarValueJson ValueList ValueMap Data Items Fields value_json list_items map_fields x)
step_equation x = fold-roll-CedarValueJson Data Items Fields value_step list_step map_step x

abbrev opened : CedarValueJson-F OneValue OneList OneMap → CedarValueJson-F CedarValueJson ValueList ValueMap
opened = map-CedarValueJson OneValue OneList OneMap CedarValueJson ValueList ValueMap (λ e. e.0) (λ e. e.0) (λ e. e.0)

long_plain : (z : ℤ) → is_float (of_integer z) ≡ false
long_plain (pos n) = refl
long_plain (negsuc n) = refl

values_plain : (vs : List OneValue) → items_have_float (items_of (map value_json (map (λ e. e.0) vs))) ≡ false
values_plain [] = refl
values_plain (v ∷ vs) = both (has_float (value_json v.0)) _ v.1 (values_plain vs)

fields_plain : (es : List (List ℕ × OneValue)) → Plain (map_values value_json (map_values (λ e. e.0) es))
fields_plain [] = tt
fields_plain (e ∷ es) = (e.1.1, fields_plain es)

one_plain : (y : CedarValueJson-F OneValue OneList OneMap) → has_float (value_json (roll-CedarValueJson (opened y))) ≡ false
one_plain value.Null = ap has_float (step_equation value.Null)
one_plain (value.Bool b) = ap has_float (step_equation (value.Bool b))
one_plain (value.Long z) = ap has_float (step_equation (value.Long z)) ∙ long_plain z
one_plain (value.String t) = ap has_float (step_equation (value.String t))
one_plain (value.Set l) = ap has_float (step_equation (value.Set l.0)) ∙ l.1
one_plain (value.Record m) = ap has_float (step_equation (value.Record m.0)) ∙ object_plain (map_fields m.0) m.1
one_plain (value.ExprEscape m) = ap has_float (step_equation (value.ExprEscape m.0)) ∙ object_plain (map_fields m.0) m.1
one_plain (value.EntityEscape m) = ap has_float (step_equation (value.EntityEscape m.0)) ∙ object_plain (map_fields m.0) m.1
one_plain (value.ExtnEscape m) = ap has_float (step_equation (value.ExtnEscape m.0)) ∙ object_plain (map_fields m.0) m.1

abbrev list_opened : ValueList-F OneValue OneList OneMap → ValueList-F CedarValueJson ValueList ValueMap
list_opened = map-ValueList OneValue OneList OneMap CedarValueJson ValueList ValueMap (λ e. e.0) (λ e. e.0) (λ e. e.0)

abbrev map_opened : ValueMap-F OneValue OneList OneMap → ValueMap-F CedarValueJson ValueList ValueMap
map_opened = map-ValueMap OneValue OneList OneMap CedarValueJson ValueList ValueMap (λ e. e.0) (λ e. e.0) (λ e. e.0)

list_plain : (y : ValueList-F OneValue OneList OneMap) → items_have_float (list_items (roll-ValueList (list_opened y))) ≡ false
list_plain y = ap items_have_float (fold-roll-ValueList Data Items Fields value_step list_step map_step (list_opened y)) ∙ values_plain y.items

map_plain : (y : ValueMap-F OneValue OneList OneMap) → Plain (map_fields (roll-ValueMap (map_opened y)))
map_plain y = subst Plain (sym (fold-roll-ValueMap Data Items Fields value_step list_step map_step (map_opened y))) (fields_plain y.map)

pub map_fields_plain : (m : ValueMap) → Plain (map_fields m)
map_fields_plain = ind-ValueMap (λ v. has_float (value_json v) ≡ false) (λ l. items_have_float (list_items l) ≡ false) (λ m. Plain (map_fields m))
    (λ x y is. subst (λ l. has_float (value_json (roll-CedarValueJson l)) ≡ false) is (one_plain y))
    (λ x y is. subst (λ l. items_have_float (list_items (roll-ValueList l)) ≡ false) is (list_plain y))
    (λ x y is. subst (λ l. Plain (map_fields (roll-ValueMap l))) is (map_plain y))
