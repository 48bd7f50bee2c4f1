-- SPDX-License-Identifier: Apache-2.0
-- What is written of a type, by its parts.
use Rattle.std.proofs.Common.{◌≡◌, ℕ, List, [], ◌∷◌, map, ◌++◌, codes, not, true, false, refl, sym, ap, ◌∙◌}
use Rattle.serde_json.specs.Data.{Data, Items, array, boolean}
use Rattle.serde_json.specs.View.{items_of}
use Rattle.cedar_data.specs.Maps.{map_values}
use Rattle.cedar_written.specs.declared.raw_name.RawName.{RawName}
use Rattle.cedar_written.specs.declared.ty.RecordType.{RecordType, out-RecordType, fold_out-RecordType}
use Rattle.cedar_written.specs.declared.ty.TypeOfAttribute.{TypeOfAttribute, out-TypeOfAttribute, fold_out-TypeOfAttribute}
use Rattle.cedar_types.specs.Values.{list_values, members}
use Rattle.cedar_types.specs.declared.value.ValueList.{ValueList, fold_out-ValueList}
use Rattle.cedar_types.specs.declared.value.ValueMap.{ValueMap, fold_out-ValueMap}
use Rattle.cedar_json_write.specs.Written.{Field, Fields, attribute_fields, attribute_json, attribute_step, attributes_json, each_at, list_items, list_step, map_fields, map_step, notes, object_of, record_fields, record_step, type_fields, type_step, unless, value_json, value_step, variant_step}
use Rattle.cedar_json_write.proofs.Building.{Puts-end, Puts-start, Rows-end, Rows-next, Rows-start, put_all-append}

-- a record type by its attributes
pub record_fields-is : (r : RecordType RawName)
    → record_fields r ≡ (codes "attributes", attributes_json (map_values attribute_fields (out-RecordType RawName r).attributes)) ∷ unless (not (out-RecordType RawName r).additional_attributes) (codes "additionalAttributes") (boolean true)
record_fields-is r = fold_out-RecordType RawName Fields Fields Fields Fields type_step variant_step record_step attribute_step r

-- the type of an attribute by its parts
pub attribute_fields-is : (a : TypeOfAttribute RawName)
    → attribute_fields a ≡ type_fields (out-TypeOfAttribute RawName a).ty ++ (unless (out-TypeOfAttribute RawName a).required (codes "required") (boolean false) ++ notes (out-TypeOfAttribute RawName a).annotations)
attribute_fields-is a = fold_out-TypeOfAttribute RawName Fields Fields Fields Fields type_step variant_step record_step attribute_step a

-- attributes, each as its object
attributes_fields : (es : List (List ℕ × TypeOfAttribute RawName)) → map {B = Field} (λ e. (e.0, attribute_json e.1)) es ≡ map {B = Field} (λ e. (e.0, object_of e.1)) (map_values attribute_fields es)
attributes_fields [] = refl
attributes_fields (e ∷ es) = ap (λ (fs : List Field). (e.0, attribute_json e.1) ∷ fs) (attributes_fields es)

pub attributes_of : (es : List (List ℕ × TypeOfAttribute RawName)) → each_at (λ k. k) attribute_json es ≡ attributes_json (map_values attribute_fields es)
attributes_of es = ap object_of (attributes_fields es)

pub ruleset type_parts = (record_fields-is, attribute_fields-is, put_all-append)

-- ---- the values of attributes of actions, by their parts

pub list_items-is : (l : ValueList) → list_items l ≡ items_of (map value_json (list_values l))
list_items-is l = fold_out-ValueList Data Items Fields value_step list_step map_step l

pub map_fields-is : (m : ValueMap) → map_fields m ≡ map_values value_json (members m)
map_fields-is m = fold_out-ValueMap Data Items Fields value_step list_step map_step m

-- a list is its values in order
pub list_written : (l : ValueList) (ds : List Data) (d : Data) → d ≡ array (items_of ds) → ds ≡ map value_json (list_values l) → d ≡ array (list_items l)
list_written l ds d is same = is ∙ ap (λ ds. array (items_of ds)) same ∙ ap array (sym (list_items-is l))

pub ruleset value_parts = (map_fields-is, list_written, Puts-start, Puts-end, Rows-start, Rows-next, Rows-end)
