-- SPDX-License-Identifier: Apache-2.0
-- A value that is the value of an attribute of an action has no fault.
use Rattle.std.proofs.Common.{◌≡◌, ◌<◌, ℕ, ℤ, zero, suc, None, refl, ap}
use Rattle.std.specs.Cmp.Lexicographic.{slice_cmp}
use Rattle.std.specs.Ordering.{nat_cmp}
use Rattle.serde_json.specs.Data.{Data, null, boolean, number, string, array, object}
use Rattle.cedar_types.specs.Values.{members, list_values}
use Rattle.cedar_types.specs.declared.value.CedarValueJson.{CedarValueJson, out-CedarValueJson}
use Rattle.cedar_types.specs.declared.value.CedarValueJson.TheOpen as layer
use Rattle.cedar_types.specs.declared.value.ValueMap.{ValueMap}
use Rattle.cedar_json_types.specs.Faults.{Fault, any_text, entry_fault, items_fault, members_fault, map_fault, in_object, in_array}
use Rattle.cedar_json_types.specs.Shapes.{Entry}
use Rattle.cedar_json_values.specs.ActionValues.{IsLong, ObjectLayer, OneValue, ValueLayer, ValuePart, ValuesShape, in_range, layer_fault, value_fault}
use Rattle.cedar_json_laws.proofs.CleanParts.{neither_fault, array_clean, map_clean, entry_clean, any_text_clean}
use Rattle.cedar_json_laws.proofs.CleanTypes.{some_left}

long_clean : (left : ℕ) (part : Data → Fault) (d : Data) (z : ℤ) → IsLong d z → layer_fault left part d ≡ None
long_clean left part null z is = refl
long_clean left part (boolean b) z is = refl
long_clean left part (number n) z is = ap in_range is
long_clean left part (string s) z is = refl
long_clean left part (array ds) z is = absurd (cc)
long_clean left part (object ms) z is = absurd (cc)

array_layer : (left : ℕ) (part : Data → Fault) (d : Data) → 0 < left → in_array (items_fault part 0) d ≡ None → layer_fault left part d ≡ None
array_layer left part null some none = refl
array_layer left part (boolean b) some none = refl
array_layer left part (number n) some none = absurd (cc)
array_layer left part (string s) some none = refl
array_layer left part (array ds) some none = neither_fault _ _ (some_left left some) none
array_layer left part (object ms) some none = absurd (cc)

object_layer : (left : ℕ) (part : Data → Fault) (d : Data) → 0 < left → in_object (members_fault (entry_fault any_text part)) d ≡ None → layer_fault left part d ≡ None
object_layer left part null some none = refl
object_layer left part (boolean b) some none = refl
object_layer left part (number n) some none = absurd (cc)
object_layer left part (string s) some none = refl
object_layer left part (array ds) some none = absurd (cc)
object_layer left part (object ms) some none = neither_fault _ _ (some_left left some) none

module _ (Part : Data → CedarValueJson → Type 0) (part : Data → Fault) (clean : (d : Data) (v : CedarValueJson) → Part d v → part d ≡ None) where
  pub values_clean : (d : Data) (m : ValueMap) → ValuesShape Part d m → map_fault (entry_fault any_text part) d ≡ None
  values_clean d m are = map_clean (Entry (λ k t. t ≡ k) Part) (entry_fault any_text part) (entry_clean (λ k t. t ≡ k) Part any_text part any_text_clean clean) (slice_cmp nat_cmp) d (members m) are

  objects_clean : (left : ℕ) (d : Data) (l : OneValue) → ObjectLayer left Part d l → layer_fault left part d ≡ None
  objects_clean left d l is = object_layer left part d is.0 (values_clean d is.1.0 is.1.2)

  value_layer_clean : (left : ℕ) (d : Data) (l : OneValue) → ValueLayer left Part d l → layer_fault left part d ≡ None
  value_layer_clean left d layer.Null is = ap (layer_fault left part) is
  value_layer_clean left d (layer.Bool b) is = ap (layer_fault left part) is
  value_layer_clean left d (layer.Long z) is = long_clean left part d z is
  value_layer_clean left d (layer.String t) is = ap (layer_fault left part) is
  value_layer_clean left d (layer.Set l) is = array_layer left part d is.0 (array_clean Part part clean d (list_values l) is.1)
  value_layer_clean left d (layer.Record m) is = objects_clean left d (layer.Record m) is
  value_layer_clean left d (layer.ExprEscape m) is = objects_clean left d (layer.ExprEscape m) is
  value_layer_clean left d (layer.EntityEscape m) is = objects_clean left d (layer.EntityEscape m) is
  value_layer_clean left d (layer.ExtnEscape m) is = objects_clean left d (layer.ExtnEscape m) is

pub value_clean : (left : ℕ) (d : Data) (v : CedarValueJson) → ValuePart left d v → value_fault left d ≡ None
unfolding ValuePart value_fault
value_clean zero d v is = refl
value_clean (suc left) d v is = value_layer_clean (ValuePart left) (value_fault left) (value_clean left) left d (out-CedarValueJson v) is
