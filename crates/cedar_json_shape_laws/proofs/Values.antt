-- SPDX-License-Identifier: Apache-2.0
-- A value without a fault as the value of an attribute of an action is one.
use Rattle.std.proofs.Common.{◌≡◌, ◌<◌, ℕ, ℤ, zero, suc, Bool, true, false, is_some, codes, Option, Some, None, refl, sym, subst, arith}
use Rattle.std.specs.Cmp.Lexicographic.{slice_cmp}
use Rattle.std.specs.Ordering.{nat_cmp}
use Rattle.serde_json.specs.Data.{Data, Items, Members, null, boolean, number, string, array, object}
use Rattle.serde_json.specs.Find.{get}
use Rattle.cedar_types.specs.Values.{list_values}
use Rattle.cedar_types.specs.declared.value.CedarValueJson.{CedarValueJson}
use Rattle.cedar_types.specs.declared.value.CedarValueJson.TheVariants as value
use Rattle.cedar_types.specs.declared.value.ValueList.{ValueList, roll-ValueList, out-roll-ValueList}
use Rattle.cedar_types.specs.declared.value.ValueMap.{ValueMap, roll-ValueMap, out-roll-ValueMap}
use Rattle.cedar_json_types.specs.Faults.{Fault, any_text, entry_fault, items_fault, map_fault, members_fault}
use Rattle.cedar_json_types.specs.Shapes.{EachItem, Entry, MapOf}
use Rattle.cedar_json_types.specs.Types.{too_deep}
use Rattle.cedar_json_values.specs.ActionValues.{IsMapped, ValuePart, ValueShape, ValuesShape, in_range, layer_fault, long_of, value_fault}
use Rattle.cedar_json_values.proofs.ValueLemmas.{bool_value, entity_mapped, expr_mapped, extn_mapped, long_value, null_value, object_value, record_mapped, set_value, string_value}
use Rattle.cedar_json_shape_laws.proofs.Members.{entries_shaped, items_shaped, text_key}
use Rattle.cedar_json_shape_laws.proofs.Steps.{neither}
use Rattle.cedar_json_shape_laws.proofs.Types.{more_left}

-- ---- parts of a value

-- the values at their names
module _ (Part : Data → CedarValueJson → Type 0) (fault : Data → Fault) (shaped : (d : Data) → fault d ≡ None → (v : CedarValueJson) × Part d v) where
  pub values_shaped : (d : Data) → map_fault (entry_fault any_text fault) d ≡ None → (m : ValueMap) × ValuesShape Part d m
  values_shaped d none =
      let made = entries_shaped (λ k t. t ≡ k) Part any_text fault text_key shaped (slice_cmp nat_cmp) d none in
      (roll-ValueMap (record { map = made.0 }), subst (λ r. MapOf (slice_cmp nat_cmp) (Entry (λ k t. t ≡ k) Part) d r.map) (sym (out-roll-ValueMap (record { map = made.0 }))) made.1)

  list_shaped : (ds : Items) → items_fault fault 0 ds ≡ None → (l : ValueList) × EachItem Part ds (list_values l)
  list_shaped ds none =
      let made = items_shaped Part fault shaped 0 ds none in
      (roll-ValueList (record { items = made.0 }), subst (λ r. EachItem Part ds r.items) (sym (out-roll-ValueList (record { items = made.0 }))) made.1)

long_in_range : (o : Option ℤ) → in_range o ≡ None → (z : ℤ) × (o ≡ Some z)
long_in_range None none = absurd (cc)
long_in_range (Some z) none = (z, refl)

not_some : (o : Option Data) → is_some o ≡ false → o ≡ None
not_some None is = refl
not_some (Some d) is = absurd (cc)

-- an object is the escape of the first of the three keys that it has, or else a record
mapped : (d : Data) (m : ValueMap) (expr entity extn : Bool) → is_some (get (codes "__expr") d) ≡ expr → is_some (get (codes "__entity") d) ≡ entity → is_some (get (codes "__extn") d) ≡ extn
    → (v : CedarValueJson) × IsMapped d m v
mapped d m true entity extn x y z = (value.ExprEscape m, expr_mapped d m x)
mapped d m false true extn x y z = (value.EntityEscape m, entity_mapped d m (not_some _ x, tt) y)
mapped d m false false true x y z = (value.ExtnEscape m, extn_mapped d m (not_some _ x, (not_some _ y, tt)) z)
mapped d m false false false x y z = (value.Record m, record_mapped d m (not_some _ x, (not_some _ y, (not_some _ z, tt))))

-- ---- values

module _ (left : ℕ) (shaped : (d : Data) → 0 < left → value_fault left d ≡ None → (v : CedarValueJson) × ValuePart left d v) where
  object_shaped : (ms : Members) → layer_fault left (value_fault left) (object ms) ≡ None → (v : CedarValueJson) × ValueShape left (object ms) v
  object_shaped ms none =
      let both = neither (too_deep left) (members_fault (entry_fault any_text (value_fault left)) ms) none in
      let some = more_left left both.0 in
      let made = values_shaped (ValuePart left) (value_fault left) (λ e. shaped e some) (object ms) both.1 in
      let which = mapped (object ms) made.0 _ _ _ refl refl refl in
      (which.0, object_value left (object ms) made.1.0 made.0 which.0 some which.1 made.1.1 made.1.2)

  layer_shaped : (d : Data) → layer_fault left (value_fault left) d ≡ None → (v : CedarValueJson) × ValueShape left d v
  layer_shaped null none = (value.Null, null_value left null refl)
  layer_shaped (boolean b) none = (value.Bool b, bool_value left (boolean b) b refl)
  layer_shaped (number n) none = let long = long_in_range (long_of (number n)) none in (value.Long long.0, long_value left (number n) long.0 long.1)
  layer_shaped (string s) none = (value.String s, string_value left (string s) s refl)
  layer_shaped (array ds) none =
      let both = neither (too_deep left) (items_fault (value_fault left) 0 ds) none in
      let some = more_left left both.0 in
      let made = list_shaped (ValuePart left) (value_fault left) (λ e. shaped e some) ds both.1 in
      (value.Set made.0, set_value left (array ds) ds made.0 some refl made.1)
  layer_shaped (object ms) none = object_shaped ms none

pub value_shaped : (left : ℕ) (d : Data) → 0 < left → value_fault left d ≡ None → (v : CedarValueJson) × ValuePart left d v
unfolding value_fault
value_shaped zero d some none = absurd (omega (arith, some))
value_shaped (suc left) d some none = layer_shaped left (value_shaped left) d none
