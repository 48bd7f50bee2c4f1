-- SPDX-License-Identifier: Apache-2.0
-- Values of attributes of actions: what is first wrong with a value that has to be one, and which one a value is.
use Rattle.std.specs.Prelude.{◌≡◌, ◌<◌, ℕ, ℤ, zero, suc, true, is_some, List, [], ◌∷◌, codes, Option, Some, None, option_and_then}
use Rattle.std.specs.Cmp.Lexicographic.{slice_cmp}
use Rattle.std.specs.Ordering.{nat_cmp}
use Rattle.serde_json.specs.Data.{Data, null, boolean, number, string, array, object}
use Rattle.serde_json.specs.Find.{get, as_i64, as_number}
use Rattle.cedar_types.specs.Values.{members, list_values}
use Rattle.cedar_types.specs.declared.value.CedarValueJson.{CedarValueJson, out-CedarValueJson}
use Rattle.cedar_types.specs.declared.value.CedarValueJson.TheOpen as layer
use Rattle.cedar_types.specs.declared.value.CedarValueJson.TheOpen.{CedarValueJson-F}
use Rattle.cedar_types.specs.declared.value.ValueList.{ValueList}
use Rattle.cedar_types.specs.declared.value.ValueMap.{ValueMap}
use Rattle.cedar_json_fault.specs.declared.json_fault.JsonFault.TheVariants as fault
use Rattle.cedar_json_types.specs.Faults.{Fault, here, first, any_text, items_fault, members_fault, map_fault, entry_fault}
use Rattle.cedar_json_types.specs.Shapes.{Lacks, MapOf, ArrayOf, Entry}
use Rattle.cedar_json_types.specs.Types.{too_deep}

-- ---- faults

-- the whole number of 64 bits that a value is, if it is one
abbrev pub long_of : Data → Option ℤ
long_of d = option_and_then as_i64 (as_number d)

-- a number has to be a whole one of 64 bits
abbrev pub in_range : Option ℤ → Fault
in_range None = Some (here fault.NumberOutOfRange)
in_range (Some z) = None

abbrev pub long_fault : Data → Fault
long_fault d = in_range (long_of d)

-- the faults of a value, in their order; `part` says what is wrong with a value inside
abbrev pub layer_fault : ℕ → (Data → Fault) → Data → Fault
layer_fault left part null = None
layer_fault left part (boolean b) = None
layer_fault left part (number n) = long_fault (number n)
layer_fault left part (string s) = None
layer_fault left part (array ds) = first (too_deep left) (items_fault part 0 ds)
layer_fault left part (object ms) = first (too_deep left) (members_fault (entry_fault any_text part) ms)

-- the first fault of a value in which fewer than so many arrays and objects may nest
unfoldable pub value_fault : ℕ → Data → Fault
value_fault zero d = None
value_fault (suc n) d = layer_fault n (value_fault n) d

-- ---- shapes

abbrev pub OneValue : Type 0
OneValue = CedarValueJson-F CedarValueJson ValueList ValueMap

-- values by name
abbrev pub ValuesShape : (Data → CedarValueJson → Type 0) → Data → ValueMap → Type 0
ValuesShape Part d m = MapOf (slice_cmp nat_cmp) (Entry (λ k t. t ≡ k) Part) d (members m)

-- the key is there
abbrev pub Has : List ℕ → Data → Type 0
Has k d = is_some (get k d) ≡ true

-- the value is this whole number
abbrev pub IsLong : Data → ℤ → Type 0
IsLong d z = long_of d ≡ Some z

-- an object with one of the three keys of escapes is that escape, and any other object is a record; these are its members
abbrev pub MappedLayer : Data → OneValue → ValueMap → Type 0
MappedLayer d (layer.ExprEscape n) m = (n ≡ m) × Has (codes "__expr") d
MappedLayer d (layer.EntityEscape n) m = (n ≡ m) × Lacks (codes "__expr" ∷ []) d × Has (codes "__entity") d
MappedLayer d (layer.ExtnEscape n) m = (n ≡ m) × Lacks (codes "__expr" ∷ codes "__entity" ∷ []) d × Has (codes "__extn") d
MappedLayer d (layer.Record n) m = (n ≡ m) × Lacks (codes "__expr" ∷ codes "__entity" ∷ codes "__extn" ∷ []) d
MappedLayer d _ m = ⊥

unfoldable pub IsMapped : Data → ValueMap → CedarValueJson → Type 0
IsMapped d m v = MappedLayer d (out-CedarValueJson v) m

-- one layer of an object, where `left` arrays and objects may nest
abbrev pub ObjectLayer : ℕ → (Data → CedarValueJson → Type 0) → Data → OneValue → Type 0
ObjectLayer left Part d l = (0 < left) × ((m : ValueMap) × MappedLayer d l m × ValuesShape Part d m)

-- one layer of a value; Part says which value a value inside is
abbrev pub ValueLayer : ℕ → (Data → CedarValueJson → Type 0) → Data → OneValue → Type 0
ValueLayer left Part d layer.Null = d ≡ null
ValueLayer left Part d (layer.Bool b) = d ≡ boolean b
ValueLayer left Part d (layer.Long z) = IsLong d z
ValueLayer left Part d (layer.String t) = d ≡ string t
ValueLayer left Part d (layer.Set l) = (0 < left) × ArrayOf Part d (list_values l)
ValueLayer left Part d (layer.Record m) = ObjectLayer left Part d (layer.Record m)
ValueLayer left Part d (layer.ExprEscape m) = ObjectLayer left Part d (layer.ExprEscape m)
ValueLayer left Part d (layer.EntityEscape m) = ObjectLayer left Part d (layer.EntityEscape m)
ValueLayer left Part d (layer.ExtnEscape m) = ObjectLayer left Part d (layer.ExtnEscape m)

-- the value, in which fewer than so many arrays and objects nest; at 0 there is none
unfoldable pub ValuePart : ℕ → Data → CedarValueJson → Type 0
ValuePart zero d v = ⊥
ValuePart (suc left) d v = ValueLayer left (ValuePart left) d (out-CedarValueJson v)

-- the value, in which at most `left` arrays and objects nest
abbrev pub ValueShape : ℕ → Data → CedarValueJson → Type 0
ValueShape left = ValuePart (suc left)
