-- SPDX-License-Identifier: Apache-2.0
-- Members, arrays and maps without a fault have the shape that their parts have.
use Rattle.std.proofs.Common.{◌≡◌, ℕ, ◌+◌, List, [], ◌∷◌, decimal, Option, Some, None, refl}
use Rattle.std.specs.declared.cmp.Ordering.{Ordering}
use Rattle.serde_json.specs.Data.{Data, null, boolean, number, string, array, object, Items, no_items, item, Members, no_members, member}
use Rattle.serde_json.specs.Find.{get}
use Rattle.cedar_data.specs.Maps.{map_of}
use Rattle.cedar_json_types.specs.Faults.{Fault, under, any_text, in_field, needs, if_there, allows, unless_null, members_fault, map_fault, entry_fault, items_fault, array_fault}
use Rattle.cedar_json_types.specs.Shapes.{At, OrAbsent, MayHave, OrNull, Present, EachItem, ArrayOf, EachMember, MapOf, Entry}
use Rattle.cedar_json_shape_laws.proofs.Steps.{neither, not_under, an_object, an_array}

-- the value in a field that has to be there
in_its_field : (k : List ℕ) (fault : Data → Fault) (o : Option Data) → in_field k fault o ≡ None → (e : Data) × (o ≡ Some e) × (fault e ≡ None)
in_its_field k fault None none = absurd (cc)
in_its_field k fault (Some e) none = (e, refl, not_under k (fault e) none)

pub in_needed : (k : List ℕ) (fault : Data → Fault) (d : Data) → needs k fault d ≡ None → (e : Data) × (get k d ≡ Some e) × (fault e ≡ None)
in_needed k fault d none = in_its_field k fault (get k d) none

module _ {V : Type 0} (P : Data → V → Type 0) (fault : Data → Fault) (shaped : (d : Data) → fault d ≡ None → (v : V) × P d v) where
  -- ---- members

  pub at_shaped : (k : List ℕ) (d : Data) → needs k fault d ≡ None → (v : V) × At k P d v
  at_shaped k d none =
      let there = in_needed k fault d none in
      let made = shaped there.0 there.2 in
      (made.0, (there.0, there.1, made.1))

  or_absent_shaped : (k : List ℕ) (absent : V → Type 0) (v : V) → absent v → (o : Option Data) → if_there k fault o ≡ None → (v : V) × OrAbsent absent P o v
  or_absent_shaped k absent v is None none = (v, is)
  or_absent_shaped k absent v is (Some d) none = shaped d (not_under k (fault d) none)

  -- an absent member stands for v
  pub may_have_shaped : (k : List ℕ) (absent : V → Type 0) (v : V) → absent v → (d : Data) → allows k fault d ≡ None → (v : V) × MayHave k absent P d v
  may_have_shaped k absent v is d none = or_absent_shaped k absent v is (get k d) none

  pub present_shaped : (d : Data) → fault d ≡ None → (o : Option V) × Present P d o
  present_shaped d none = let made = shaped d none in (Some made.0, made.1)

  some_shaped : (d : Data) → fault d ≡ None → (o : Option V) × OrNull P d o
  some_shaped d none = let made = shaped d none in (Some made.0, made.1)

  pub or_null_shaped : (d : Data) → unless_null fault d ≡ None → (o : Option V) × OrNull P d o
  or_null_shaped null none = (None, refl)
  or_null_shaped (boolean b) none = some_shaped (boolean b) none
  or_null_shaped (number n) none = some_shaped (number n) none
  or_null_shaped (string s) none = some_shaped (string s) none
  or_null_shaped (array ds) none = some_shaped (array ds) none
  or_null_shaped (object ms) none = some_shaped (object ms) none

  -- ---- arrays

  pub items_shaped : (place : ℕ) (ds : Items) → items_fault fault place ds ≡ None → (vs : List V) × EachItem P ds vs
  items_shaped place no_items none = ([], tt)
  items_shaped place (item d ds) none =
      let both = neither (under (decimal place) (fault d)) (items_fault fault (place + 1) ds) none in
      let made = shaped d (not_under (decimal place) (fault d) both.0) in
      let rest = items_shaped (place + 1) ds both.1 in
      (made.0 ∷ rest.0, (made.1, rest.1))

  pub array_shaped : (d : Data) → array_fault fault d ≡ None → (vs : List V) × ArrayOf P d vs
  array_shaped d none =
      let is = an_array (items_fault fault 0) d none in
      let made = items_shaped 0 is.0 is.2 in
      (made.0, (is.0, is.1, made.1))

-- ---- maps

module _ {K V : Type 0} (P : List ℕ → Data → K → V → Type 0) (fault : List ℕ → Data → Fault) (shaped : (k : List ℕ) (d : Data) → fault k d ≡ None → (e : K × V) × P k d e.0 e.1) where
  pub members_shaped : (ms : Members) → members_fault fault ms ≡ None → (es : List (K × V)) × EachMember P ms es
  members_shaped no_members none = ([], tt)
  members_shaped (member k d ms) none =
      let both = neither (fault k d) (members_fault fault ms) none in
      let made = shaped k d both.0 in
      let rest = members_shaped ms both.1 in
      (made.0 ∷ rest.0, (made.1, rest.1))

  pub map_shaped : (cmp : K → K → Ordering) (d : Data) → map_fault fault d ≡ None → (m : List (K × V)) × MapOf cmp P d m
  map_shaped cmp d none =
      let is = an_object (members_fault fault) d none in
      let made = members_shaped is.0 is.2 in
      (map_of cmp made.0, (is.0, is.1, (made.0, made.1, refl)))

module _ {K V : Type 0} (named : List ℕ → K → Type 0) (P : Data → V → Type 0) (key_fault : List ℕ → Fault) (fault : Data → Fault)
    (key : (s : List ℕ) → key_fault s ≡ None → (k : K) × named s k) (shaped : (d : Data) → fault d ≡ None → (v : V) × P d v) where
  pub entry_shaped : (k : List ℕ) (d : Data) → entry_fault key_fault fault k d ≡ None → (e : K × V) × Entry named P k d e.0 e.1
  entry_shaped k d none =
      let both = neither (key_fault k) (under k (fault d)) none in
      let name = key k both.0 in
      let made = shaped d (not_under k (fault d) both.1) in
      ((name.0, made.0), (name.1, made.1))

  -- the map of such entries
  pub entries_shaped : (cmp : K → K → Ordering) (d : Data) → map_fault (entry_fault key_fault fault) d ≡ None → (m : List (K × V)) × MapOf cmp (Entry named P) d m
  entries_shaped cmp d none = map_shaped (Entry named P) (entry_fault key_fault fault) entry_shaped cmp d none

-- the key is any text
pub text_key : (s : List ℕ) → any_text s ≡ None → (k : List ℕ) × (k ≡ s)
text_key s none = (s, refl)
