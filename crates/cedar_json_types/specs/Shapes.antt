-- SPDX-License-Identifier: Apache-2.0
-- How the shape of a JSON value is said by the shapes of its parts. Nothing is said of order or of faults.
use Rattle.std.specs.Prelude.{◌≡◌, ⊤, ℕ, Bool, true, List, [], ◌∷◌, Option, Some, None}
use Rattle.std.specs.declared.cmp.Ordering.{Ordering}
use Rattle.cedar_data.specs.Maps.{map_of}
use Rattle.cedar_text.specs.Words.{has_word}
use Rattle.serde_json.specs.Data.{Data, null, boolean, number, string, array, object, Items, no_items, item, Members, no_members, member}
use Rattle.serde_json.specs.Find.{get, as_array, as_object}

-- ---- the keys of an object

-- each key is one of these
abbrev pub KeysWithin : List (List ℕ) → Members → Type 0
KeysWithin keys no_members = ⊤
KeysWithin keys (member k d ms) = (has_word keys k ≡ true) × KeysWithin keys ms

-- an object that has no other keys than these
abbrev pub Keyed : List (List ℕ) → Data → Type 0
Keyed keys d = (ms : Members) × (as_object d ≡ Some ms) × KeysWithin keys ms

-- none of these keys is there
abbrev pub Lacks : List (List ℕ) → Data → Type 0
Lacks [] d = ⊤
Lacks (k ∷ ks) d = (get k d ≡ None) × Lacks ks d

-- ---- the members of an object

module _ {V : Type 0} where
  -- the member at the key is there, and is such a value
  abbrev pub At : List ℕ → (Data → V → Type 0) → Data → V → Type 0
  At k P d v = (e : Data) × (get k d ≡ Some e) × P e v

  -- the member is such a value, and an absent one stands for such a one
  abbrev pub OrAbsent : (V → Type 0) → (Data → V → Type 0) → Option Data → V → Type 0
  OrAbsent absent P None v = absent v
  OrAbsent absent P (Some d) v = P d v

  -- the member at the key is such a value; an absent one stands for such a one
  abbrev pub MayHave : List ℕ → (V → Type 0) → (Data → V → Type 0) → Data → V → Type 0
  MayHave k absent P d v = OrAbsent absent P (get k d) v

  -- `null` is no value; anything else is such a value
  abbrev pub OrNull : (Data → V → Type 0) → Data → Option V → Type 0
  OrNull P d None = d ≡ null
  OrNull P d (Some v) = P d v

  -- there is such a value
  abbrev pub Present : (Data → V → Type 0) → Data → Option V → Type 0
  Present P d None = ⊥
  Present P d (Some v) = P d v

  abbrev pub Nothing : Option V → Type 0
  Nothing o = o ≡ None

  -- ---- arrays

  -- the items are such values, in order
  abbrev pub EachItem : (Data → V → Type 0) → Items → List V → Type 0
  EachItem P no_items [] = ⊤
  EachItem P no_items (v ∷ vs) = ⊥
  EachItem P (item d ds) [] = ⊥
  EachItem P (item d ds) (v ∷ vs) = P d v × EachItem P ds vs

  abbrev pub ArrayOf : (Data → V → Type 0) → Data → List V → Type 0
  ArrayOf P d vs = (ds : Items) × (as_array d ≡ Some ds) × EachItem P ds vs

-- ---- maps

module _ {K V : Type 0} where
  -- the members are such entries, in order
  abbrev pub EachMember : (List ℕ → Data → K → V → Type 0) → Members → List (K × V) → Type 0
  EachMember P no_members [] = ⊤
  EachMember P no_members (e ∷ es) = ⊥
  EachMember P (member k d ms) [] = ⊥
  EachMember P (member k d ms) (e ∷ es) = P k d e.0 e.1 × EachMember P ms es

  -- the map of the entries that the members are
  abbrev pub MapMembers : (K → K → Ordering) → (List ℕ → Data → K → V → Type 0) → Members → List (K × V) → Type 0
  MapMembers cmp P ms m = (es : List (K × V)) × EachMember P ms es × (m ≡ map_of cmp es)

  abbrev pub MapOf : (K → K → Ordering) → (List ℕ → Data → K → V → Type 0) → Data → List (K × V) → Type 0
  MapOf cmp P d m = (ms : Members) × (as_object d ≡ Some ms) × MapMembers cmp P ms m

  -- an entry, by its key and its value
  abbrev pub Entry : (List ℕ → K → Type 0) → (Data → V → Type 0) → List ℕ → Data → K → V → Type 0
  Entry named P k d key v = named k key × P d v

-- ---- plain values

abbrev pub IsFlag : Data → Bool → Type 0
IsFlag d b = d ≡ boolean b

abbrev pub IsText : Data → List ℕ → Type 0
IsText d t = d ≡ string t
