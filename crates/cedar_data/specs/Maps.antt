-- SPDX-License-Identifier: Apache-2.0
-- A map as the list of its entries, in the order of their keys.
use Rattle.std.specs.Prelude.{◌≡◌, ℕ, Bool, cond, fold, List, [], map, reverse, Option, Some}
use Rattle.std.specs.declared.cmp.Ordering.{Ordering}
use Rattle.std.specs.Ordering.{nat_cmp}
use Rattle.std.specs.Cmp.Lexicographic.{slice_cmp}
use Rattle.std.specs.List.Sorted.{IsStrictlySortedBy}
use Rattle.std.specs.BTreeMap.{is_at, insert_entry}
use Rattle.std.specs.Map.{keys_of, lookup}

module _ {K V : Type 0} where
  -- the keys ascend strictly
  abbrev pub IsSortedMap : (K → K → Ordering) → List (K × V) → Type 0
  IsSortedMap cmp es = IsStrictlySortedBy cmp (keys_of es)

  -- the value at the key that is equal to `key`
  abbrev pub get : (K → K → Ordering) → List (K × V) → K → Option V
  get cmp es key = lookup (is_at (cmp key)) es

  -- at the key, the new map has the value; elsewhere, what the old map has
  abbrev pub Puts : (K → K → Ordering) → List (K × V) → List (K × V) → K → V → Type 0
  Puts cmp old new key value = (other : K) → get cmp new other ≡ cond (is_at (cmp key) other) (Some value) (get cmp old other)

  -- the value of the last pair whose key passes the test: what pairs say of a key where a later pair replaces an earlier one
  abbrev pub last_value : (K → Bool) → List (K × V) → Option V
  last_value passes pairs = lookup passes (reverse pairs)

-- whether a text has the bytes of `name`
abbrev pub is_text : List ℕ → List ℕ → Bool
is_text name text = is_at (slice_cmp nat_cmp name) text

-- the value at the text that has the bytes of `name`
abbrev pub get_text : {V : Type 0} → List (List ℕ × V) → List ℕ → Option V
get_text es name = lookup (is_text name) es

-- each value changed by f, at its key
abbrev pub map_values : {K V W : Type 0} → (V → W) → List (K × V) → List (K × W)
map_values f es = map (λ e. (e.0, f e.1)) es

-- the map that these pairs make, put in one after another: in the order of the keys, and a later pair of a key replaces
abbrev pub map_of : {K V : Type 0} → (K → K → Ordering) → List (K × V) → List (K × V)
map_of cmp pairs = fold (λ es pair. insert_entry cmp es pair.0 pair.1) [] pairs
