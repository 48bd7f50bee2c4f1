-- SPDX-License-Identifier: Apache-2.0
-- A set as the list of its keys, in their order.
use Rattle.std.specs.Prelude.{◌≡◌, ◌↔◌, Bool, true, cond, List, [], fold, IsTrue}
use Rattle.std.specs.declared.cmp.Ordering.{Ordering}
use Rattle.std.specs.List.{list_any}
use Rattle.std.specs.BTreeMap.{is_at}
use Rattle.std.specs.BTreeSet.{insert_key}
use Rattle.std.specs.List.Sorted.{IsStrictlySortedBy}

module _ {K : Type 0} (cmp : K → K → Ordering) where
  -- whether a key is equal to `key`
  abbrev pub contains : List K → K → Bool
  contains keys key = list_any (is_at (cmp key)) keys

  -- the new set has the key; of each other key, it has what the old set has
  abbrev pub Adds : List K → List K → K → Type 0
  Adds old new key = (other : K) → contains new other ≡ cond (is_at (cmp key) other) true (contains old other)

  -- the set that these keys make, put in one after another: in order, and of equal keys the first stays
  abbrev pub set_of : List K → List K
  set_of keys = fold (insert_key cmp) [] keys

  -- the list ascends, and has exactly those of which P holds
  pub record IsSetOf (P : K → Type 0) (keys : List K) : Type 0 where
    pub ascends : IsStrictlySortedBy cmp keys
    pub members : (key : K) → IsTrue (contains keys key) ↔ P key
