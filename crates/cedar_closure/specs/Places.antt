-- SPDX-License-Identifier: Apache-2.0
-- Keys and edges as positions in a list of keys.
use Rattle.std.specs.Prelude.{◌≡◌, ℕ, ◌||◌, IsSomeAnd, All, List, ◌∷◌, Option, map}
use Rattle.std.specs.declared.cmp.Ordering.{Ordering}
use Rattle.std.specs.List.{position, filter_map, flat_map}
use Rattle.std.specs.List.Sorted.{IsStrictlySortedBy}
use Rattle.std.specs.BTreeMap.{is_at}
use Rattle.std.specs.Map.{keys_of}
use Rattle.cedar_names.specs.of_data.Sets.{contains}
use Rattle.cedar_closure.specs.Chains.{Reaches}
use Rattle.cedar_closure.specs.Closure.{edges_at}
use Rattle.cedar_closure.specs.Marks.{Leads}

module _ {K : Type 0} (cmp : K → K → Ordering) where
  -- where the key stands
  abbrev pub place : List K → K → Option ℕ
  place keys key = position (is_at (cmp key)) keys

  -- the keys are all of these, each once, in order
  pub record PutsInOrder (all keys : List K) : Type 0 where
    pub ordered : IsStrictlySortedBy cmp keys
    pub same : (key : K) → contains cmp keys key ≡ contains cmp all key

  -- but for the known keys, the new keys are the old ones and the others
  abbrev pub AddsBeside : List K → List K → List K → List K → Type 0
  AddsBeside known old new others =
      (key : K) → (contains cmp known key || contains cmp new key) ≡ (contains cmp known key || (contains cmp old key || contains cmp others key))

  -- the row of the first key leads to the second
  abbrev pub LeadsTo : List K → List (List ℕ) → K → K → Type 0
  LeadsTo keys rows a b = IsSomeAnd (place keys a) (λ i. IsSomeAnd (place keys b) (λ j. Leads rows i j))

  -- from the first key, a chain of rows leads to the second
  abbrev pub Chained : List K → List (List ℕ) → K → K → Type 0
  Chained keys rows a b = IsSomeAnd (place keys a) (λ i. IsSomeAnd (place keys b) (λ j. Reaches (Leads rows) i j))

module _ {K V : Type 0} (cmp : K → K → Ordering) (edges : V → List K) where
  -- each key of a node and of an edge
  abbrev pub named : List (K × V) → List K
  named nodes = flat_map (λ entry. entry.0 ∷ edges entry.1) nodes

  -- the others are the keys of edges, but for those of nodes
  abbrev pub NamesBeside : List (K × V) → List K → Type 0
  NamesBeside nodes others = (key : K) → (contains cmp (keys_of nodes) key || contains cmp others key) ≡ contains cmp (named nodes) key

  -- the keys are those of nodes and edges, each once, in order; and so are the edges of each node
  pub record AreKeysOf (nodes : List (K × V)) (keys : List K) : Type 0 where
    pub ordered : IsStrictlySortedBy cmp keys
    pub edges_ordered : All (λ entry. IsStrictlySortedBy cmp (edges entry.1)) nodes
    pub same : (key : K) → contains cmp keys key ≡ contains cmp (named nodes) key

  -- the positions to which the edges of the node at the key lead
  abbrev pub row_at : List (K × V) → List K → K → List ℕ
  row_at nodes keys key = filter_map (place cmp keys) (edges_at cmp edges nodes key)

  -- a row for each key
  abbrev pub rows_at : List (K × V) → List K → List (List ℕ)
  rows_at nodes keys = map (row_at nodes keys) keys
