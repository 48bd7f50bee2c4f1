-- SPDX-License-Identifier: Apache-2.0
-- The children of keys, while they are gathered.
use Rattle.std.specs.Prelude.{◌&&◌, Bool, List, [], Option, Some, None}
use Rattle.std.specs.BTreeMap.{is_at}
use Rattle.std.specs.List.{list_any}
use Rattle.std.specs.declared.cmp.Ordering.{Ordering}
use Rattle.cedar_data.specs.Maps.{get}
use Rattle.cedar_data.specs.Sets.{contains}

-- the members of a set, none where there is no set
abbrev pub members : {K : Type 0} → Option (List K) → List K
members None = []
members (Some ks) = ks

module _ {K : Type 0} (cmp : K → K → Ordering) where
  -- the children of a key
  abbrev pub children_at : List (K × List K) → K → List K
  children_at children parent = members (get cmp children parent)

  -- whether it is among the children of a key
  abbrev pub is_child : List (K × List K) → K → K → Bool
  is_child children parent child = contains cmp (children_at children parent) child

  -- whether one of these, under its key, is the child and has the other key as a parent
  abbrev pub has_parent : {V : Type 0} → (V → K → Bool) → List (K × V) → K → K → Bool
  has_parent is_parent es parent child = list_any (λ e. is_parent e.1 parent && is_at (cmp e.0) child) es
