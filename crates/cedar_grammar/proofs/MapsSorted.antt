-- SPDX-License-Identifier: Apache-2.0
-- The map that pairs make has its keys in order.
use Rattle.std.proofs.Common.{◌≡◌, List, [], ◌∷◌, fold, refl, ap, ◌∙◌}
use Rattle.std.specs.declared.cmp.Ordering.{Ordering}
use Rattle.std.specs.declared.cmp.Ordering.TheVariants.{Less, Equal, Greater}
use Rattle.std.specs.Ordering.{match_ordering, ordering_reverse}
use Rattle.std.specs.Cmp.{IsTotalOrder}
use Rattle.std.specs.List.{AllByRecursion}
use Rattle.std.specs.List.Sorted.{IsStrictlySortedBy}
use Rattle.std.specs.BTreeMap.{insert_entry}
use Rattle.std.specs.Map.{keys_of}
use Rattle.cedar_data.specs.Maps.{IsSortedMap, map_of}

-- what is above a key is above each below that
above : {K : Type 0} {cmp : K → K → Ordering} → IsTotalOrder cmp → (k x : K) → cmp k x ≡ Less → (ys : List K) → AllByRecursion (λ y. cmp x y ≡ Less) ys → AllByRecursion (λ y. cmp k y ≡ Less) ys
above total k x first [] all = tt
above total k x first (y ∷ ys) all = (total.trans k x y first all.0, above total k x first ys all.1)

module _ {K V : Type 0} (cmp : K → K → Ordering) where
  -- what holds of each key and of the new one
  all_keys : (P : K → Type 0) (es : List (K × V)) (k : K) (v : V) → AllByRecursion P (keys_of es) → P k → AllByRecursion P (keys_of (insert_entry cmp es k v))
  all_keys P [] k v all here = (here, tt)
  all_keys P (e ∷ es) k v all here = by (cmp k e.0) (all_keys P es k v all.1 here)
    where
      by : (o : Ordering) → AllByRecursion P (keys_of (insert_entry cmp es k v)) → AllByRecursion P (keys_of (match_ordering o ((k, v) ∷ e ∷ es) ((e.0, v) ∷ es) (e ∷ insert_entry cmp es k v)))
      by Less rest = (here, all)
      by Equal rest = all
      by Greater rest = (all.0, rest)

  module _ (total : IsTotalOrder cmp) where
    -- putting an entry in keeps the order
    pub insert_entry-sorted : (es : List (K × V)) (k : K) (v : V) → IsSortedMap cmp es → IsSortedMap cmp (insert_entry cmp es k v)
    unfolding IsStrictlySortedBy
    insert_entry-sorted [] k v sorted = (tt, tt)
    insert_entry-sorted (e ∷ es) k v sorted = by (cmp k e.0) refl (insert_entry-sorted es k v sorted.1)
      where
        by : (o : Ordering) → cmp k e.0 ≡ o → IsSortedMap cmp (insert_entry cmp es k v) → IsSortedMap cmp (match_ordering o ((k, v) ∷ e ∷ es) ((e.0, v) ∷ es) (e ∷ insert_entry cmp es k v))
        by Less is rest = ((is, above total k e.0 is (keys_of es) sorted.0), sorted)
        by Equal is rest = sorted
        by Greater is rest = (all_keys (λ y. cmp e.0 y ≡ Less) es k v sorted.0 (total.antisymm e.0 k ∙ ap ordering_reverse is), rest)

    -- the map of pairs
    pub map_of-sorted : (pairs : List (K × V)) → IsSortedMap cmp (map_of cmp pairs)
    unfolding IsStrictlySortedBy
    map_of-sorted pairs = from [] pairs tt
      where
        from : (es pairs : List (K × V)) → IsSortedMap cmp es → IsSortedMap cmp (fold (λ m e. insert_entry cmp m e.0 e.1) es pairs)
        from es [] sorted = sorted
        from es (e ∷ pairs) sorted = from (insert_entry cmp es e.0 e.1) pairs (insert_entry-sorted es e.0 e.1 sorted)
