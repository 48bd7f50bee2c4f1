-- SPDX-License-Identifier: Apache-2.0
-- Maps of pairs are in order, and have each of their entries.
use Rattle.std.proofs.Common.{◌≡◌, cond, List, [], ◌∷◌, fold, Some, None, refl, ap, ◌∙◌}
use Rattle.std.specs.BTreeMap.{insert_entry}
use Rattle.std.specs.Cmp.{IsTotalOrder}
use Rattle.std.specs.List.{AllByRecursion}
use Rattle.std.specs.List.Sorted.{IsStrictlySortedBy}
use Rattle.std.specs.Map.{keys_of}
use Rattle.std.specs.Ordering.{is_eq, match_ordering, ordering_reverse}
use Rattle.std.specs.declared.cmp.Ordering.{Ordering}
use Rattle.std.specs.declared.cmp.Ordering.TheVariants.{Less, Equal, Greater}
use Rattle.cedar_data.specs.Firsts.{AllPass}
use Rattle.cedar_data.specs.Maps.{IsSortedMap, get, map_of}

module _ {K : Type 0} {cmp : K → K → Ordering} (total : IsTotalOrder cmp) where
  -- what is below a key is below those above it
  below-all : (k x : K) (ks : List K) → cmp k x ≡ Less → AllByRecursion (λ j. cmp x j ≡ Less) ks → AllByRecursion (λ j. cmp k j ≡ Less) ks
  below-all k x [] less all = tt
  below-all k x (j ∷ ks) less all = (total.trans k x j less all.0, below-all k x ks less all.1)

  -- a key is equal to itself
  pub itself : (k : K) → cmp k k ≡ Equal
  itself k = by (cmp k k) (total.antisymm k k)
    where
      by : (o : Ordering) → o ≡ ordering_reverse o → o ≡ Equal
      by Less e = absurd (cc)
      by Equal e = refl
      by Greater e = absurd (cc)

module _ {K V : Type 0} {cmp : K → K → Ordering} (total : IsTotalOrder cmp) where
  -- a key below others stays so where one is put in that it is below
  below-insert : (x : K) (es : List (K × V)) (k : K) (v : V) → cmp x k ≡ Less → AllByRecursion (λ j. cmp x j ≡ Less) (keys_of es) → AllByRecursion (λ j. cmp x j ≡ Less) (keys_of (insert_entry cmp es k v))
  below-insert x [] k v less all = (less, tt)
  below-insert x (e ∷ es) k v less all = by (cmp k e.0) (below-insert x es k v less all.1)
    where
      by : (o : Ordering) → AllByRecursion (λ j. cmp x j ≡ Less) (keys_of (insert_entry cmp es k v)) → AllByRecursion (λ j. cmp x j ≡ Less) (keys_of (match_ordering o ((k, v) ∷ e ∷ es) ((e.0, v) ∷ es) (e ∷ insert_entry cmp es k v)))
      by Less rest = (less, all)
      by Equal rest = all
      by Greater rest = (all.0, rest)

  pub sorted-insert : (es : List (K × V)) (k : K) (v : V) → IsStrictlySortedBy cmp (keys_of es) → IsStrictlySortedBy cmp (keys_of (insert_entry cmp es k v))
  unfolding IsStrictlySortedBy
  sorted-insert [] k v sorted = (tt, tt)
  sorted-insert (e ∷ es) k v sorted = by (cmp k e.0) refl (sorted-insert es k v sorted.1)
    where
      by : (o : Ordering) → cmp k e.0 ≡ o → IsStrictlySortedBy cmp (keys_of (insert_entry cmp es k v)) → IsStrictlySortedBy cmp (keys_of (match_ordering o ((k, v) ∷ e ∷ es) ((e.0, v) ∷ es) (e ∷ insert_entry cmp es k v)))
      by Less is rest = ((is, below-all total k e.0 (keys_of es) is sorted.0), sorted)
      by Equal is rest = sorted
      by Greater is rest = (below-insert e.0 es k v (total.antisymm e.0 k ∙ ap ordering_reverse is) sorted.0, rest)

  sorted-from : (es pairs : List (K × V)) → IsSortedMap cmp es → IsSortedMap cmp (fold (λ es pair. insert_entry cmp es pair.0 pair.1) es pairs)
  sorted-from es [] sorted = sorted
  sorted-from es (pair ∷ pairs) sorted = sorted-from (insert_entry cmp es pair.0 pair.1) pairs (sorted-insert es pair.0 pair.1 sorted)

  -- the map of pairs is in order
  pub sorted-map_of : (pairs : List (K × V)) → IsSortedMap cmp (map_of cmp pairs)
  unfolding IsStrictlySortedBy
  sorted-map_of pairs = sorted-from [] pairs tt

  -- a key below all others isn't among them
  pub absent : (k : K) (es : List (K × V)) → AllByRecursion (λ j. cmp k j ≡ Less) (keys_of es) → get cmp es k ≡ None
  absent k [] all = refl
  absent k (e ∷ es) all = ap (λ o. cond (is_eq o) (Some e.1) (get cmp es k)) all.0 ∙ absent k es all.1

  later : (e : K × V) (whole es : List (K × V)) → AllByRecursion (λ j. cmp e.0 j ≡ Less) (keys_of es) → AllPass (λ x. get cmp whole x.0 ≡ Some x.1) es → AllPass (λ x. get cmp (e ∷ whole) x.0 ≡ Some x.1) es
  later e whole [] all found = tt
  later e whole (x ∷ es) all found = (
    ap (λ o. cond (is_eq o) (Some e.1) (get cmp whole x.0)) (total.antisymm x.0 e.0 ∙ ap ordering_reverse all.0) ∙ found.0,
    later e whole es all.1 found.1,
  )

  -- each entry is found
  pub found-each : (es : List (K × V)) → IsSortedMap cmp es → AllPass (λ x. get cmp es x.0 ≡ Some x.1) es
  unfolding IsStrictlySortedBy
  found-each [] sorted = tt
  found-each (e ∷ es) sorted = (
    ap (λ o. cond (is_eq o) (Some e.1) (get cmp es e.0)) (itself total e.0),
    later e es es sorted.0 (found-each es sorted.1),
  )
