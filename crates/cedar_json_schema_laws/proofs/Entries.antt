-- SPDX-License-Identifier: Apache-2.0
-- What holds of each element of lists that are made of others.
use Rattle.std.proofs.Common.{◌≡◌, List, [], ◌∷◌, ◌++◌, fold, flat_map, refl}
use Rattle.std.specs.declared.cmp.Ordering.{Ordering}
use Rattle.std.specs.declared.cmp.Ordering.TheVariants.{Less, Equal, Greater}
use Rattle.std.specs.Ordering.{match_ordering}
use Rattle.std.specs.List.{AllByRecursion}
use Rattle.std.specs.BTreeMap.{insert_entry}
use Rattle.cedar_data.specs.Maps.{map_of}

module _ {X : Type 0} (P : X → Type 0) where
  -- of two lists, one behind the other
  pub all_append : (xs ys : List X) → AllByRecursion P xs → AllByRecursion P ys → AllByRecursion P (xs ++ ys)
  all_append [] ys first second = second
  all_append (x ∷ xs) ys first second = (first.0, all_append xs ys first.1 second)

-- of the lists that f makes of the elements
pub all_flat : {X Y : Type 0} (P : X → Type 0) (Q : Y → Type 0) (f : X → List Y) → ((x : X) → P x → AllByRecursion Q (f x)) → (xs : List X) → AllByRecursion P xs → AllByRecursion Q (flat_map f xs)
all_flat P Q f each [] all = tt
all_flat P Q f each (x ∷ xs) all = all_append Q (f x) (flat_map f xs) (each x all.0) (all_flat P Q f each xs all.1)

-- of a map of pairs, where what holds of a pair holds of its value at an equal key that stood before
module _ {K V : Type 0} (cmp : K → K → Ordering) (P : K × V → Type 0) (replaces : (k k' : K) (v v' : V) → cmp k k' ≡ Equal → P (k, v) → P (k', v') → P (k', v)) where
  pub all_inserted : (es : List (K × V)) (k : K) (v : V) → P (k, v) → AllByRecursion P es → AllByRecursion P (insert_entry cmp es k v)
  all_inserted [] k v here all = (here, tt)
  all_inserted (e ∷ es) k v here all = by (cmp k e.0) refl (all_inserted es k v here all.1)
    where
      by : (o : Ordering) → cmp k e.0 ≡ o → AllByRecursion P (insert_entry cmp es k v) → AllByRecursion P (match_ordering o ((k, v) ∷ e ∷ es) ((e.0, v) ∷ es) (e ∷ insert_entry cmp es k v))
      by Less is rest = (here, all)
      by Equal is rest = (replaces k e.0 v e.1 is here all.0, all.1)
      by Greater is rest = (all.0, rest)

  pub all_of_map : (pairs : List (K × V)) → AllByRecursion P pairs → AllByRecursion P (map_of cmp pairs)
  all_of_map pairs given = from [] pairs tt given
    where
      from : (es pairs : List (K × V)) → AllByRecursion P es → AllByRecursion P pairs → AllByRecursion P (fold (λ m e. insert_entry cmp m e.0 e.1) es pairs)
      from es [] all given = all
      from es (e ∷ pairs) all given = from (insert_entry cmp es e.0 e.1) pairs (all_inserted es e.0 e.1 given.0 all) given.1
