-- SPDX-License-Identifier: Apache-2.0
-- What holds of each entry of a map of pairs whose keys differ holds of each pair.
use Rattle.std.proofs.Common.{◌≡◌, ◌++◌, List, [], ◌∷◌, fold, flat_map, map, refl, ap, ◌∙◌}
use Rattle.std.specs.declared.cmp.Ordering.{Ordering}
use Rattle.std.specs.declared.cmp.Ordering.TheVariants.{Less, Equal, Greater}
use Rattle.std.specs.Ordering.{match_ordering, ordering_reverse}
use Rattle.std.specs.Cmp.{IsTotalOrder}
use Rattle.std.specs.List.{AllByRecursion}
use Rattle.std.specs.BTreeMap.{insert_entry}
use Rattle.cedar_data.specs.Firsts.{AllPass}
use Rattle.cedar_data.specs.Maps.{map_of}
use Rattle.cedar_resolving_laws.proofs.Reordering.{Each2}

pub all_of_pass : {A : Type 0} (P : A → Type 0) (xs : List A) → AllPass P xs → AllByRecursion P xs
all_of_pass P [] pass = tt
all_of_pass P (x ∷ xs) pass = (pass.0, all_of_pass P xs pass.1)

pub all_first : {X : Type 0} (P : X → Type 0) (xs ys : List X) → AllByRecursion P (xs ++ ys) → AllByRecursion P xs
all_first P [] ys all = tt
all_first P (x ∷ xs) ys all = (all.0, all_first P xs ys all.1)

pub all_second : {X : Type 0} (P : X → Type 0) (xs ys : List X) → AllByRecursion P (xs ++ ys) → AllByRecursion P ys
all_second P [] ys all = all
all_second P (x ∷ xs) ys all = all_second P xs ys all.1

pub all_unmapped : {X Y : Type 0} (Q : Y → Type 0) (f : X → Y) (xs : List X) → AllByRecursion Q (map f xs) → AllByRecursion (λ x. Q (f x)) xs
all_unmapped Q f [] all = tt
all_unmapped Q f (x ∷ xs) all = (all.0, all_unmapped Q f xs all.1)

-- of the elements of each list that f makes
pub all_unflat : {X Y : Type 0} (Q : Y → Type 0) (f : X → List Y) (xs : List X) → AllByRecursion Q (flat_map f xs) → AllByRecursion (λ x. AllByRecursion Q (f x)) xs
all_unflat Q f [] all = tt
all_unflat Q f (x ∷ xs) all = (all_first Q (f x) (flat_map f xs) all, all_unflat Q f xs (all_second Q (f x) (flat_map f xs) all))

module _ {K V : Type 0} (cmp : K → K → Ordering) (total : IsTotalOrder cmp) (P : K × V → Type 0) where
  -- the first entry has another key than the second
  abbrev Apart : K × V → K × V → Type 0
  Apart a b = cmp a.0 b.0 ≡ Equal → ⊥

  inserted_back : (es : List (K × V)) (k : K) (v : V) → AllByRecursion (λ e. Apart e (k, v)) es → AllByRecursion P (insert_entry cmp es k v) → P (k, v) × AllByRecursion P es
  inserted_back [] k v apart all = (all.0, tt)
  inserted_back (e ∷ es) k v apart all = by (cmp k e.0) refl all (inserted_back es k v apart.1)
    where
      by : (o : Ordering) → cmp k e.0 ≡ o → AllByRecursion P (match_ordering o ((k, v) ∷ e ∷ es) ((e.0, v) ∷ es) (e ∷ insert_entry cmp es k v))
          → (AllByRecursion P (insert_entry cmp es k v) → P (k, v) × AllByRecursion P es) → P (k, v) × AllByRecursion P (e ∷ es)
      by Less is all rest = (all.0, all.1)
      by Equal is all rest = absurd (apart.0 (total.antisymm e.0 k ∙ ap ordering_reverse is))
      by Greater is all rest = let later = rest all.1 in (later.0, (all.0, later.1))

  apart_inserted : (p : K × V) (es : List (K × V)) (q : K × V) → AllByRecursion (λ e. Apart e p) es → Apart q p → AllByRecursion (λ e. Apart e p) (insert_entry cmp es q.0 q.1)
  apart_inserted p [] q before here = (here, tt)
  apart_inserted p (e ∷ es) q before here = by (cmp q.0 e.0) (apart_inserted p es q before.1 here)
    where
      by : (o : Ordering) → AllByRecursion (λ e. Apart e p) (insert_entry cmp es q.0 q.1) → AllByRecursion (λ e. Apart e p) (match_ordering o ((q.0, q.1) ∷ e ∷ es) ((e.0, q.1) ∷ es) (e ∷ insert_entry cmp es q.0 q.1))
      by Less rest = (here, before)
      by Equal rest = before
      by Greater rest = (before.0, rest)

  added : (es : List (K × V)) (q : K × V) (pairs : List (K × V)) → AllByRecursion (λ p. AllByRecursion (λ e. Apart e p) es) pairs → AllPass (Apart q) pairs
      → AllByRecursion (λ p. AllByRecursion (λ e. Apart e p) (insert_entry cmp es q.0 q.1)) pairs
  added es q [] before apart = tt
  added es q (p ∷ pairs) before apart = (apart_inserted p es q before.0 apart.0, added es q pairs before.1 apart.1)

  made_back : (es pairs : List (K × V)) → AllByRecursion (λ p. AllByRecursion (λ e. Apart e p) es) pairs → Each2 Apart pairs
      → AllByRecursion P (fold (λ m e. insert_entry cmp m e.0 e.1) es pairs) → AllByRecursion P es × AllByRecursion P pairs
  made_back es [] before apart all = (all, tt)
  made_back es (q ∷ pairs) before apart all =
      let next = made_back (insert_entry cmp es q.0 q.1) pairs (added es q pairs before.1 apart.0) apart.1 all in
      let here = inserted_back es q.0 q.1 before.0 next.0 in
      (here.1, (here.0, next.1))

  pub map_back : (pairs : List (K × V)) → Each2 Apart pairs → AllByRecursion P (map_of cmp pairs) → AllByRecursion P pairs
  map_back pairs apart all = (made_back [] pairs (none pairs) apart all).1
    where
      none : (pairs : List (K × V)) → AllByRecursion (λ p. AllByRecursion (λ e. Apart e p) []) pairs
      none [] = tt
      none (p ∷ pairs) = (tt, none pairs)
