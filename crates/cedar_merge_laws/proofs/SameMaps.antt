-- SPDX-License-Identifier: Apache-2.0
-- Entries in the order of their keys are the same where the same is found at each key.
use Rattle.std.proofs.Common.{◌≡◌, Bool, true, false, cond, List, [], ◌∷◌, map, Option, Some, None, option_map, refl, sym, ap, ◌∙◌, subst}
use Rattle.std.proofs.lemmas.Map.Keys.{sorted_tail}
use Rattle.std.specs.BTreeMap.{is_at}
use Rattle.std.specs.Map.{keys_of}
use Rattle.std.specs.Ordering.{is_eq, ordering_reverse}
use Rattle.std.specs.declared.cmp.Ordering.{Ordering}
use Rattle.std.specs.declared.cmp.Ordering.TheVariants.{Less, Equal, Greater}
use Rattle.cedar_data.proofs.Exact.{IsExact}
use Rattle.cedar_data.proofs.Passing.{AllPass-map}
use Rattle.cedar_data.proofs.RunOrder.{sorted_first}
use Rattle.cedar_data.specs.Maps.{IsSortedMap, get, map_values}
use Rattle.cedar_merge.specs.Lookups.{at}
use Rattle.cedar_merge.proofs.Orders.{tied}
use Rattle.cedar_merge.proofs.Words.{is_same}
use Rattle.cedar_merge_laws.proofs.Matching.{differ_none, unlike}

nothing_there : {A : Type 0} (a : A) (o p : Option A) → o ≡ p → o ≡ Some a → p ≡ None → ⊥
nothing_there a o p is some none = cc

module _ {K V : Type 0} {cmp : K → K → Ordering} (exact : IsExact cmp) where
  -- the first is found at its key
  own : (x : K × V) (xs : List (K × V)) → get cmp (x ∷ xs) x.0 ≡ Some x.1
  own x xs = ap (λ o. cond (is_eq o) (Some x.1) (get cmp xs x.0)) (tied exact.total x.0)

  -- and not behind it
  not_behind : (x : K × V) (xs : List (K × V)) → IsSortedMap cmp (x ∷ xs) → get cmp xs x.0 ≡ None
  not_behind x xs sorted = differ_none cmp x.0 xs (AllPass-map (λ e less. unlike (cmp x.0 e.0) less) xs (sorted_first cmp x xs sorted))

  -- what is less than the first is not found
  below : (k : K) (y : K × V) (ys : List (K × V)) → IsSortedMap cmp (y ∷ ys) → cmp k y.0 ≡ Less → get cmp (y ∷ ys) k ≡ None
  below k y ys sorted less =
      differ_none cmp k (y ∷ ys) (unlike (cmp k y.0) less, AllPass-map (λ e is. unlike (cmp k e.0) (exact.total.trans k y.0 e.0 less is)) ys (sorted_first cmp y ys sorted))

  pub same_map : (xs ys : List (K × V)) → IsSortedMap cmp xs → IsSortedMap cmp ys → ((k : K) → get cmp xs k ≡ get cmp ys k) → xs ≡ ys
  same_map [] [] s t h = refl
  same_map [] (y ∷ ys) s t h = absurd (nothing_there y.1 (get cmp (y ∷ ys) y.0) None (sym (h y.0)) (own y ys) refl)
  same_map (x ∷ xs) [] s t h = absurd (nothing_there x.1 (get cmp (x ∷ xs) x.0) None (h x.0) (own x xs) refl)
  same_map (x ∷ xs) (y ∷ ys) s t h = by (cmp x.0 y.0) refl (same_map xs ys (sorted_tail cmp x.0 (keys_of xs) s) (sorted_tail cmp y.0 (keys_of ys) t))
    where
      behind : (key : x.0 ≡ y.0) (k : K) (b : Bool) → is_at (cmp k) x.0 ≡ b → get cmp xs k ≡ get cmp ys k
      behind key k true here =
          let at_x : k ≡ x.0 = is_same exact k x.0 here in
          ap (get cmp xs) at_x ∙ not_behind x xs s ∙ sym (ap (get cmp ys) (at_x ∙ key) ∙ not_behind y ys t)
      behind key k false here =
          sym (ap (λ b. cond b (Some x.1) (get cmp xs k)) here) ∙ h k ∙ ap (λ b. cond b (Some y.1) (get cmp ys k)) (ap (is_at (cmp k)) (sym key) ∙ here)

      by : (o : Ordering) → cmp x.0 y.0 ≡ o → (((k : K) → get cmp xs k ≡ get cmp ys k) → xs ≡ ys) → x ∷ xs ≡ y ∷ ys
      by Less is rest = absurd (nothing_there x.1 (get cmp (x ∷ xs) x.0) (get cmp (y ∷ ys) x.0) (h x.0) (own x xs) (below x.0 y ys t is))
      by Greater is rest = absurd (nothing_there y.1 (get cmp (y ∷ ys) y.0) (get cmp (x ∷ xs) y.0) (sym (h y.0)) (own y ys) (below y.0 x xs s (exact.total.antisymm y.0 x.0 ∙ ap ordering_reverse is)))
      by Equal is rest =
          let key : x.0 ≡ y.0 = exact.exact x.0 y.0 is in
          let value : Some x.1 ≡ Some y.1 = sym (own x xs) ∙ h x.0 ∙ ap (get cmp (y ∷ ys)) key ∙ own y ys in
          let values : x.1 ≡ y.1 = cc in
          λ i. (key i, values i) ∷ rest (λ k. behind key k (is_at (cmp k) x.0) refl) i

-- entries by their words, their values as they are seen
abbrev pub seen_each : {K V W S : Type 0} → (K → W) → (V → S) → List (K × V) → List (W × S)
seen_each word see es = map (λ e. (word e.0, see e.1)) es

-- what is found among them
pub found_seen : {K V W S : Type 0} (order : W → W → Ordering) (word : K → W) (see : V → S) (es : List (K × V)) (w : W) → get order (seen_each word see es) w ≡ option_map see (at order word es w)
found_seen order word see [] w = refl
found_seen order word see (e ∷ es) w = by (is_at (order w) (word e.0)) (found_seen order word see es w)
  where
    by : (b : Bool) → get order (map (λ e. (word e.0, see e.1)) es) w ≡ option_map see (at order word es w)
        → cond b (Some (see e.1)) (get order (map (λ e. (word e.0, see e.1)) es) w) ≡ option_map see (cond b (Some e.1) (at order word es w))
    by true h = refl
    by false h = h

-- and of values that are changed
pub found_changed : {K V S : Type 0} (order : K → K → Ordering) (change : V → S) (es : List (K × V)) (k : K) → get order (map_values change es) k ≡ option_map change (get order es k)
found_changed order change [] k = refl
found_changed order change (e ∷ es) k = by (is_at (order k) e.0) (found_changed order change es k)
  where
    by : (b : Bool) → get order (map_values change es) k ≡ option_map change (get order es k)
        → cond b (Some (change e.1)) (get order (map_values change es) k) ≡ option_map change (cond b (Some e.1) (get order es k))
    by true h = refl
    by false h = h

-- which changes no key
keys_changed : {K V S : Type 0} (change : V → S) (es : List (K × V)) → keys_of es ≡ keys_of (map_values change es)
keys_changed change [] = refl
keys_changed change (e ∷ es) = ap (λ ks. e.0 ∷ ks) (keys_changed change es)

pub sorted_changed : {K V S : Type 0} (cmp : K → K → Ordering) (change : V → S) (es : List (K × V)) → IsSortedMap cmp es → IsSortedMap cmp (map_values change es)
sorted_changed cmp change es sorted = subst (Rattle.std.specs.List.Sorted.IsStrictlySortedBy cmp) (keys_changed change es) sorted
