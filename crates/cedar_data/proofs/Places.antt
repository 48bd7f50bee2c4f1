-- SPDX-License-Identifier: Apache-2.0
-- What a binary search by a key finds in entries that are in order, and what is looked up and put there.
use Rattle.std.proofs.Common.{◌≡◌, ℕ, zero, suc, ◌+◌, ◌<◌, ◌≤◌, List, [], ◌∷◌, ◌++◌, Some, None, Result, Ok, Err, IfOk, IfErr, length, get_or, take, drop, set, refl, sym, ap, ◌∙◌, subst, arith, take-append-drop, drop-cons, length-append, add-one}
use Rattle.std.proofs.Math.Seq.{get_or-append_seam, set-append_seam, take-append_seam, drop-append_seam}
use Rattle.std.proofs.lemmas.List.{length-take-le}
use Rattle.std.specs.declared.cmp.Ordering.{Ordering}
use Rattle.std.specs.declared.cmp.Ordering.TheVariants.{Less, Equal, Greater}
use Rattle.std.specs.Ordering.{ordering_index}
use Rattle.std.specs.Cmp.{IsTotalOrder}
use Rattle.std.specs.List.{AllByRecursion, AllWithin, HoldsAt, insert, slice_get}
use Rattle.std.specs.List.Sorted.{IsStrictlySortedBy, IsNonDecreasingBy, IsPartitionPoint, IsSearchInRange, IsBinarySearchResult}
use Rattle.std.specs.BTreeMap.{insert_entry}
use Rattle.std.specs.Map.{keys_of}
use Rattle.cedar_data.proofs.Splitting.{less_equal, all_less, all_greater, get-before, get-none, insert_entry-before, insert_entry-behind, first_after-before, first_after-here, first_after-equal, get-equal, insert_entry-equal}
use Rattle.cedar_data.specs.Firsts.{AllPass}
use Rattle.cedar_data.specs.Maps.{get, IsSortedMap}
use Rattle.cedar_data.specs.Places.{StandsAt, BelongsAt}
use Rattle.cedar_data.specs.Runs.{first_after}

module _ {A : Type 0} (P : A → Type 0) where
  -- what holds of each of the first n
  AllPass-take : (n : ℕ) (xs : List A) → n ≤ length xs → AllWithin P xs 0 n → AllPass P (take n xs)
  AllPass-take zero xs within all = tt
  AllPass-take (suc n) [] within all = absurd (omega arith)
  AllPass-take (suc n) (x ∷ xs) within all = (all 0 x (omega arith) (omega arith), AllPass-take n xs (omega arith) (λ k d low high. all (suc k) d (omega arith) (omega arith)))

  -- and of each from the n-th on
  AllPass-drop : (n : ℕ) (xs : List A) → AllWithin P xs n (length xs) → AllPass P (drop n xs)
  AllPass-drop zero [] all = tt
  AllPass-drop zero (x ∷ xs) all = (all 0 x (omega arith) (omega arith), AllPass-drop zero xs (λ k d low high. all (suc k) d (omega arith) (omega arith)))
  AllPass-drop (suc n) [] all = tt
  AllPass-drop (suc n) (x ∷ xs) all = AllPass-drop n xs (λ k d low high. all (suc k) d (omega arith) (omega arith))

module _ {A : Type 0} where
  -- behind the first ones stand the others
  slice_get-append_seam : (xs ys : List A) → slice_get (xs ++ ys) (length xs) ≡ slice_get ys 0
  slice_get-append_seam [] ys = refl
  slice_get-append_seam (x ∷ xs) ys = slice_get-append_seam xs ys

  slice_get-append_next : (xs : List A) (y : A) (ys : List A) → slice_get (xs ++ y ∷ ys) (length xs + 1) ≡ slice_get ys 0
  slice_get-append_next xs y ys = ap (slice_get (xs ++ y ∷ ys)) (add-one (length xs)) ∙ from xs
    where
      from : (xs : List A) → slice_get (xs ++ y ∷ ys) (suc (length xs)) ≡ slice_get ys 0
      from [] = refl
      from (x ∷ xs) = from xs

module _ {K V : Type 0} where
  -- what holds of each key holds of that at a place
  key_at : (P : K → Type 0) (es : List (K × V)) (i : ℕ) (d : K × V) → AllByRecursion P (keys_of es) → i < length es → P (get_or es i d).0
  key_at P [] i d all within = absurd (omega arith)
  key_at P (e ∷ es) zero d all within = all.0
  key_at P (e ∷ es) (suc i) d all within = key_at P es i d all.1 (omega arith)

index-le : (o : Ordering) → ordering_index o ≤ 2
index-le Less = omega arith
index-le Equal = omega arith
index-le Greater = omega arith

module _ {K : Type 0} {cmp : K → K → Ordering} (total : IsTotalOrder cmp) (key : K) where
  -- of two keys that ascend, the second compares no lower
  index_rises : (x y : K) → cmp x y ≡ Less → ordering_index (cmp x key) ≤ ordering_index (cmp y key)
  index_rises x y h = by (cmp y key) refl
    where
      by : (o : Ordering) → cmp y key ≡ o → ordering_index (cmp x key) ≤ ordering_index o
      by Less is = let e : ordering_index (cmp x key) ≡ 0 = ap ordering_index (total.trans x y key h is) in omega (arith, e)
      by Equal is = let e : ordering_index (cmp x key) ≡ 0 = ap ordering_index (less_equal total x y key h is) in omega (arith, e)
      by Greater is = index-le (cmp x key)

module _ {K V : Type 0} {cmp : K → K → Ordering} (total : IsTotalOrder cmp) (key : K) where
  -- so those of entries in order rise
  entries_rise : (es : List (K × V)) → IsSortedMap cmp es → IsNonDecreasingBy (λ e. ordering_index (cmp e.0 key)) es
  unfolding IsStrictlySortedBy
  entries_rise [] sorted i j d order within = absurd (omega arith)
  entries_rise (e ∷ es) sorted zero zero d order within = omega arith
  entries_rise (e ∷ es) sorted (suc i) zero d order within = absurd (omega arith)
  entries_rise (e ∷ es) sorted zero (suc j) d order within = index_rises total key e.0 (get_or es j d).0 (key_at (λ y. cmp e.0 y ≡ Less) es j d sorted.0 (omega arith))
  entries_rise (e ∷ es) sorted (suc i) (suc j) d order within = entries_rise es sorted.1 i j d (omega arith) (omega arith)

  -- the place that the search finds
  stands_from_here : (es : List (K × V)) (at : ℕ) (d : K × V) → IsSortedMap cmp es → at < length es → cmp (get_or es at d).0 key ≡ Equal → StandsAt cmp es key at
  stands_from_here es at d sorted within here =
      let split : es ≡ take at es ++ get_or es at d ∷ drop (suc at) es = sym (take-append-drop at es) ∙ ap (λ l. take at es ++ l) (drop-cons es at d within) in
      let ordered = subst (λ l. IsSortedMap cmp l) split sorted in
      record {
        before = take at es;
        entry = get_or es at d;
        behind = drop (suc at) es;
        split = split;
        place = sym (length-take-le at es (omega arith));
        less = all_less total key (take at es) (get_or es at d) (drop (suc at) es) ordered here;
        equal = here;
        greater = all_greater total key (take at es) (get_or es at d) (drop (suc at) es) ordered here;
      }

  pub StandsAt-from_search : (es : List (K × V)) (at : ℕ) → IsSortedMap cmp es → at < length es → HoldsAt (λ e. cmp e.0 key ≡ Equal) es at → StandsAt cmp es key at
  StandsAt-from_search [] at sorted within here = absurd (omega arith)
  StandsAt-from_search (e ∷ es) at sorted within here = stands_from_here (e ∷ es) at e sorted within (here e)

  -- and where it finds none
  pub BelongsAt-from_search : (es : List (K × V)) (at : ℕ) → IsSortedMap cmp es → at ≤ length es
      → (IsNonDecreasingBy (λ e. ordering_index (cmp e.0 key)) es → IsPartitionPoint (λ e. cmp e.0 key ≡ Less) (λ e. cmp e.0 key ≡ Greater) es at) → BelongsAt cmp es key at
  BelongsAt-from_search es at sorted within parts =
      let parted = parts (entries_rise es sorted) in
      record {
        before = take at es;
        behind = drop at es;
        split = sym (take-append-drop at es);
        place = sym (length-take-le at es within);
        less = AllPass-take (λ e. cmp e.0 key ≡ Less) at es within parted.0;
        greater = AllPass-drop (λ e. cmp e.0 key ≡ Greater) at es parted.1;
      }

  -- what the search answers
  pub found_from_search : (es : List (K × V)) (r : Result ℕ ℕ) → IsSortedMap cmp es → IsSearchInRange r (length es) → IsBinarySearchResult (λ e. cmp e.0 key) es r → IfOk r (λ at. StandsAt cmp es key at)
  found_from_search es (Ok at) sorted within is = StandsAt-from_search es at sorted within is
  found_from_search es (Err at) sorted within is = tt

  pub missing_from_search : (es : List (K × V)) (r : Result ℕ ℕ) → IsSortedMap cmp es → IsSearchInRange r (length es) → IsBinarySearchResult (λ e. cmp e.0 key) es r → IfErr r (λ at. BelongsAt cmp es key at)
  missing_from_search es (Ok at) sorted within is = tt
  missing_from_search es (Err at) sorted within is = BelongsAt-from_search es at sorted within is

  -- of entries with greater keys the first comes first
  first_after-greater : (es : List (K × V)) → AllPass (λ e. cmp e.0 key ≡ Greater) es → first_after cmp key es ≡ slice_get es 0
  first_after-greater [] all = refl
  first_after-greater (e ∷ es) all = first_after-here total key e es all.0

  module _ {es : List (K × V)} {at : ℕ} (stands : StandsAt cmp es key at) where
    -- it is a place of the entries
    pub StandsAt-within : at < length es
    StandsAt-within = omega (arith, stands.place, ap length stands.split, length-append stands.before (stands.entry ∷ stands.behind))

    -- the entry that stands there
    StandsAt-entry : (d : K × V) → get_or es at d ≡ stands.entry
    StandsAt-entry d = (λ i. get_or (stands.split i) (stands.place i) d) ∙ get_or-append_seam stands.before stands.entry stands.behind d

    -- its value is found
    pub StandsAt-get : (d : K × V) → get cmp es key ≡ Some (get_or es at d).1
    StandsAt-get d =
        ap (λ l. get cmp l key) stands.split ∙ get-before total key stands.before (stands.entry ∷ stands.behind) stands.less
        ∙ get-equal total key stands.entry stands.behind stands.equal ∙ ap (λ e. Some e.1) (sym (StandsAt-entry d))

    -- and is what is changed where one is put
    pub StandsAt-insert : (d : K × V) (value : V) → insert_entry cmp es key value ≡ set es at ((get_or es at d).0, value)
    StandsAt-insert d value =
        ap (λ l. insert_entry cmp l key value) stands.split ∙ insert_entry-before total key stands.before (stands.entry ∷ stands.behind) value stands.less
        ∙ ap (λ l. stands.before ++ l) (insert_entry-equal total key stands.entry stands.behind value stands.equal)
        ∙ sym ((λ i. set (stands.split i) (stands.place i) ((StandsAt-entry d i).0, value)) ∙ set-append_seam stands.before stands.entry stands.behind (stands.entry.0, value))

    -- the next one is the first with a greater key
    pub StandsAt-after : first_after cmp key es ≡ slice_get es (at + 1)
    StandsAt-after =
        ap (first_after cmp key) stands.split ∙ first_after-before total key stands.before (stands.entry ∷ stands.behind) stands.less
        ∙ first_after-equal total key stands.entry stands.behind stands.equal ∙ first_after-greater stands.behind stands.greater
        ∙ sym ((λ i. slice_get (stands.split i) (stands.place i + 1)) ∙ slice_get-append_next stands.before stands.entry stands.behind)

  module _ {es : List (K × V)} {at : ℕ} (belongs : BelongsAt cmp es key at) where
    -- it is a place of the entries, or behind them
    pub BelongsAt-within : at ≤ length es
    BelongsAt-within = omega (arith, belongs.place, ap length belongs.split, length-append belongs.before belongs.behind)

    -- nothing is found
    pub BelongsAt-get : get cmp es key ≡ None
    BelongsAt-get = ap (λ l. get cmp l key) belongs.split ∙ get-before total key belongs.before belongs.behind belongs.less ∙ get-none total key belongs.behind belongs.greater

    -- an entry is put there
    pub BelongsAt-insert : (value : V) → insert_entry cmp es key value ≡ insert es at (key, value)
    BelongsAt-insert value =
        ap (λ l. insert_entry cmp l key value) belongs.split ∙ insert_entry-before total key belongs.before belongs.behind value belongs.less
        ∙ ap (λ l. belongs.before ++ l) (insert_entry-behind total key [] belongs.behind value belongs.greater)
        ∙ sym ((λ i. insert (belongs.split i) (belongs.place i) (key, value))
        ∙ (λ i. take-append_seam belongs.before belongs.behind i ++ (key, value) ∷ drop-append_seam belongs.before belongs.behind i))

    -- what stands there is the first with a greater key
    pub BelongsAt-after : first_after cmp key es ≡ slice_get es at
    BelongsAt-after =
        ap (first_after cmp key) belongs.split ∙ first_after-before total key belongs.before belongs.behind belongs.less ∙ first_after-greater belongs.behind belongs.greater
        ∙ sym ((λ i. slice_get (belongs.split i) (belongs.place i)) ∙ slice_get-append_seam belongs.before belongs.behind)
