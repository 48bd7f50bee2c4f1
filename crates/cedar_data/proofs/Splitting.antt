-- SPDX-License-Identifier: Apache-2.0
-- What is looked up in entries and put into them, where the keys of the first ones are less than the key, and those of the last ones greater.
use Rattle.std.proofs.Common.{◌≡◌, sym, subst, take, drop, take-append-drop, ℕ, Bool, true, false, cond, List, [], ◌∷◌, ◌++◌, Some, None, refl, ap, ◌∙◌}
use Rattle.std.proofs.lemmas.Option.{none-some}
use Rattle.std.specs.declared.cmp.Ordering.{Ordering}
use Rattle.std.specs.declared.cmp.Ordering.TheVariants.{Less, Equal, Greater}
use Rattle.std.specs.Ordering.{is_eq, is_lt, ordering_reverse, match_ordering}
use Rattle.std.specs.Cmp.{IsTotalOrder}
use Rattle.std.specs.List.{AllByRecursion}
use Rattle.std.specs.List.Sorted.{IsStrictlySortedBy}
use Rattle.std.specs.BTreeMap.{insert_entry}
use Rattle.std.specs.Map.{keys_of}
use Rattle.cedar_data.specs.Firsts.{AllPass}
use Rattle.cedar_data.specs.Maps.{get, IsSortedMap}
use Rattle.cedar_data.specs.Runs.{first_after}

module _ {A : Type 0} (P : A → Type 0) where
  -- what holds of the first and of the last holds of all
  pub AllPass-append : (xs ys : List A) → AllPass P xs → AllPass P ys → AllPass P (xs ++ ys)
  AllPass-append [] ys first last = last
  AllPass-append (x ∷ xs) ys first last = (first.0, AllPass-append xs ys first.1 last)

module _ {K V : Type 0} where
  -- what holds of each key
  pub all_entries : (P : K → Type 0) (es : List (K × V)) → AllByRecursion P (keys_of es) → AllPass (λ e. P e.0) es
  all_entries P [] all = tt
  all_entries P (e ∷ es) all = (all.0, all_entries P es all.1)

  -- holds of the key of the entry after the first ones
  key_between : (P : K → Type 0) (before : List (K × V)) (e : K × V) (behind : List (K × V)) → AllByRecursion P (keys_of (before ++ e ∷ behind)) → P e.0
  key_between P [] e behind all = all.0
  key_between P (_ ∷ before) e behind all = key_between P before e behind all.1

  -- and of those of the first ones
  keys_before : (P : K → Type 0) (before behind : List (K × V)) → AllByRecursion P (keys_of (before ++ behind)) → AllByRecursion P (keys_of before)
  keys_before P [] behind all = tt
  keys_before P (_ ∷ before) behind all = (all.0, keys_before P before behind all.1)

  module _ (cmp : K → K → Ordering) where
    -- the first of entries that are in order are
    pub IsSortedMap-before : (before behind : List (K × V)) → IsSortedMap cmp (before ++ behind) → IsSortedMap cmp before
    unfolding IsStrictlySortedBy
    IsSortedMap-before [] behind sorted = tt
    IsSortedMap-before (e ∷ before) behind sorted = (keys_before (λ y. cmp e.0 y ≡ Less) before behind sorted.0, IsSortedMap-before before behind sorted.1)

    -- the last are
    pub IsSortedMap-behind : (before behind : List (K × V)) → IsSortedMap cmp (before ++ behind) → IsSortedMap cmp behind
    unfolding IsStrictlySortedBy
    IsSortedMap-behind [] behind sorted = sorted
    IsSortedMap-behind (_ ∷ before) behind sorted = IsSortedMap-behind before behind sorted.1

    -- the first n are, and the others
    pub IsSortedMap-take : (n : ℕ) (es : List (K × V)) → IsSortedMap cmp es → IsSortedMap cmp (take n es)
    IsSortedMap-take n es sorted = IsSortedMap-before (take n es) (drop n es) (subst (λ es. IsSortedMap cmp es) (sym (take-append-drop n es)) sorted)

    pub IsSortedMap-drop : (n : ℕ) (es : List (K × V)) → IsSortedMap cmp es → IsSortedMap cmp (drop n es)
    IsSortedMap-drop n es sorted = IsSortedMap-behind (take n es) (drop n es) (subst (λ es. IsSortedMap cmp es) (sym (take-append-drop n es)) sorted)

-- the order of two keys the other way round
module _ {K : Type 0} {cmp : K → K → Ordering} (total : IsTotalOrder cmp) where
  pub greater_from_less : (x y : K) → cmp x y ≡ Less → cmp y x ≡ Greater
  greater_from_less x y h = total.antisymm y x ∙ ap ordering_reverse h

  pub less_from_greater : (x y : K) → cmp x y ≡ Greater → cmp y x ≡ Less
  less_from_greater x y h = total.antisymm y x ∙ ap ordering_reverse h

  -- what is less than a key is less than an equal one
  pub less_equal : (x y z : K) → cmp x y ≡ Less → cmp y z ≡ Equal → cmp x z ≡ Less
  less_equal x y z h equal = less_from_greater z x (sym (total.congr y z x equal) ∙ greater_from_less x y h)

  -- and what is greater is greater
  pub equal_greater : (x y z : K) → cmp x y ≡ Less → cmp x z ≡ Equal → cmp y z ≡ Greater
  equal_greater x y z h equal = greater_from_less z y (sym (total.congr x z y equal) ∙ h)

  -- what is above a key is above each below that
  all_above : (k x : K) → cmp k x ≡ Less → (ys : List K) → AllByRecursion (λ y. cmp x y ≡ Less) ys → AllByRecursion (λ y. cmp k y ≡ Less) ys
  all_above k x first [] all = tt
  all_above k x first (y ∷ ys) all = (total.trans k x y first all.0, all_above k x first ys all.1)

module _ {K V : Type 0} {cmp : K → K → Ordering} (total : IsTotalOrder cmp) (key : K) where
  -- the keys before an equal one are less
  pub all_less : (before : List (K × V)) (e : K × V) (behind : List (K × V)) → IsSortedMap cmp (before ++ e ∷ behind) → cmp e.0 key ≡ Equal → AllPass (λ x. cmp x.0 key ≡ Less) before
  unfolding IsStrictlySortedBy
  all_less [] e behind sorted equal = tt
  all_less (x ∷ before) e behind sorted equal =
      (less_equal total x.0 e.0 key (key_between (λ y. cmp x.0 y ≡ Less) before e behind sorted.0) equal, all_less before e behind sorted.1 equal)

  -- those behind it are greater
  pub all_greater : (before : List (K × V)) (e : K × V) (behind : List (K × V)) → IsSortedMap cmp (before ++ e ∷ behind) → cmp e.0 key ≡ Equal → AllPass (λ x. cmp x.0 key ≡ Greater) behind
  unfolding IsStrictlySortedBy
  all_greater before e behind sorted equal = each behind (all_entries (λ y. cmp e.0 y ≡ Less) behind (IsSortedMap-behind cmp before (e ∷ behind) sorted).0)
    where
      each : (es : List (K × V)) → AllPass (λ x. cmp e.0 x.0 ≡ Less) es → AllPass (λ x. cmp x.0 key ≡ Greater) es
      each [] all = tt
      each (x ∷ es) all = (equal_greater total e.0 x.0 key all.0 equal, each es all.1)

  -- of an entry that is in order before the others, whose key is greater than the key, the others have greater keys too
  pub all_greater_from_first : (e : K × V) (es : List (K × V)) → IsSortedMap cmp (e ∷ es) → cmp e.0 key ≡ Greater → AllPass (λ x. cmp x.0 key ≡ Greater) (e ∷ es)
  unfolding IsStrictlySortedBy
  all_greater_from_first e es sorted first = (first, each es (all_entries (λ y. cmp e.0 y ≡ Less) es sorted.0))
    where
      each : (es : List (K × V)) → AllPass (λ x. cmp e.0 x.0 ≡ Less) es → AllPass (λ x. cmp x.0 key ≡ Greater) es
      each [] all = tt
      each (x ∷ es) all = (greater_from_less total key x.0 (total.trans key e.0 x.0 (less_from_greater total e.0 key first) all.0), each es all.1)

  -- a key is not looked up among less ones
  pub get-before : (before behind : List (K × V)) → AllPass (λ e. cmp e.0 key ≡ Less) before → get cmp (before ++ behind) key ≡ get cmp behind key
  get-before [] behind all = refl
  get-before (e ∷ before) behind all =
      ap (λ o. cond (is_eq o) (Some e.1) (get cmp (before ++ behind) key)) (greater_from_less total e.0 key all.0) ∙ get-before before behind all.1

  -- nor among greater ones
  pub get-none : (es : List (K × V)) → AllPass (λ e. cmp e.0 key ≡ Greater) es → get cmp es key ≡ None
  get-none [] all = refl
  get-none (e ∷ es) all = ap (λ o. cond (is_eq o) (Some e.1) (get cmp es key)) (less_from_greater total e.0 key all.0) ∙ get-none es all.1

  pub get-behind : (before behind : List (K × V)) → AllPass (λ e. cmp e.0 key ≡ Greater) behind → get cmp (before ++ behind) key ≡ get cmp before key
  get-behind [] behind all = get-none behind all
  get-behind (e ∷ before) behind all = ap (cond (is_eq (cmp key e.0)) (Some e.1)) (get-behind before behind all)

  -- at an equal key it is found
  pub get-equal : (e : K × V) (es : List (K × V)) → cmp e.0 key ≡ Equal → get cmp (e ∷ es) key ≡ Some e.1
  get-equal e es h = ap (λ o. cond (is_eq o) (Some e.1) (get cmp es key)) (total.antisymm key e.0 ∙ ap ordering_reverse h)

  -- an entry is put behind those with less keys
  pub insert_entry-before : (before behind : List (K × V)) (value : V) → AllPass (λ e. cmp e.0 key ≡ Less) before → insert_entry cmp (before ++ behind) key value ≡ before ++ insert_entry cmp behind key value
  insert_entry-before [] behind value all = refl
  insert_entry-before (e ∷ before) behind value all =
      ap (λ o. match_ordering o ((key, value) ∷ e ∷ (before ++ behind)) ((e.0, value) ∷ (before ++ behind)) (e ∷ insert_entry cmp (before ++ behind) key value)) (greater_from_less total e.0 key all.0)
      ∙ ap (λ es. e ∷ es) (insert_entry-before before behind value all.1)

  -- and before those with greater ones
  pub insert_entry-behind : (before behind : List (K × V)) (value : V) → AllPass (λ e. cmp e.0 key ≡ Greater) behind → insert_entry cmp (before ++ behind) key value ≡ insert_entry cmp before key value ++ behind
  insert_entry-behind [] [] value all = refl
  insert_entry-behind [] (e ∷ behind) value all =
      ap (λ o. match_ordering o ((key, value) ∷ e ∷ behind) ((e.0, value) ∷ behind) (e ∷ insert_entry cmp behind key value)) (less_from_greater total e.0 key all.0)
  insert_entry-behind (e ∷ before) behind value all = by (cmp key e.0) (insert_entry-behind before behind value all)
    where
      by : (o : Ordering) → insert_entry cmp (before ++ behind) key value ≡ insert_entry cmp before key value ++ behind
          → match_ordering o ((key, value) ∷ e ∷ (before ++ behind)) ((e.0, value) ∷ (before ++ behind)) (e ∷ insert_entry cmp (before ++ behind) key value)
          ≡ match_ordering o ((key, value) ∷ e ∷ before) ((e.0, value) ∷ before) (e ∷ insert_entry cmp before key value) ++ behind
      by Less rest = refl
      by Equal rest = refl
      by Greater rest = ap (λ es. e ∷ es) rest

  -- at an equal key its value is put
  pub insert_entry-equal : (e : K × V) (es : List (K × V)) (value : V) → cmp e.0 key ≡ Equal → insert_entry cmp (e ∷ es) key value ≡ (e.0, value) ∷ es
  insert_entry-equal e es value h =
      ap (λ o. match_ordering o ((key, value) ∷ e ∷ es) ((e.0, value) ∷ es) (e ∷ insert_entry cmp es key value)) (total.antisymm key e.0 ∙ ap ordering_reverse h)

  -- the first with a greater key stands behind those with less ones
  pub first_after-before : (before behind : List (K × V)) → AllPass (λ e. cmp e.0 key ≡ Less) before → first_after cmp key (before ++ behind) ≡ first_after cmp key behind
  first_after-before [] behind all = refl
  first_after-before (e ∷ before) behind all =
      ap (λ o. cond (is_lt o) (Some e) (first_after cmp key (before ++ behind))) (greater_from_less total e.0 key all.0) ∙ first_after-before before behind all.1

  -- and is the first of those with greater ones
  pub first_after-here : (e : K × V) (es : List (K × V)) → cmp e.0 key ≡ Greater → first_after cmp key (e ∷ es) ≡ Some e
  first_after-here e es h = ap (λ o. cond (is_lt o) (Some e) (first_after cmp key es)) (less_from_greater total e.0 key h)

  -- an equal key is not greater
  pub first_after-equal : (e : K × V) (es : List (K × V)) → cmp e.0 key ≡ Equal → first_after cmp key (e ∷ es) ≡ first_after cmp key es
  first_after-equal e es h = ap (λ o. cond (is_lt o) (Some e) (first_after cmp key es)) (total.antisymm key e.0 ∙ ap ordering_reverse h)

  -- an entry is put so that the order stays
  all_keys : (P : K → Type 0) (es : List (K × V)) (value : V) → AllByRecursion P (keys_of es) → P key → AllByRecursion P (keys_of (insert_entry cmp es key value))
  all_keys P [] value all here = (here, tt)
  all_keys P (e ∷ es) value all here = by (cmp key e.0) (all_keys P es value all.1 here)
    where
      by : (o : Ordering) → AllByRecursion P (keys_of (insert_entry cmp es key value)) → AllByRecursion P (keys_of (match_ordering o ((key, value) ∷ e ∷ es) ((e.0, value) ∷ es) (e ∷ insert_entry cmp es key value)))
      by Less rest = (here, all)
      by Equal rest = all
      by Greater rest = (all.0, rest)

  pub insert_entry-sorted : (es : List (K × V)) (value : V) → IsSortedMap cmp es → IsSortedMap cmp (insert_entry cmp es key value)
  unfolding IsStrictlySortedBy
  insert_entry-sorted [] value sorted = (tt, tt)
  insert_entry-sorted (e ∷ es) value sorted = by (cmp key e.0) refl (insert_entry-sorted es value sorted.1)
    where
      by : (o : Ordering) → cmp key e.0 ≡ o → IsSortedMap cmp (insert_entry cmp es key value) → IsSortedMap cmp (match_ordering o ((key, value) ∷ e ∷ es) ((e.0, value) ∷ es) (e ∷ insert_entry cmp es key value))
      by Less is rest = ((is, all_above total key e.0 is (keys_of es) sorted.0), sorted)
      by Equal is rest = sorted
      by Greater is rest = (all_keys (λ y. cmp e.0 y ≡ Less) es value sorted.0 (less_from_greater total key e.0 is), rest)

-- where the first entries have one whose key is greater, it is that of all
module _ {K V : Type 0} (cmp : K → K → Ordering) (key : K) where
  pub first_after-found : (before behind : List (K × V)) {e : K × V} → first_after cmp key before ≡ Some e → first_after cmp key (before ++ behind) ≡ Some e
  first_after-found [] behind found = absurd (none-some _ found)
  first_after-found (x ∷ before) behind {e} found = by (is_lt (cmp key x.0)) (first_after-found before behind) found
    where
      by : (b : Bool) → (first_after cmp key before ≡ Some e → first_after cmp key (before ++ behind) ≡ Some e)
          → cond b (Some x) (first_after cmp key before) ≡ Some e → cond b (Some x) (first_after cmp key (before ++ behind)) ≡ Some e
      by true rest found = found
      by false rest found = rest found

  -- where they have none, it is that of the others
  pub first_after-missing : (before behind : List (K × V)) → first_after cmp key before ≡ None → first_after cmp key (before ++ behind) ≡ first_after cmp key behind
  first_after-missing [] behind missing = refl
  first_after-missing (x ∷ before) behind missing = by (is_lt (cmp key x.0)) (first_after-missing before behind) missing
    where
      by : (b : Bool) → (first_after cmp key before ≡ None → first_after cmp key (before ++ behind) ≡ first_after cmp key behind)
          → cond b (Some x) (first_after cmp key before) ≡ None → cond b (Some x) (first_after cmp key (before ++ behind)) ≡ first_after cmp key behind
      by true rest missing = absurd (none-some _ (sym missing))
      by false rest missing = rest missing
