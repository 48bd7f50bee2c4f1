-- SPDX-License-Identifier: Apache-2.0
-- The order of entries that stand in runs, and the run of a key.
use Rattle.std.proofs.Common.{◌≡◌, ◌≢◌, ℕ, ◌+◌, ◌-◌, ◌<◌, ◌≤◌, true, false, List, [], ◌∷◌, ◌++◌, length, get_or, take, drop, refl, sym, ap, ◌∙◌, subst, ⊎_elim, append_assoc, add-one, arith}
use Rattle.std.proofs.Math.Seq.{drop-cons}
use Rattle.std.proofs.lemmas.Bool.{cases_lt}
use Rattle.std.proofs.lemmas.Cmp.{alike_right}
use Rattle.std.proofs.lemmas.List.{set_split, set-get_or, drop_all, get_or-take, length-take, get_or_default}
use Rattle.std.proofs.lemmas.Map.Keys.{sorted_head, sorted_tail}
use Rattle.std.specs.List.{AllByRecursion}
use Rattle.std.specs.List.Sorted.{IsStrictlySortedBy, IsPartitionedBy, IsPartitionPoint}
use Rattle.std.specs.Cmp.{IsTotalOrder}
use Rattle.std.specs.Map.{keys_of}
use Rattle.std.specs.Ordering.{ordering_reverse, is_le}
use Rattle.std.specs.declared.cmp.Ordering.{Ordering}
use Rattle.std.specs.declared.cmp.Ordering.TheVariants.{Less, Equal, Greater}
use Rattle.cedar_data.proofs.Passing.{AllPass-front, AllPass-back, AllPass-at, AllPass-map}
use Rattle.cedar_data.specs.Firsts.{AllPass}
use Rattle.cedar_data.specs.Maps.{IsSortedMap}
use Rattle.cedar_data.specs.Runs.{all_runs, begins_by, AreRuns, IsRunOf}

-- a list, cut at an index
pub split_at : {A : Type 0} (xs : List A) (i : ℕ) (d : A) → i < length xs → xs ≡ take i xs ++ get_or xs i d ∷ drop (i + 1) xs
split_at xs i d l =
    sym (set-get_or xs i d) ∙ set_split xs i (get_or xs i d) l ∙ ap (λ n. take i xs ++ get_or xs i d ∷ drop n xs) (sym (add-one i))

pub not_none : {A : Type 0} (xs : List A) → xs ≢ [] → 0 < length xs
not_none [] some = absurd (some refl)
not_none (x ∷ xs) some = omega arith

not_le : (o : Ordering) → is_le o ≡ false → o ≡ Greater
not_le Less h = absurd cc
not_le Equal h = absurd cc
not_le Greater h = refl

module _ {K V : Type 0} where
  pub all_runs-append : (xs ys : List (List (K × V))) → all_runs (xs ++ ys) ≡ all_runs xs ++ all_runs ys
  all_runs-append [] ys = refl
  all_runs-append (x ∷ xs) ys = ap (λ es. x ++ es) (all_runs-append xs ys) ∙ sym (append_assoc x (all_runs xs) (all_runs ys))

  -- the entries before, in and behind one run
  pub all_runs-split : (runs : List (List (K × V))) (i : ℕ) (d : List (K × V)) → i < length runs → all_runs runs ≡ all_runs (take i runs) ++ (get_or runs i d ++ all_runs (drop (i + 1) runs))
  all_runs-split runs i d l = ap all_runs (split_at runs i d l) ∙ all_runs-append (take i runs) (get_or runs i d ∷ drop (i + 1) runs)

  -- what holds of all entries holds of those of one run
  pub AllPass-run : (P : K × V → Type 0) (runs : List (List (K × V))) (i : ℕ) (d : List (K × V)) → i < length runs → AllPass P (all_runs runs) → AllPass P (get_or runs i d)
  AllPass-run P runs i d l p =
      let behind = AllPass-back P (all_runs (take i runs)) (get_or runs i d ++ all_runs (drop (i + 1) runs)) (subst (AllPass P) (all_runs-split runs i d l) p) in
      AllPass-front P (get_or runs i d) (all_runs (drop (i + 1) runs)) behind

  -- and of those behind the first run
  but_first : (P : K × V → Type 0) (runs : List (List (K × V))) → AllPass P (all_runs (drop 0 runs)) → AllPass P (all_runs (drop 1 runs))
  but_first P [] p = tt
  but_first P (run ∷ runs) p = AllPass-back P run (all_runs runs) p

  module _ (cmp : K → K → Ordering) where
    -- the first entry is less than those behind it
    pub sorted_first : (e : K × V) (es : List (K × V)) → IsSortedMap cmp (e ∷ es) → AllPass (λ f. cmp e.0 f.0 ≡ Less) es
    sorted_first e es s = by es (sorted_head cmp e.0 (keys_of es) s)
      where
        by : (fs : List (K × V)) → AllByRecursion (λ y. cmp e.0 y ≡ Less) (keys_of fs) → AllPass (λ f. cmp e.0 f.0 ≡ Less) fs
        by [] h = tt
        by (f ∷ fs) h = (h.0, by fs h.1)

    pub sorted_next_first : (e : K × V) (es : List (K × V)) → AllPass (λ f. cmp e.0 f.0 ≡ Less) es → IsSortedMap cmp es → IsSortedMap cmp (e ∷ es)
    unfolding IsStrictlySortedBy
    sorted_next_first e es h s = (by es h, s)
      where
        by : (fs : List (K × V)) → AllPass (λ f. cmp e.0 f.0 ≡ Less) fs → AllByRecursion (λ y. cmp e.0 y ≡ Less) (keys_of fs)
        by [] h = tt
        by (f ∷ fs) h = (h.0, by fs h.1)

    pub sorted_back : (xs ys : List (K × V)) → IsSortedMap cmp (xs ++ ys) → IsSortedMap cmp ys
    sorted_back [] ys s = s
    sorted_back (x ∷ xs) ys s = sorted_back xs ys (sorted_tail cmp x.0 (keys_of (xs ++ ys)) s)

    -- entries before another are less
    pub sorted_before : (xs : List (K × V)) (y : K × V) (ys : List (K × V)) → IsSortedMap cmp (xs ++ y ∷ ys) → AllPass (λ e. cmp e.0 y.0 ≡ Less) xs
    sorted_before [] y ys s = tt
    sorted_before (x ∷ xs) y ys s = (
      (AllPass-back (λ f. cmp x.0 f.0 ≡ Less) xs (y ∷ ys) (sorted_first x (xs ++ y ∷ ys) s)).0,
      sorted_before xs y ys (sorted_tail cmp x.0 (keys_of (xs ++ y ∷ ys)) s),
    )

  module _ {cmp : K → K → Ordering} (total : IsTotalOrder cmp) where
    -- from a key that is greater, all are
    pub greater_from : (key : K) (e : K × V) (es : List (K × V)) → IsSortedMap cmp (e ∷ es) → cmp e.0 key ≡ Greater → AllPass (λ f. cmp f.0 key ≡ Greater) (e ∷ es)
    greater_from key e es s h = (h, AllPass-map (λ f l. total.antisymm f.0 key ∙ ap ordering_reverse (total.trans key e.0 f.0 (total.antisymm key e.0 ∙ ap ordering_reverse h) l)) es (sorted_first cmp e es s))

    -- before a key that is at most this one, all are less
    pub less_before : (key : K) (xs : List (K × V)) (y : K × V) (ys : List (K × V)) → IsSortedMap cmp (xs ++ y ∷ ys) → is_le (cmp y.0 key) ≡ true → AllPass (λ e. cmp e.0 key ≡ Less) xs
    less_before key xs y ys s h = AllPass-map (λ e l. by (cmp y.0 key) refl h e l) xs (sorted_before cmp xs y ys s)
      where
        by : (o : Ordering) → cmp y.0 key ≡ o → is_le o ≡ true → (e : K × V) → cmp e.0 y.0 ≡ Less → cmp e.0 key ≡ Less
        by Less p q e l = total.trans e.0 y.0 key l p
        by Equal p q e l = sym (alike_right total y.0 key e.0 p) ∙ l
        by Greater p q e l = absurd cc

    module _ (key : K) (runs : List (List (K × V))) (are : AreRuns cmp runs) where
      cut_at : (i : ℕ) → i < length runs → IsSortedMap cmp (all_runs (take i runs) ++ (get_or runs i [] ++ all_runs (drop (i + 1) runs)))
      cut_at i l = subst (IsSortedMap cmp) (all_runs-split runs i [] l) are.ordered

      -- all entries before a run that begins by a key that is at most this one are less
      pub run_before : (i : ℕ) → i < length runs → begins_by cmp key (get_or runs i []) ≡ true → AllPass (λ e. cmp e.0 key ≡ Less) (all_runs (take i runs))
      run_before i l h = by (get_or runs i []) (cut_at i l) h
        where
          by : (run : List (K × V)) → IsSortedMap cmp (all_runs (take i runs) ++ (run ++ all_runs (drop (i + 1) runs))) → begins_by cmp key run ≡ true → AllPass (λ e. cmp e.0 key ≡ Less) (all_runs (take i runs))
          by [] s h = absurd cc
          by (f ∷ fs) s h = less_before key (all_runs (take i runs)) f (fs ++ all_runs (drop (i + 1) runs)) s h

      -- and all from a run on that doesn't are greater
      pub run_behind : (i : ℕ) → (i < length runs → begins_by cmp key (get_or runs i []) ≡ false) → AllPass (λ e. cmp e.0 key ≡ Greater) (all_runs (drop i runs))
      run_behind i h = ⊎_elim inside (λ l. subst (λ rs. AllPass (λ e. cmp e.0 key ≡ Greater) (all_runs rs)) (sym (drop_all i runs (omega arith))) tt) (cases_lt i (length runs))
        where
          by : (run : List (K × V)) → run ≢ [] → IsSortedMap cmp (run ++ all_runs (drop (i + 1) runs)) → begins_by cmp key run ≡ false → AllPass (λ e. cmp e.0 key ≡ Greater) (run ++ all_runs (drop (i + 1) runs))
          by [] some s h = absurd (some refl)
          by (f ∷ fs) some s h = greater_from key f (fs ++ all_runs (drop (i + 1) runs)) s (not_le (cmp f.0 key) h)

          inside : i < length runs → AllPass (λ e. cmp e.0 key ≡ Greater) (all_runs (drop i runs))
          inside l =
              subst (λ rs. AllPass (λ e. cmp e.0 key ≡ Greater) (all_runs rs)) (sym (drop-cons runs i [] l ∙ ap (λ n. get_or runs i [] ∷ drop n runs) (sym (add-one i))))
              (by (get_or runs i []) (AllPass-at (λ run. run ≢ []) runs i [] l are.filled) (sorted_back cmp (all_runs (take i runs)) (get_or runs i [] ++ all_runs (drop (i + 1) runs)) (cut_at i l)) (h l))

      -- runs may be searched by their first keys
      pub runs_parted : IsPartitionedBy (begins_by cmp key) runs
      runs_parted i j d low high h = ⊎_elim (λ l. first (get_or runs i d) (filled i d (omega arith)) (before i l)) (λ g. let same : i ≡ j = omega arith in subst (λ k. begins_by cmp key (get_or runs k d) ≡ true) (sym same) h) (cases_lt i j)
        where
          filled : (k : ℕ) (d : List (K × V)) → k < length runs → get_or runs k d ≢ []
          filled k d l = AllPass-at (λ run. run ≢ []) runs k d l are.filled

          first : (run : List (K × V)) → run ≢ [] → AllPass (λ e. cmp e.0 key ≡ Less) run → begins_by cmp key run ≡ true
          first [] some p = absurd (some refl)
          first (e ∷ es) some p = ap is_le p.0

          before : (k : ℕ) → k < j → AllPass (λ e. cmp e.0 key ≡ Less) (get_or runs k d)
          before k l =
              let all = run_before j high (subst (λ run. begins_by cmp key run ≡ true) (get_or_default runs j d [] high) h) in
              let inside : k < length (take j runs) = omega (arith, length-take j runs) in
              subst (λ run. AllPass (λ e. cmp e.0 key ≡ Less) run) (get_or-take j runs k d l) (AllPass-run (λ e. cmp e.0 key ≡ Less) (take j runs) k d inside all)

      -- the run before the first that begins by a greater key is that of the key
      pub run_found : (n at : ℕ) → at ≡ n - 1 → n ≤ length runs → IsPartitionPoint (λ run. begins_by cmp key run ≡ true) (λ run. begins_by cmp key run ≡ false) runs n → IsRunOf cmp runs key at
      run_found n at same within parts = ⊎_elim one more (cases_lt 0 n)
        where
          inside : at < length runs
          inside = let some = not_none runs are.some in omega arith

          one : 0 < n → IsRunOf cmp runs key at
          one l = record {
            before = run_before at inside (parts.0 at [] (omega arith) (omega arith));
            behind = run_behind (at + 1) (λ m. parts.1 (at + 1) [] (omega arith) m);
          }

          more : n ≤ 0 → IsRunOf cmp runs key at
          more l =
              let none : at ≡ 0 = omega arith in
              let whole = run_behind 0 (λ m. parts.1 0 [] (omega arith) m) in
              record {
                before = subst (λ k. AllPass (λ e. cmp e.0 key ≡ Less) (all_runs (take k runs))) (sym none) tt;
                behind = subst (λ k. AllPass (λ e. cmp e.0 key ≡ Greater) (all_runs (drop (k + 1) runs))) (sym none) (but_first (λ e. cmp e.0 key ≡ Greater) runs whole);
              }
