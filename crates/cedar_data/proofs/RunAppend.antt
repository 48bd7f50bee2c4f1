-- SPDX-License-Identifier: Apache-2.0
-- An entry behind all others, in the last of several runs or in one of its own.
use Rattle.std.proofs.Common.{◌≡◌, ◌≢◌, ℕ, ◌+◌, ◌-◌, ◌<◌, Ok, Err, Result, OnOk, OnErr, None, true, List, [], ◌∷◌, ◌++◌, length, get_or, set, take, drop, refl, sym, ap, ◌∙◌, subst, append_assoc, arith}
use Rattle.std.proofs.lemmas.List.{append-nil, drop_all, set-get_or}
use Rattle.std.specs.List.{AllByRecursion}
use Rattle.std.specs.declared.cmp.Ordering.{Ordering}
use Rattle.std.specs.declared.cmp.Ordering.TheVariants.{Less, Equal, Greater}
use Rattle.std.specs.Ordering.{is_lt}
use Rattle.std.specs.Cmp.{IsTotalOrder}
use Rattle.std.specs.List.Sorted.{IsStrictlySortedBy}
use Rattle.std.specs.Map.{keys_of}
use Rattle.cedar_data.proofs.Passing.{AllPass-set}
use Rattle.cedar_data.proofs.Rebuild.{at_next, keys_of-append, sorted_back}
use Rattle.cedar_data.proofs.RunEdits.{all_runs-set, append-some, lookup-front, set-some, turned_less}
use Rattle.cedar_data.proofs.RunOrder.{all_runs-append, all_runs-split, not_none, sorted_before, split_at}
use Rattle.cedar_data.proofs.Splitting.{AllPass-append}
use Rattle.cedar_data.specs.Maps.{get, IsSortedMap}
use Rattle.cedar_data.specs.Places.{EndsBefore}
use Rattle.cedar_data.specs.Runs.{all_runs, AreRuns}

module _ {K V : Type 0} where
  -- the last run of several
  module _ (runs : List (List (K × V))) (last : ℕ) (run : List (K × V)) (some : runs ≢ []) (at : last ≡ length runs - 1) (is : run ≡ get_or runs last run) where
    pub last_inside : last < length runs
    last_inside = let positive = not_none runs some in omega arith

    ends_with : all_runs runs ≡ all_runs (take last runs) ++ run
    ends_with =
        all_runs-split runs last run last_inside
        ∙ ap (λ r. all_runs (take last runs) ++ (r ++ all_runs (drop (last + 1) runs))) (sym is)
        ∙ ap (λ rs. all_runs (take last runs) ++ (run ++ all_runs rs)) (drop_all (last + 1) runs (let positive = not_none runs some in omega arith))
        ∙ ap (λ es. all_runs (take last runs) ++ es) (append-nil run)

    pub longer_by : (e : K × V) → all_runs (set runs last (run ++ e ∷ [])) ≡ all_runs runs ++ e ∷ []
    longer_by e =
        all_runs-set runs last (run ++ e ∷ []) last_inside
        ∙ ap (λ rs. all_runs (take last runs) ++ ((run ++ e ∷ []) ++ all_runs rs)) (drop_all (last + 1) runs (let positive = not_none runs some in omega arith))
        ∙ ap (λ es. all_runs (take last runs) ++ es) (append-nil (run ++ e ∷ []))
        ∙ sym (append_assoc (all_runs (take last runs)) run (e ∷ []))
        ∙ ap (λ es. es ++ e ∷ []) (sym ends_with)

    -- a key that is behind all is behind those of the last run
    pub behind_last : (cmp : K → K → Ordering) (key : K) → IsStrictlySortedBy cmp (keys_of (all_runs runs) ++ key ∷ []) → IsStrictlySortedBy cmp (keys_of run ++ key ∷ [])
    behind_last cmp key sorted =
        let all = ap (λ es. keys_of es ++ key ∷ []) ends_with ∙ ap (λ ks. ks ++ key ∷ []) (keys_of-append (all_runs (take last runs)) run) ∙ append_assoc (keys_of (all_runs (take last runs))) (keys_of run) (key ∷ []) in
        sorted_back cmp (keys_of (all_runs (take last runs))) (keys_of run ++ key ∷ []) (subst (IsStrictlySortedBy cmp) all sorted)

  still_sorted : (cmp : K → K → Ordering) (es : List (K × V)) (key : K) (value : V) → IsStrictlySortedBy cmp (keys_of es ++ key ∷ []) → IsSortedMap cmp (es ++ (key, value) ∷ [])
  still_sorted cmp es key value sorted = subst (IsStrictlySortedBy cmp) (sym (keys_of-append es ((key, value) ∷ []))) sorted

  pub AreRuns-longer : {cmp : K → K → Ordering} (runs : List (List (K × V))) (last : ℕ) (run : List (K × V)) (key : K) (value : V) → AreRuns cmp runs → last ≡ length runs - 1 → run ≡ get_or runs last run → IsStrictlySortedBy cmp (keys_of (all_runs runs) ++ key ∷ []) → AreRuns cmp (set runs last (run ++ (key, value) ∷ []))
  AreRuns-longer {cmp} runs last run key value are at is sorted =
      let inside = last_inside runs last run are.some at is in record {
        some = set-some runs last (run ++ (key, value) ∷ []) inside;
        filled = AllPass-set (λ r. r ≢ []) runs last (run ++ (key, value) ∷ []) inside (append-some run (key, value) []) are.filled;
        ordered = subst (IsSortedMap cmp) (sym (longer_by runs last run are.some at is (key, value))) (still_sorted cmp (all_runs runs) key value sorted);
      }

  pub more_by : (runs : List (List (K × V))) (run : List (K × V)) → all_runs (runs ++ run ∷ []) ≡ all_runs runs ++ run
  more_by runs run = all_runs-append runs (run ∷ []) ∙ ap (λ es. all_runs runs ++ es) (append-nil run)

  pub AreRuns-more : {cmp : K → K → Ordering} (runs : List (List (K × V))) (key : K) (value : V) → AreRuns cmp runs → IsStrictlySortedBy cmp (keys_of (all_runs runs) ++ key ∷ []) → AreRuns cmp (runs ++ ((key, value) ∷ []) ∷ [])
  AreRuns-more {cmp} runs key value are sorted = record {
    some = append-some runs ((key, value) ∷ []) [];
    filled = AllPass-append (λ r. r ≢ []) runs (((key, value) ∷ []) ∷ []) are.filled (append-some [] (key, value) [], tt);
    ordered = subst (IsSortedMap cmp) (sym (more_by runs ((key, value) ∷ []))) (still_sorted cmp (all_runs runs) key value sorted);
  }

  -- whether or not there was memory for it
  pub AreRuns-either : {T E : Type 0} {cmp : K → K → Ordering} (runs : List (List (K × V))) (last : ℕ) (run new : List (K × V)) (key : K) (value : V) (made : Result T E) → AreRuns cmp runs → last ≡ length runs - 1 → run ≡ get_or runs last run → IsStrictlySortedBy cmp (keys_of (all_runs runs) ++ key ∷ []) → OnOk made (new ≡ run ++ (key, value) ∷ []) → OnErr made (new ≡ run) → AreRuns cmp (set runs last new)
  AreRuns-either {cmp} runs last run new key value (Ok x) are at is sorted ok err = subst (λ r. AreRuns cmp (set runs last r)) (sym ok) (AreRuns-longer runs last run key value are at is sorted)
  AreRuns-either {cmp} runs last run new key value (Err x) are at is sorted ok err = subst (AreRuns cmp) (sym (ap (λ r. set runs last r) (err ∙ is) ∙ set-get_or runs last run)) are

  pub longer_where_ok : {T E : Type 0} (runs : List (List (K × V))) (last : ℕ) (run new : List (K × V)) (e : K × V) (made : Result T E) → runs ≢ [] → last ≡ length runs - 1 → run ≡ get_or runs last run → OnOk made (new ≡ run ++ e ∷ []) → OnOk made (all_runs (set runs last new) ≡ all_runs runs ++ e ∷ [])
  longer_where_ok runs last run new e (Ok x) some at is ok = ap (λ r. all_runs (set runs last r)) ok ∙ longer_by runs last run some at is e
  longer_where_ok runs last run new e (Err x) some at is ok = tt

module _ {K : Type 0} {cmp : K → K → Ordering} (total : IsTotalOrder cmp) where
  all_more : (P : K → Type 0) (ks : List K) (key : K) → AllByRecursion P ks → P key → AllByRecursion P (ks ++ key ∷ [])
  all_more P [] key all p = (p, tt)
  all_more P (k ∷ ks) key all p = (all.0, all_more P ks key all.1 p)

  -- keys ascend still with one that is greater than the last
  sorted_longer : (ks : List K) (last key : K) → IsStrictlySortedBy cmp (ks ++ last ∷ []) → cmp last key ≡ Less → IsStrictlySortedBy cmp ((ks ++ last ∷ []) ++ key ∷ [])
  unfolding IsStrictlySortedBy
  sorted_longer [] last key sorted less = ((less, tt), (tt, tt))
  sorted_longer (k ∷ ks) last key sorted less = (
    all_more (λ y. cmp k y ≡ Less) (ks ++ last ∷ []) key sorted.0 (total.trans k last key (at_next (λ y. cmp k y ≡ Less) ks [] last sorted.0) less),
    sorted_longer ks last key sorted.1 less,
  )

  module _ {V : Type 0} where
    pub behind_one : (es : List (K × V)) (key : K) → IsSortedMap cmp es → EndsBefore cmp es key → IsStrictlySortedBy cmp (keys_of es ++ key ∷ [])
    behind_one es key sorted ends =
        let keys : keys_of es ≡ keys_of ends.before ++ ends.last.0 ∷ [] = ap keys_of ends.split ∙ keys_of-append ends.before (ends.last ∷ []) in
        subst (λ ks. IsStrictlySortedBy cmp (ks ++ key ∷ [])) (sym keys) (sorted_longer (keys_of ends.before) ends.last.0 key (subst (IsStrictlySortedBy cmp) keys sorted) ends.less)

    pub behind_several : (runs : List (List (K × V))) (last : ℕ) (run : List (K × V)) (key : K) → AreRuns cmp runs → last ≡ length runs - 1 → run ≡ get_or runs last run → EndsBefore cmp run key → IsStrictlySortedBy cmp (keys_of (all_runs runs) ++ key ∷ [])
    behind_several runs last run key are at is ends = behind_one (all_runs runs) key are.ordered record {
      before = all_runs (take last runs) ++ ends.before;
      last = ends.last;
      split = ends_with runs last run are.some at is ∙ ap (λ es. all_runs (take last runs) ++ es) ends.split ∙ sym (append_assoc (all_runs (take last runs)) ends.before (ends.last ∷ []));
      less = ends.less;
    }

    -- a key behind all isn't there
    pub get-behind_all : (es : List (K × V)) (key : K) (value : V) → IsStrictlySortedBy cmp (keys_of es ++ key ∷ []) → get cmp es key ≡ None
    get-behind_all es key value sorted =
        ap (λ l. get cmp l key) (sym (append-nil es))
        ∙ lookup-front (cmp key) es [] (turned_less total key es (sorted_before cmp es (key, value) [] (still_sorted cmp es key value sorted)))

-- where the last entry is looked at
pub ends_there : {K V : Type 0} (cmp : K → K → Ordering) (last : K × V) (seen es : List (K × V)) (key : K) → seen ≡ es → 0 < length seen → last ≡ get_or seen (length seen - 1) last → is_lt (cmp last.0 key) ≡ true → EndsBefore cmp es key
ends_there cmp last seen es key same some is less = record {
  before = take (length seen - 1) seen;
  last = last;
  split = sym same ∙ split_at seen (length seen - 1) last (omega arith) ∙ (λ i. take (length seen - 1) seen ++ (sym is) i ∷ drop_all (length seen - 1 + 1) seen (omega arith) i);
  less = by (cmp last.0 key) less;
}
  where
    by : (o : Ordering) → is_lt o ≡ true → o ≡ Less
    by Less h = refl
    by Equal h = absurd cc
    by Greater h = absurd cc
