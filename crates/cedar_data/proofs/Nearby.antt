-- SPDX-License-Identifier: Apache-2.0
-- What is known of a key from the entries around a place, and from the runs around one.
use Rattle.std.proofs.Common.{◌≡◌, ℕ, zero, suc, ◌+◌, ◌<◌, ◌≤◌, true, false, List, [], ◌∷◌, ◌++◌, Some, length, get_or, take, drop, refl, sym, ap, ◌∙◌, subst, append_assoc, arith, take-append-drop}
use Rattle.std.proofs.lemmas.List.{length-take-le}
use Rattle.std.proofs.lemmas.Map.Keys.{sorted_tail}
use Rattle.std.specs.declared.cmp.Ordering.{Ordering}
use Rattle.std.specs.declared.cmp.Ordering.TheVariants.{Less, Equal, Greater}
use Rattle.std.specs.Cmp.{IsTotalOrder}
use Rattle.std.specs.List.{slice_get}
use Rattle.std.specs.Map.{keys_of}
use Rattle.cedar_data.proofs.Passing.{AllPass-front, AllPass-back}
use Rattle.cedar_data.proofs.Places.{StandsAt-from_search}
use Rattle.cedar_data.proofs.RunEdits.{get-run}
use Rattle.cedar_data.proofs.RunOrder.{all_runs-split, sorted_first, greater_from, run_before, run_behind}
use Rattle.cedar_data.proofs.Splitting.{all_less, all_greater}
use Rattle.cedar_data.specs.Firsts.{AllPass}
use Rattle.cedar_data.specs.Maps.{get, IsSortedMap}
use Rattle.cedar_data.specs.Places.{StandsAt, BelongsAt, HasValue, compared}
use Rattle.cedar_data.specs.Runs.{all_runs, begins_by, AreRuns, IsRunOf}

module _ {K V : Type 0} {cmp : K → K → Ordering} (total : IsTotalOrder cmp) (key : K) where
  -- the place of an entry that compares as equal
  pub compared_within : (es : List (K × V)) (at : ℕ) → compared cmp key (slice_get es at) ≡ Equal → at < length es
  compared_within [] at h = absurd cc
  compared_within (e ∷ es) zero h = omega arith
  compared_within (e ∷ es) (suc at) h = let within = compared_within es at h in omega arith

  compared_holds : (es : List (K × V)) (at : ℕ) (d : K × V) → compared cmp key (slice_get es at) ≡ Equal → cmp (get_or es at d).0 key ≡ Equal
  compared_holds [] at d h = absurd cc
  compared_holds (e ∷ es) zero d h = h
  compared_holds (e ∷ es) (suc at) d h = compared_holds es at d h

  pub StandsAt-compared : (es : List (K × V)) (at : ℕ) → IsSortedMap cmp es → compared cmp key (slice_get es at) ≡ Equal → StandsAt cmp es key at
  StandsAt-compared es at sorted h = StandsAt-from_search total key es at sorted (compared_within es at h) (λ d. compared_holds es at d h)

  -- from an entry that compares as greater, all do
  all_greater_from : (es : List (K × V)) (at : ℕ) → IsSortedMap cmp es → compared cmp key (slice_get es at) ≡ Greater → AllPass (λ e. cmp e.0 key ≡ Greater) (drop at es)
  all_greater_from [] zero sorted h = tt
  all_greater_from [] (suc at) sorted h = tt
  all_greater_from (e ∷ es) zero sorted h = greater_from total key e es sorted h
  all_greater_from (e ∷ es) (suc at) sorted h = all_greater_from es at (sorted_tail cmp e.0 (keys_of es) sorted) h

  -- and to one that compares as less
  all_less_to : (es : List (K × V)) (at : ℕ) → IsSortedMap cmp es → compared cmp key (slice_get es at) ≡ Less → AllPass (λ e. cmp e.0 key ≡ Less) (take (suc at) es)
  all_less_to [] at sorted h = tt
  all_less_to (e ∷ es) zero sorted h = (h, tt)
  all_less_to (e ∷ []) (suc at) sorted h = absurd cc
  all_less_to (e ∷ f ∷ es) (suc at) sorted h =
      let rest = all_less_to (f ∷ es) at (sorted_tail cmp e.0 (keys_of (f ∷ es)) sorted) h in
      (total.trans e.0 f.0 key (sorted_first cmp e (f ∷ es) sorted).0 rest.0, rest)

  -- so a key belongs before all, or between two
  pub BelongsAt-first : (es : List (K × V)) → IsSortedMap cmp es → compared cmp key (slice_get es 0) ≡ Greater → BelongsAt cmp es key 0
  BelongsAt-first es sorted h = record {
    before = [];
    behind = es;
    split = refl;
    place = refl;
    less = tt;
    greater = all_greater_from es 0 sorted h;
  }

  pub BelongsAt-between : (es : List (K × V)) (before at : ℕ) → IsSortedMap cmp es → at ≤ length es → at ≡ suc before → compared cmp key (slice_get es before) ≡ Less → compared cmp key (slice_get es at) ≡ Greater → BelongsAt cmp es key at
  BelongsAt-between es before at sorted within next less greater = record {
    before = take at es;
    behind = drop at es;
    split = sym (take-append-drop at es);
    place = sym (length-take-le at es within);
    less = subst (λ n. AllPass (λ e. cmp e.0 key ≡ Less) (take n es)) (sym next) (all_less_to es before sorted less);
    greater = all_greater_from es at sorted greater;
  }

  module _ (runs : List (List (K × V))) (are : AreRuns cmp runs) (at : ℕ) (inside : at < length runs) where
    -- the run that begins by at most the key, where the next one doesn't, is that of the key
    pub IsRunOf-begins : begins_by cmp key (get_or runs at []) ≡ true → (at + 1 < length runs → begins_by cmp key (get_or runs (at + 1) []) ≡ false) → IsRunOf cmp runs key at
    IsRunOf-begins here next = record {
      before = run_before total key runs are at inside here;
      behind = run_behind total key runs are (at + 1) next;
    }

    -- and so is one where the key stands
    pub IsRunOf-stands : (run : List (K × V)) (place : ℕ) → run ≡ get_or runs at run → StandsAt cmp run key place → IsRunOf cmp runs key at
    IsRunOf-stands run place is stands =
        let front = all_runs (take at runs) in
        let back = all_runs (drop (at + 1) runs) in
        let whole : all_runs runs ≡ (front ++ stands.before) ++ stands.entry ∷ (stands.behind ++ back) =
        all_runs-split runs at run inside
        ∙ ap (λ es. front ++ (es ++ back)) (sym is ∙ stands.split)
        ∙ ap (λ es. front ++ es) (append_assoc stands.before (stands.entry ∷ stands.behind) back)
        ∙ sym (append_assoc front stands.before (stands.entry ∷ (stands.behind ++ back))) in
        let sorted = subst (IsSortedMap cmp) whole are.ordered in
        record {
          before = AllPass-front (λ e. cmp e.0 key ≡ Less) front stands.before (all_less total key (front ++ stands.before) stands.entry (stands.behind ++ back) sorted stands.equal);
          behind = AllPass-back (λ e. cmp e.0 key ≡ Greater) stands.behind back (all_greater total key (front ++ stands.before) stands.entry (stands.behind ++ back) sorted stands.equal);
        }

    -- so the value that the run has at the key is that of all runs
    pub get-stands : (run : List (K × V)) (value : V) → run ≡ get_or runs at run → HasValue cmp run key value → Some value ≡ get cmp (all_runs runs) key
    get-stands run value is has =
        let of = IsRunOf-stands run has.at is has.stands in
        sym has.is ∙ get-run total key runs at run (record { inside = inside; of = of; is = is })
