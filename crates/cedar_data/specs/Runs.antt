-- SPDX-License-Identifier: Apache-2.0
-- Entries in order that stand in several runs, one behind the other.
use Rattle.std.specs.Prelude.{◌≡◌, ◌≢◌, ◌++◌, ◌+◌, ℕ, Bool, false, cond, List, [], ◌∷◌, Option, Some, None, take, drop}
use Rattle.std.specs.declared.cmp.Ordering.{Ordering}
use Rattle.std.specs.declared.cmp.Ordering.TheVariants.{Less, Greater}
use Rattle.std.specs.Ordering.{is_lt, is_le}
use Rattle.cedar_data.specs.Firsts.{AllPass}
use Rattle.cedar_data.specs.Maps.{IsSortedMap}

module _ {K V : Type 0} where
  -- the entries of all runs
  abbrev pub all_runs : List (List (K × V)) → List (K × V)
  all_runs [] = []
  all_runs (run ∷ runs) = run ++ all_runs runs

  module _ (cmp : K → K → Ordering) where
    -- there are runs, none is empty, and the keys of all ascend
    pub record AreRuns (runs : List (List (K × V))) : Type 0 where
      pub some : runs ≢ []
      pub filled : AllPass (λ run. run ≢ []) runs
      pub ordered : IsSortedMap cmp (all_runs runs)

    -- the keys of the runs before the one at `at` are less than the key, and those behind it are greater
    pub record IsRunOf (runs : List (List (K × V))) (key : K) (at : ℕ) : Type 0 where
      pub before : AllPass (λ e. cmp e.0 key ≡ Less) (all_runs (take at runs))
      pub behind : AllPass (λ e. cmp e.0 key ≡ Greater) (all_runs (drop (at + 1) runs))

    -- whether the first key of the run is at most the key
    abbrev pub begins_by : K → List (K × V) → Bool
    begins_by key [] = false
    begins_by key (e ∷ es) = is_le (cmp e.0 key)

    -- the first entry whose key is greater
    abbrev pub first_after : K → List (K × V) → Option (K × V)
    first_after key [] = None
    first_after key (e ∷ es) = cond (is_lt (cmp key e.0)) (Some e) (first_after key es)
