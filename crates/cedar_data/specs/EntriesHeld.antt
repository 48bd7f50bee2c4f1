-- SPDX-License-Identifier: Apache-2.0
-- What a value of `Entries` holds.
use Rattle.std.specs.Prelude.{◌≡◌, ℕ, length, List}
use Rattle.std.specs.declared.cmp.Ordering.{Ordering}
use Rattle.cedar_data.specs.Maps.{IsSortedMap}
use Rattle.cedar_data.specs.Runs.{all_runs, AreRuns}
use Rattle.cedar_data.specs.declared.entries.Held.{Held}
use Rattle.cedar_data.specs.declared.entries.Held.TheVariants.{One, Several}

module _ {K V : Type 0} where
  -- all entries
  abbrev pub entries_held : Held K V → List (K × V)
  entries_held (One run) = run
  entries_held (Several runs) = all_runs runs.items

  -- one run in order, or several
  abbrev pub IsOrderedHeld : (K → K → Ordering) → Held K V → Type 0
  IsOrderedHeld cmp (One run) = IsSortedMap cmp run
  IsOrderedHeld cmp (Several runs) = AreRuns cmp runs.items

  -- and the count is theirs
  pub record HoldsInOrder (cmp : K → K → Ordering) (count : ℕ) (held : Held K V) : Type 0 where
    pub ordered : IsOrderedHeld cmp held
    pub counted : count ≡ length (entries_held held)

  -- the same, kept closed: it stands beside each map and set that is given up
  unfoldable pub IsHeld : (K → K → Ordering) → ℕ → Held K V → Type 0
  IsHeld cmp count held = HoldsInOrder cmp count held
