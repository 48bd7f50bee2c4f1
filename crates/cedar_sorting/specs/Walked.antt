-- SPDX-License-Identifier: Apache-2.0
-- The state of a walk through rows that puts positions behind those of their rows.
use Rattle.std.specs.Prelude.{◌≡◌, ℕ, ◌+◌, ◌<◌, List, Option, Some, None, length, take, slice_index, slice_index_or, All, Contains}
use Rattle.std.specs.List.{AllPairs}
use Rattle.cedar_closure.specs.Marks.{Leads}
use Rattle.cedar_sorting.specs.declared.mark.Mark.{Mark}
use Rattle.cedar_sorting.specs.declared.mark.Mark.TheVariants.{New, Open, Done}

abbrev pub mark_at : List Mark → ℕ → Mark
mark_at marks i = slice_index_or marks i New

-- the positions in order are those that are done, each once and behind those of its row
pub record Sorted (rows : List (List ℕ)) (marks : List Mark) (order : List ℕ) : Type 0 where
  pub long : length marks ≡ length rows
  pub within : All (λ i. i < length rows) order
  pub apart : AllPairs (λ i j. i ≡ j → ⊥) order
  pub behind : (k j : ℕ) → k < length order → Leads rows (slice_index order k) j → Contains (take k order) j
  pub done : (i : ℕ) → mark_at marks i ≡ Done → Contains order i
  pub marked : (i : ℕ) → Contains order i → mark_at marks i ≡ Done

-- the order has what it had, and the start
pub record SortedMore (rows : List (List ℕ)) (old : List ℕ) (start : ℕ) (marks : List Mark) (order : List ℕ) : Type 0 where
  pub sorted : Sorted rows marks order
  pub closed : (i : ℕ) → mark_at marks i ≡ Open → ⊥
  pub kept : (i : ℕ) → Contains old i → Contains order i
  pub has : Contains order start
