-- SPDX-License-Identifier: Apache-2.0
-- The state of a search over positions: which were found, and the marks by which that is told.
use Rattle.std.specs.Prelude.{◌≡◌, ℕ, ◌+◌, ◌<◌, ◌≤◌, ◌⊎◌, ◌↔◌, List, [], ◌++◌, length, not, nat_eq, slice_index, slice_index_or, All, Contains, count_by}

-- the row at i has j
abbrev pub Leads : List (List ℕ) → ℕ → ℕ → Type 0
Leads rows i j = Contains (slice_index_or rows i []) j

-- each row has only positions of rows
abbrev pub LeadWithin : List (List ℕ) → Type 0
LeadWithin rows = All (λ row. All (λ j. j < length rows) row) rows

-- how many positions lack the mark of this search
abbrev pub unmarked : ℕ → List ℕ → ℕ
unmarked stamp marks = count_by (λ mark. not (nat_eq mark stamp)) marks

-- the positions that were found are those that have the mark of this search, after which no other search was
pub record Told (stamp : ℕ) (marks found : List ℕ) : Type 0 where
  pub within : All (λ j. j < length marks) found
  pub marked : (j : ℕ) → j < length marks → (slice_index marks j ≡ stamp) ↔ Contains found j
  pub latest : All (λ mark. mark ≤ stamp) marks

-- the positions of the row were found too, each that was new behind the others
pub record Visited (stamp : ℕ) (row marks found marks' found' : List ℕ) : Type 0 where
  pub told : Told stamp marks' found'
  pub others : List ℕ
  pub behind : found' ≡ found ++ others
  pub holds : (j : ℕ) → Contains found' j ↔ (Contains found j ⊎ Contains row j)
  pub count : unmarked stamp marks' + length found' ≡ unmarked stamp marks + length found
  pub as_long : length marks' ≡ length marks
