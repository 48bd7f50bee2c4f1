-- SPDX-License-Identifier: Apache-2.0
-- Positions, each with a row of positions to which it leads: an order of them, or the least that reaches itself.
use Rattle.std.specs.Prelude.{◌≡◌, ℕ, ◌<◌, ◌≤◌, List, length, take, slice_index, All, Contains}
use Rattle.std.specs.List.{AllPairs}
use Rattle.cedar_closure.specs.Chains.{Reaches}
use Rattle.cedar_closure.specs.Marks.{Leads}
use Rattle.cedar_sorting.specs.declared.sort.Sorting.{Sorting}
use Rattle.cedar_sorting.specs.declared.sort.Sorting.TheVariants.{Order, Cycle}

-- each position once, and behind those to which it leads
pub record IsOrder (rows : List (List ℕ)) (order : List ℕ) : Type 0 where
  pub within : All (λ i. i < length rows) order
  pub apart : AllPairs (λ i j. i ≡ j → ⊥) order
  pub whole : (i : ℕ) → i < length rows → Contains order i
  pub behind : (k j : ℕ) → k < length order → Leads rows (slice_index order k) j → Contains (take k order) j

-- the position reaches itself, and no lesser one does
pub record IsLeastOnCycle (rows : List (List ℕ)) (least : ℕ) : Type 0 where
  pub stands : least < length rows
  pub returns : Reaches (Leads rows) least least
  pub bound : (i : ℕ) → Reaches (Leads rows) i i → least ≤ i

-- an order, where no position reaches itself; or the least position that does
abbrev pub Sorts : List (List ℕ) → Sorting → Type 0
Sorts rows (Order order) = IsOrder rows order.items × ((i : ℕ) → Reaches (Leads rows) i i → ⊥)
Sorts rows (Cycle least) = IsLeastOnCycle rows least
