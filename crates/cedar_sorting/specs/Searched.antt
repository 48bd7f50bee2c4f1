-- SPDX-License-Identifier: Apache-2.0
-- A search for the least position that reaches itself.
use Rattle.std.specs.Prelude.{◌≡◌, ℕ, ◌<◌, ◌≤◌, Bool, true, false, cond, List, length, min, slice_index, slice_index_or, Contains}
use Rattle.cedar_closure.specs.Chains.{Reaches}
use Rattle.cedar_closure.specs.Marks.{Leads}
use Rattle.cedar_sorting.specs.declared.least_cycle.Frame.{Frame}
use Rattle.cedar_sorting.specs.declared.least_cycle.State.{State}
use Rattle.cedar_sorting.specs.declared.least_cycle.State.TheVariants.{New, Open, Done}

-- it reaches itself, if it is a position, and no lesser one does
pub record IsLeastToReturn (rows : List (List ℕ)) (least : ℕ) : Type 0 where
  pub returns : least < length rows → Reaches (Leads rows) least least
  pub bound : (i : ℕ) → i < length rows → Reaches (Leads rows) i i → least ≤ i

abbrev pub seen_at : List Bool → ℕ → Bool
seen_at seen i = slice_index_or seen i false

-- what was seen leads to what was seen, and `least` is the least of it that reaches itself
pub record Searched (rows : List (List ℕ)) (seen : List Bool) (least : ℕ) : Type 0 where
  pub long : length seen ≡ length rows
  pub closed : (i j : ℕ) → seen_at seen i ≡ true → Leads rows i j → seen_at seen j ≡ true
  pub returns : least < length rows → Reaches (Leads rows) least least
  pub bound : (i : ℕ) → seen_at seen i ≡ true → Reaches (Leads rows) i i → least ≤ i

-- each position on the stack has its place
abbrev pub IsPlaced : List ℕ → List ℕ → Type 0
IsPlaced places stack = (p : ℕ) → p < length stack → slice_index places (slice_index stack p) ≡ p

-- what the state tells of a position
abbrev pub Tells : List Bool → List ℕ → ℕ → State → Type 0
Tells seen stack i New = seen_at seen i ≡ false
Tells seen stack i (Open place) = (place < length stack) × (slice_index stack place ≡ i)
Tells seen stack i Done = (seen_at seen i ≡ true) × (Contains stack i → ⊥)

abbrev pub with_part : ℕ → Bool → ℕ → ℕ
with_part found returns least = cond returns (min found least) found

abbrev pub returning : Frame → ℕ → Frame
returning top place = record top { low = min top.low place; returns = true }

abbrev pub merged : Frame → Frame → Frame
merged before top = record before { low = min before.low top.low; least = min before.least top.least; returns = true }
