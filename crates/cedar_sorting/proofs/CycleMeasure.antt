-- SPDX-License-Identifier: Apache-2.0
-- How much of a search is still to come.
use Rattle.std.proofs.Common.{◌≡◌, ℕ, ◌+◌, ◌-◌, ◌*◌, ◌<◌, Bool, true, false, cond, List, [], ◌∷◌, length, set, get_or, refl, sym, ap, ◌∙◌, arith}
use Rattle.std.proofs.lemmas.List.Sums.{sum_by-set}
use Rattle.std.specs.List.{sum_by}
use Rattle.cedar_sorting.specs.Searched.{seen_at}
use Rattle.cedar_sorting.specs.declared.least_cycle.Frame.{Frame}

abbrev weight : Bool → ℕ
weight seen = cond seen 0 1

-- how many positions were not seen
abbrev pub unseen : List Bool → ℕ
unseen seen = sum_by weight seen

-- what is left of the rows on the way, and the ways back
abbrev pub left_over : List (List ℕ) → List Frame → ℕ
left_over rows [] = 0
left_over rows (f ∷ fs) = (length (get_or rows f.at []) - f.next) + 1 + left_over rows fs

pub unseen-set : (seen : List Bool) (i : ℕ) → i < length seen → seen_at seen i ≡ false → unseen (set seen i true) + 1 ≡ unseen seen
unseen-set seen i inside new =
    let sum = sum_by-set weight seen i true false inside in
    let one = ap weight new in
    omega (arith, sum, one)
