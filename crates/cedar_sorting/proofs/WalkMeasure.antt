-- SPDX-License-Identifier: Apache-2.0
-- How much of a walk is still to come.
use Rattle.std.proofs.Common.{◌≡◌, ℕ, ◌+◌, ◌-◌, ◌*◌, ◌<◌, ◌≤◌, List, [], ◌∷◌, length, set, get_or, zero, suc, refl, sym, ap, ◌∙◌, arith}
use Rattle.std.proofs.lemmas.List.Sums.{sum_by-set, sum_by-cons}
use Rattle.std.specs.List.{sum_by}
use Rattle.cedar_sorting.specs.Walked.{mark_at}
use Rattle.cedar_sorting.specs.declared.mark.Mark.{Mark}
use Rattle.cedar_sorting.specs.declared.mark.Mark.TheVariants.{New, Open, Done}
use Rattle.cedar_sorting.specs.declared.depth_first.Step.{Step}

abbrev new_weight : Mark → ℕ
new_weight New = 1
new_weight Open = 0
new_weight Done = 0

-- how many positions are new
abbrev pub news : List Mark → ℕ
news marks = sum_by new_weight marks

-- what is left of the rows on the way, and the ways back
abbrev pub left_of : List (List ℕ) → List Step → ℕ
left_of rows [] = 0
left_of rows (s ∷ ss) = (length (get_or rows s.at []) - s.next) + 1 + left_of rows ss

pub news-open : (marks : List Mark) (i : ℕ) → i < length marks → mark_at marks i ≡ New → news (set marks i Open) + 1 ≡ news marks
news-open marks i inside new =
    let sum = sum_by-set new_weight marks i Open New inside in
    let one = ap new_weight new in
    omega (arith, sum, one)

pub news-done : (marks : List Mark) (i : ℕ) → i < length marks → mark_at marks i ≡ Open → news (set marks i Done) ≡ news marks
news-done marks i inside opened =
    let sum = sum_by-set new_weight marks i Done New inside in
    let none = ap new_weight opened in
    omega (arith, sum, none)

pub one_row : (rows : List (List ℕ)) (i : ℕ) → length (get_or rows i []) ≤ sum_by length rows
one_row [] i = omega arith
one_row (row ∷ rows) zero =
    let head : length (get_or (row ∷ rows) zero []) ≡ length row = refl in
    let all : sum_by length (row ∷ rows) ≡ length row + sum_by length rows = sum_by-cons length row rows in
    omega (arith, head, all)
one_row (row ∷ rows) (suc i) = let rest = one_row rows i in
    let tail : length (get_or (row ∷ rows) (suc i) []) ≡ length (get_or rows i []) = refl in
    let all : sum_by length (row ∷ rows) ≡ length row + sum_by length rows = sum_by-cons length row rows in
    omega (arith, rest, tail, all)

pub times-more : (a b w : ℕ) → a + 1 ≡ b → b * w ≡ a * w + w
times-more a b w is = ap (λ n. n * w) (sym is) ∙ grind arith
