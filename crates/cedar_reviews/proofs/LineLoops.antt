-- SPDX-License-Identifier: Apache-2.0
-- A loop that puts the lines of numbers one behind another.
use Rattle.std.proofs.Common.{◌≡◌, ℕ, List, [], ◌∷◌, ◌++◌, sym, ap, ◌∙◌, append_assoc, append-nil}
use Rattle.cedar_reviews.specs.Judging.{environment_line, environment_lines}

-- a loop over `whole` that has `left` before it has made these lines
pub record WritesLines (whole left made : List ℕ) : Type 0 where
  pub is : environment_lines whole ≡ made ++ environment_lines left

pub WritesLines-start : (whole left made : List ℕ) → left ≡ whole → made ≡ [] → WritesLines whole left made
WritesLines-start whole left made all none = record { is = ap environment_lines (sym all) ∙ ap (λ m. m ++ environment_lines left) (sym none) }

pub WritesLines-next : {whole left rest made more : List ℕ} (n : ℕ) → WritesLines whole left made → left ≡ n ∷ rest → more ≡ made ++ environment_line n → WritesLines whole rest more
WritesLines-next {rest = rest} {made = made} n sofar at_left pushed = record {
  is = sofar.is ∙ ap (λ l. made ++ environment_lines l) at_left ∙ sym (append_assoc made (environment_line n) (environment_lines rest)) ∙ ap (λ m. m ++ environment_lines rest) (sym pushed);
}

pub WritesLines-end : {whole left made : List ℕ} → WritesLines whole left made → left ≡ [] → made ≡ environment_lines whole
WritesLines-end {made = made} sofar none = sym (sofar.is ∙ ap (λ l. made ++ environment_lines l) none ∙ append-nil made)

pub ruleset lines_are_written = (WritesLines-start, WritesLines-next, WritesLines-end)
