-- SPDX-License-Identifier: Apache-2.0
-- What is left of a list in a loop.
use Rattle.std.proofs.Common.{◌≡◌, List, [], ◌∷◌, ◌++◌, sym, ap, ◌∙◌, append_assoc}

-- a loop over `whole` that has `left` before it
pub record Remains {A : Type 0} (whole left : List A) : Type 0 where
  pub done : List A
  pub split : done ++ left ≡ whole

module _ {A : Type 0} where
  pub Remains-start : (whole left : List A) → left ≡ whole → Remains whole left
  Remains-start whole left all = record { done = []; split = all }

  pub Remains-next : {whole left rest : List A} {a : A} → Remains whole left → left ≡ a ∷ rest → Remains whole rest
  Remains-next {whole} {left} {rest} {a} sofar at_left = record {
    done = sofar.done ++ a ∷ [];
    split = append_assoc sofar.done (a ∷ []) rest ∙ ap (λ l. sofar.done ++ l) (sym at_left) ∙ sofar.split;
  }

pub ruleset remaining = (Remains-start, Remains-next)
