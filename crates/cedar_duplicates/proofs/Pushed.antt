-- SPDX-License-Identifier: Apache-2.0
-- A loop that pushes what it makes of each entry.
use Rattle.std.proofs.Common.{◌≡◌, List, [], ◌∷◌, ◌++◌, map, sym, ap, ◌∙◌, append_assoc}
use Rattle.std.proofs.lemmas.List.{append-nil}

-- a loop over `whole` that began with `before` and has `left` before it has pushed so much
pub record Pushes {E B : Type 0} (f : E → B) (before : List B) (whole left : List E) (all : List B) : Type 0 where
  pub is : all ++ map f left ≡ before ++ map f whole

module _ {E B : Type 0} where
  -- before the first
  pub Pushes-start : (f : E → B) (before : List B) (whole left : List E) (all : List B) → all ≡ before → left ≡ whole → Pushes f before whole left all
  Pushes-start f before whole left all none same = record { is = ap (λ a. a ++ map f left) none ∙ ap (λ l. before ++ map f l) same }

  -- one more
  pub Pushes-next : {f : E → B} {before : List B} {whole left rest : List E} {all more : List B} {next : E} {made : B} → Pushes f before whole left all → left ≡ next ∷ rest → made ≡ f next → more ≡ all ++ made ∷ [] → Pushes f before whole rest more
  Pushes-next {f} {rest = rest} {all = all} {next = next} sofar first gives put = record {
    is = ap (λ m. m ++ map f rest) (put ∙ ap (λ b. all ++ b ∷ []) gives)
        ∙ append_assoc all (f next ∷ []) (map f rest)
        ∙ sym (ap (λ xs. all ++ map f xs) first) ∙ sofar.is;
  }

  -- after the last
  pub Pushes-end : {f : E → B} {before : List B} {whole left : List E} {all : List B} → Pushes f before whole left all → left ≡ [] → all ≡ before ++ map f whole
  Pushes-end {f} {all = all} sofar none = sym (append-nil all) ∙ sym (ap (λ xs. all ++ map f xs) none) ∙ sofar.is

pub ruleset pushed = (Pushes-start, Pushes-next, Pushes-end)
