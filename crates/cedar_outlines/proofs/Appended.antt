-- SPDX-License-Identifier: Apache-2.0
-- Loops that put what each item gives behind what was there.
use Rattle.std.proofs.Common.{◌≡◌, List, [], ◌∷◌, ◌++◌, sym, ap, ◌∙◌, append_assoc}
use Rattle.std.proofs.lemmas.List.{append-nil}
use Rattle.std.specs.List.{flat_map}

-- a loop over `whole` that began with `before` and has `left` before it has put so much there
pub record Appends {E B : Type 0} (f : E → List B) (before : List B) (whole left : List E) (all : List B) : Type 0 where
  pub is : all ++ flat_map f left ≡ before ++ flat_map f whole

module _ {E B : Type 0} where
  -- before the first
  pub Appends-start : (f : E → List B) (before : List B) (whole left : List E) (all : List B) → all ≡ before → left ≡ whole → Appends f before whole left all
  Appends-start f before whole left all none same = record { is = ap (λ a. a ++ flat_map f left) none ∙ ap (λ l. before ++ flat_map f l) same }

  -- one more
  pub Appends-next : {f : E → List B} {before : List B} {whole left rest : List E} {all more : List B} {next : E} {made : List B} → Appends f before whole left all → left ≡ next ∷ rest → made ≡ f next → more ≡ all ++ made → Appends f before whole rest more
  Appends-next {f} {rest = rest} {all = all} {next = next} sofar first gives put = record {
    is = ap (λ m. m ++ flat_map f rest) (put ∙ ap (λ b. all ++ b) gives)
        ∙ append_assoc all (f next) (flat_map f rest)
        ∙ sym (ap (λ xs. all ++ flat_map f xs) first) ∙ sofar.is;
  }

  -- after the last
  pub Appends-end : {f : E → List B} {before : List B} {whole left : List E} {all : List B} → Appends f before whole left all → left ≡ [] → all ≡ before ++ flat_map f whole
  Appends-end {f} {all = all} sofar none = sym (append-nil all) ∙ sym (ap (λ xs. all ++ flat_map f xs) none) ∙ sofar.is

pub ruleset appended = (Appends-start, Appends-next, Appends-end)
