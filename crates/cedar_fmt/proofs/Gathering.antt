-- SPDX-License-Identifier: Apache-2.0
-- Loops that put what each item gives behind what is there.
use Rattle.std.proofs.Common.{◌≡◌, List, [], ◌∷◌, ◌++◌, sym, ap, ◌∙◌, append_assoc}
use Rattle.std.proofs.lemmas.List.{append-nil}
use Rattle.std.proofs.lemmas.List.Concat.{flat_map-append}
use Rattle.std.specs.List.{flat_map}

-- a loop over `whole` that has passed `done` and has `left` before it
pub record Gathers {T A : Type 0} (parts : T → List A) (whole left : List T) (old new : List A) : Type 0 where
  pub done : List T
  pub split : done ++ left ≡ whole
  pub is : new ≡ old ++ flat_map parts done

module _ {T A : Type 0} where
  -- before the first item
  pub Gathers-start : (parts : T → List A) (whole left : List T) (old new : List A) → left ≡ whole → new ≡ old → Gathers parts whole left old new
  Gathers-start parts whole left old new all same = record { done = []; split = all; is = same ∙ sym (append-nil old) }

  -- one item more
  pub Gathers-next : {parts : T → List A} {whole left rest : List T} {old new more : List A} {item : T} → Gathers parts whole left old new → left ≡ item ∷ rest → more ≡ new ++ parts item → Gathers parts whole rest old more
  Gathers-next {parts} {left = left} {rest = rest} {old = old} {item = item} sofar first put = record {
    done = sofar.done ++ item ∷ [];
    split = append_assoc sofar.done (item ∷ []) rest ∙ ap (λ l. sofar.done ++ l) (sym first) ∙ sofar.split;
    is = put ∙ ap (λ l. l ++ parts item) sofar.is ∙ append_assoc old (flat_map parts sofar.done) (parts item)
        ∙ ap (λ l. old ++ l) (sym (flat_map-append parts sofar.done (item ∷ []) ∙ ap (λ l. flat_map parts sofar.done ++ l) (append-nil (parts item))));
  }

  -- after the last
  pub Gathers-end : {parts : T → List A} {whole left : List T} {old new : List A} → Gathers parts whole left old new → left ≡ [] → new ≡ old ++ flat_map parts whole
  Gathers-end {parts} {old = old} sofar none = sofar.is ∙ ap (λ ts. old ++ flat_map parts ts) (sym (append-nil sofar.done) ∙ ap (λ l. sofar.done ++ l) (sym none) ∙ sofar.split)

pub ruleset gathers = (Gathers-start, Gathers-next, Gathers-end)
