-- SPDX-License-Identifier: Apache-2.0
-- A search by a text through the entries of a map.
use Rattle.std.proofs.Common.{◌≡◌, ℕ, true, false, nat_eq, cond, List, ◌∷◌, Some, ap, sym, ◌∙◌}
use Rattle.std.specs.Cmp.Lexicographic.{pointwise, texts_ties}
use Rattle.cedar_data.specs.Maps.{get_text}

module _ {V : Type 0} (name : List ℕ) where
  -- the first entry has the name, or the answer is that of the others
  step : (key : List ℕ) (value : V) (rest : List (List ℕ × V)) → get_text ((key, value) ∷ rest) name ≡ cond (pointwise nat_eq name key) (Some value) (get_text rest name)
  step key value rest = ap (λ b. cond b (Some value) (get_text rest name)) (sym (texts_ties name key))

  pub get_text-here : {es rest : List (List ℕ × V)} {key : List ℕ} {value : V} → es ≡ (key, value) ∷ rest → pointwise nat_eq name key ≡ true → get_text es name ≡ Some value
  get_text-here {rest = rest} {key = key} {value = value} first same =
      ap (λ l. get_text l name) first ∙ step key value rest ∙ ap (λ b. cond b (Some value) (get_text rest name)) same

  pub get_text-later : {es rest : List (List ℕ × V)} {key : List ℕ} {value : V} → es ≡ (key, value) ∷ rest → pointwise nat_eq name key ≡ false → get_text es name ≡ get_text rest name
  get_text-later {rest = rest} {key = key} {value = value} first other =
      ap (λ l. get_text l name) first ∙ step key value rest ∙ ap (λ b. cond b (Some value) (get_text rest name)) other
