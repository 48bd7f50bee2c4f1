-- SPDX-License-Identifier: Apache-2.0
-- Laws of texts that are written one after another.
use Rattle.std.proofs.Common.{◌≡◌, List, [], ◌∷◌, ◌++◌, ℕ, refl, ap, sym, ◌∙◌, append_assoc, append-nil}
use Rattle.std.specs.List.{flat_map}
use Rattle.std.proofs.lemmas.List.Concat.{flat_map-append}
use Rattle.cedar_streams.specs.Texts.{◌+++◌, joined}

pub +++-is : (first second : List ℕ) → first +++ second ≡ first ++ second
unfolding ◌+++◌
+++-is first second = refl

pub +++_assoc : (first second third : List ℕ) → (first +++ second) +++ third ≡ first +++ (second +++ third)
unfolding ◌+++◌
+++_assoc first second third = append_assoc first second third

pub joined-single : (separator text : List ℕ) → joined separator (text ∷ []) ≡ text
joined-single separator text = append-nil text

-- one more text at the end
pub joined-push : (separator first : List ℕ) (texts : List (List ℕ)) (last : List ℕ) → joined separator (first ∷ (texts ++ last ∷ [])) ≡ joined separator (first ∷ texts) ++ (separator ++ last)
joined-push separator first texts last =
    ap (λ rest. first ++ rest) (flat_map-append (λ next. separator ++ next) texts (last ∷ []) ∙ ap (λ rest. flat_map (λ next. separator ++ next) texts ++ rest) (append-nil (separator ++ last)))
    ∙ sym (append_assoc first (flat_map (λ next. separator ++ next) texts) (separator ++ last))
