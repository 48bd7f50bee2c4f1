-- SPDX-License-Identifier: Apache-2.0
-- Several keys with one value.
use Rattle.std.proofs.Common.{◌≡◌, List, [], ◌∷◌, ◌++◌, map, refl, sym, ap, ◌∙◌, append_assoc}
use Rattle.std.proofs.lemmas.List.{append-nil}
use Rattle.cedar_text.proofs.Members.{map-append}

module _ {K V : Type 0} where
  -- one key
  pub put-one : (head : K) (others : List K) (value : V) (old made : List (K × V)) → others ≡ [] → made ≡ old ++ (head, value) ∷ [] → made ≡ old ++ map (λ key. (key, value)) (head ∷ others)
  put-one head others value old made none put = put ∙ ap (λ l. old ++ (head, value) ∷ map (λ key. (key, value)) l) (sym none)

  -- without keys
  pub put-none : (keys : List K) (value : V) (made : List (K × V)) → keys ≡ [] → made ≡ made ++ map (λ key. (key, value)) keys
  put-none keys value made none = sym (append-nil made) ∙ ap (λ l. made ++ map (λ key. (key, value)) l) (sym none)

  -- with the last
  pub put-last : (keys rest left : List K) (last : K) (value : V) (old most made : List (K × V)) → keys ≡ rest ++ last ∷ [] → left ≡ [] → most ++ map (λ key. (key, value)) left ≡ old ++ map (λ key. (key, value)) rest
      → made ≡ most ++ (last, value) ∷ [] → made ≡ old ++ map (λ key. (key, value)) keys
  put-last keys rest left last value old most made split none so_far put =
      let pair : K → K × V = λ key. (key, value) in
      put ∙ ap (λ l. l ++ (last, value) ∷ []) (sym (append-nil most) ∙ ap (λ l. most ++ map pair l) (sym none) ∙ so_far)
      ∙ append_assoc old (map pair rest) ((last, value) ∷ [])
      ∙ ap (λ l. old ++ l) (sym (map-append pair rest (last ∷ [])))
      ∙ ap (λ l. old ++ map pair l) (sym split)

pub ruleset putting = (put-one, put-none, put-last)

-- keys with one value, seen through functions
module _ {K V J W : Type 0} (f : K → J) (g : V → W) where
  abbrev see : K × V → J × W
  see e = (f e.0, g e.1)

  abbrev with_content : W → J → J × W
  with_content content n = (n, content)

  abbrev with_value : V → K → K × V
  with_value value key = (key, value)

  seen_keys : (value : V) (keys : List K) → map see (map (with_value value) keys) ≡ map (with_content (g value)) (map f keys)
  seen_keys value [] = refl
  seen_keys value (key ∷ keys) = ap (λ l. (f key, g value) ∷ l) (seen_keys value keys)

  pub seen-each : (keys : List K) (value : V) (old made : List (K × V)) (words : List J) (content : W) → made ≡ old ++ map (λ key. (key, value)) keys → map f keys ≡ words → g value ≡ content
      → map {B = J × W} (λ e. (f e.0, g e.1)) made ≡ map {B = J × W} (λ e. (f e.0, g e.1)) old ++ map {B = J × W} (λ n. (n, content)) words
  seen-each keys value old made words content put named is =
      ap (map see) put ∙ map-append see old (map (with_value value) keys)
      ∙ ap (λ l. map see old ++ l) (seen_keys value keys)
      ∙ (λ i. map see old ++ map (with_content (is i)) (named i))
