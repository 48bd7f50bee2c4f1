-- SPDX-License-Identifier: Apache-2.0
-- Texts with commas and `and` between them.
use Rattle.std.proofs.Common.{◌≡◌, ◌++◌, ℕ, List, [], ◌∷◌, map, codes, refl, sym, ap, ◌∙◌, append_assoc}
use Rattle.std.proofs.lemmas.List.{append-nil, map-append}
use Rattle.cedar_schema_error.specs.ListTexts.{and_last, behind_commas, behind_first}

-- the last of them split off
last_split : (texts : List (List ℕ)) (last : List ℕ) → and_last (texts ++ last ∷ []) ≡ behind_commas texts ++ codes ", and " ++ last
last_split [] last = refl
last_split (text ∷ []) last =
    let before : List ℕ = codes ", " ++ text in
    sym (ap (λ l. (l ++ codes ", and ") ++ last) (append-nil before) ∙ append_assoc before (codes ", and ") last)
last_split (text ∷ other ∷ texts) last =
    let before : List ℕ = codes ", " ++ text in
    let others : List ℕ = behind_commas (other ∷ texts) in
    ap (λ l. before ++ l) (last_split (other ∷ texts) last)
    ∙ sym (append_assoc before (others ++ codes ", and ") last) ∙ ap (λ l. l ++ last) (sym (append_assoc before others (codes ", and ")))

pub joined_last : {T : Type 0} (shown : T → List ℕ) (all front : List T) (last : T) → all ≡ front ++ last ∷ [] → (front ≡ [] → ⊥) → behind_first (map shown all) ≡ behind_commas (map shown front) ++ codes ", and " ++ shown last
joined_last shown all [] last is some = absurd (some refl)
joined_last shown all (x ∷ []) last is some = ap (λ l. behind_first (map shown l)) is ∙ last_split (shown x ∷ []) (shown last)
joined_last shown all (x ∷ y ∷ front) last is some =
    ap (λ l. behind_first (map shown l)) is ∙ ap (λ l. and_last (shown x ∷ shown y ∷ l)) (map-append shown front (last ∷ [])) ∙ last_split (shown x ∷ shown y ∷ map shown front) (shown last)
