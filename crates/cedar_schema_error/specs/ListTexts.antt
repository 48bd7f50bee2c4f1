-- SPDX-License-Identifier: Apache-2.0
-- Texts of lists: `a`; `a and b`; `a, b, and c`; or all behind commas.
use Rattle.std.specs.Prelude.{◌++◌, ℕ, List, [], ◌∷◌, codes}
use Rattle.std.specs.List.{flat_map}

-- a noun in the singular, or in the plural where there are others
abbrev pub noun : {T : Type 0} → List ℕ → List ℕ → List T → List ℕ
noun one many [] = one
noun one many (other ∷ others) = many

-- texts, each behind a comma
abbrev pub behind_commas : List (List ℕ) → List ℕ
behind_commas texts = flat_map (λ text. codes ", " ++ text) texts

-- texts, each behind a comma, the last also behind `and`
abbrev pub and_last : List (List ℕ) → List ℕ
and_last [] = []
and_last (text ∷ []) = codes ", and " ++ text
and_last (text ∷ other ∷ others) = codes ", " ++ text ++ and_last (other ∷ others)

-- what follows the first of some texts: nothing, `and` and the second, or all others behind commas with `and` before the last
abbrev pub behind_first : List (List ℕ) → List ℕ
behind_first [] = []
behind_first (second ∷ []) = codes " and " ++ second
behind_first (second ∷ third ∷ others) = and_last (second ∷ third ∷ others)
