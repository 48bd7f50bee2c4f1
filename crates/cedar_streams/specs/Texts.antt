-- SPDX-License-Identifier: Apache-2.0
-- Texts that are written one after another.
use Rattle.std.specs.Prelude.{ℕ, List, [], ◌∷◌, ◌++◌, flat_map}

infixr 5 ◌+++◌
-- one text and then another. It is `++`, which proofs see through only where they say so: so a text keeps its parts
unfoldable pub ◌+++◌ : List ℕ → List ℕ → List ℕ
first +++ second = first ++ second

-- the texts with the separator between them
abbrev pub joined : List ℕ → List (List ℕ) → List ℕ
joined separator [] = []
joined separator (text ∷ texts) = text ++ flat_map (λ next. separator ++ next) texts
