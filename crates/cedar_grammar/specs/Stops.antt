-- SPDX-License-Identifier: Apache-2.0
-- Where tokens stop being a schema.
use Rattle.std.specs.Prelude.{◌≡◌, ℕ, zero, suc, List, [], ◌∷◌, ◌++◌, length, Result, Ok, Err}
use Rattle.cedar_tokens.specs.Lexemes.{TextToken}
use Rattle.cedar_grammar.specs.Grammar.{Reads, Viable}
use Rattle.cedar_tree.specs.Trees.{Schema}

-- t is the first token that can't follow the tokens before it, whatever comes after it
pub record IsFirstStray (ts front : List TextToken) (t : TextToken) (rest : List TextToken) : Type 0 where
  pub is : ts ≡ front ++ t ∷ rest
  pub before : Viable front
  pub here : Viable (front ++ t ∷ []) → ⊥

-- the tokens are the beginning of a schema, and no schema
pub record EndsEarly (ts : List TextToken) : Type 0 where
  pub viable : Viable ts
  pub unread : (s : Schema) → Reads ts s → ⊥

-- what a reader of all tokens finds: the schema that they are, where none is left; that they end early, where the fault is at their end; or that a token strays, before which the others stand
abbrev pub Finds : List TextToken → Result (Schema × List TextToken) ℕ → Type 0
Finds ts (Ok p) = Reads ts p.0 × (p.1 ≡ [])
Finds ts (Err zero) = EndsEarly ts
Finds ts (Err (suc n)) = (front : List TextToken) × (t : TextToken) × (rest : List TextToken) × IsFirstStray ts front t rest × (length rest ≡ n)
