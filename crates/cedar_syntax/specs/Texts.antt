-- SPDX-License-Identifier: Apache-2.0
-- Which texts are a schema.
use Rattle.std.specs.Prelude.{◌≡◌, ℕ, List, map}
use Rattle.cedar_tokens.specs.Lexemes.{TextToken, text_token}
use Rattle.cedar_tokens.specs.Lexing.{Lexes}
use Rattle.cedar_tokens.specs.declared.token.Token.{Token}
use Rattle.cedar_grammar.specs.Grammar.{Reads, OpensAtMost}
use Rattle.cedar_tree.specs.Trees.{Schema}
use Rattle.cedar_tree.specs.Nesting.{NestsWell}

-- the text is blanks, comments and these tokens
abbrev pub HasTokens : List ℕ → List TextToken → Type 0
HasTokens text ts = (tokens : List Token) × Lexes text tokens × (ts ≡ map (text_token text) tokens)

-- how many `{` and `<` may be open at one place of a text
abbrev pub open_at_most : ℕ
open_at_most = 130

-- the text is this schema: its tokens are, nowhere are too many brackets open, and no type nests too deep
pub record ReadsText (text : List ℕ) (s : Schema) : Type 0 where
  pub tokens : List TextToken
  pub lexed : HasTokens text tokens
  pub brackets : OpensAtMost open_at_most tokens
  pub reads : Reads tokens s
  pub nests : NestsWell s
