-- SPDX-License-Identifier: Apache-2.0
-- The tokens of printed text, each as its kind and its bytes.
use Rattle.std.specs.Prelude.{ℕ, List, [], ◌∷◌, map, codes}
use Rattle.std.specs.List.{flat_map}
use Rattle.cedar_print.specs.Pieces.{Piece, Pieces, word, mark, quoted, name, blank, quoted_text}
use Rattle.cedar_tokens.specs.Standing.{own_text}
use Rattle.cedar_tokens.specs.declared.token.Token.{Token}
use Rattle.cedar_tokens.specs.declared.token.TokenKind.{TokenKind}
use Rattle.cedar_tokens.specs.declared.token.TokenKind.TheVariants as kind

-- what a token says: its kind and its bytes, wherever it stands
abbrev pub Said : Type 0
Said = TokenKind × List ℕ

abbrev pub said_word : List ℕ → Said
said_word text = (kind.Word, text)

abbrev pub said_mark : List ℕ → Said
said_mark text = (kind.Punct, text)

abbrev pub said_text : List ℕ → Said
said_text text = (kind.Str, quoted_text text)

-- a word behind `::`
abbrev pub said_behind : List ℕ → List Said
said_behind w = said_mark (codes "::") ∷ said_word w ∷ []

-- words with `::` between them
abbrev pub said_name : List (List ℕ) → List Said
said_name [] = []
said_name (w ∷ ws) = said_word w ∷ flat_map said_behind ws

module _ {N : Type 0} (words : N → List (List ℕ)) where
  -- the tokens of a piece, where names have these words
  abbrev pub said_by : Piece N → List Said
  said_by (word text) = said_word text ∷ []
  said_by (mark text) = said_mark text ∷ []
  said_by (quoted text) = said_text text ∷ []
  said_by (name n) = said_name (words n)
  said_by (blank text) = []

  -- the tokens of pieces
  abbrev pub tokens_of : Pieces N → List Said
  tokens_of ps = flat_map said_by ps

-- what the tokens of a text say
abbrev pub says : List ℕ → List Token → List Said
says text ts = map (λ t. (t.kind, own_text text t)) ts
