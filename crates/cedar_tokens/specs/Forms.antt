-- SPDX-License-Identifier: Apache-2.0
-- The forms of the tokens, and which fronts of a text have one.
use Rattle.std.specs.Prelude.{◌≡◌, ◌⊎◌, ℕ, ◌≤◌, IsTrue, List, [], ◌∷◌, length, take, codes}
use Rattle.cedar_text.specs.Words.{is_word}
use Rattle.cedar_tokens.specs.Literals.{IsLiteral}
use Rattle.cedar_tokens.specs.Pieces.{is_mark}
use Rattle.cedar_tokens.specs.Standing.{own_text}
use Rattle.cedar_tokens.specs.declared.token.TokenKind.TheVariants as kind
use Rattle.cedar_tokens.specs.declared.token.TokenKind.{TokenKind}
use Rattle.cedar_tokens.specs.declared.token.Token.{Token}
use Rattle.cedar_tokens.specs.declared.piece.Piece.{Piece}
use Rattle.cedar_tokens.specs.declared.piece.Piece.TheVariants as piece

-- two colons, or one character that is a mark
abbrev pub IsPunct : List ℕ → Type 0
IsPunct s = (s ≡ codes "::") ⊎ ((c : ℕ) × (s ≡ c ∷ []) × IsTrue (is_mark c))

-- the bytes have the form of this kind of token
abbrev pub HasForm : TokenKind → List ℕ → Type 0
HasForm kind.Word s = IsTrue (is_word s)
HasForm kind.Str s = IsLiteral s
HasForm kind.Punct s = IsPunct s

-- the first m bytes of the text are a token of this kind
pub record IsFront (bs : List ℕ) (k : TokenKind) (m : ℕ) : Type 0 where
  pub within : m ≤ length bs
  pub form : HasForm k (take m bs)

-- a token is the longest front of the text that is one, and of nothing else is any front one
abbrev pub TellsFronts : Piece → List ℕ → Type 0
TellsFronts (piece.Token k n) bs = IsFront bs k n × ((j : TokenKind) (m : ℕ) → IsFront bs j m → m ≤ n)
TellsFronts _ bs = (j : TokenKind) (m : ℕ) → IsFront bs j m → ⊥

-- the part of the text that the token takes has the form of its kind
abbrev pub IsFormed : List ℕ → Token → Type 0
IsFormed text t = HasForm t.kind (own_text text t)
