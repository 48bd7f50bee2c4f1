-- SPDX-License-Identifier: Apache-2.0
-- The tokens of a text, and the place at which none begins.
use Rattle.std.specs.Prelude.{◌≡◌, ℕ, ◌+◌, List, [], ◌∷◌, drop}
use Rattle.cedar_tokens.specs.Pieces.{piece_at}
use Rattle.cedar_tokens.specs.declared.token.TokenKind.{TokenKind}
use Rattle.cedar_tokens.specs.declared.token.Token.{Token}
use Rattle.cedar_tokens.specs.declared.piece.Piece.TheVariants as piece

-- the text that begins at this place is blanks, comments and these tokens
pub data LexesFrom : ℕ → List ℕ → List Token → Type 0 where
  ended : {at : ℕ} {bs : List ℕ} → piece_at bs ≡ piece.End → LexesFrom at bs []
  passed : {at n : ℕ} {bs : List ℕ} {ts : List Token} → piece_at bs ≡ piece.Gap n → LexesFrom (at + n) (drop n bs) ts → LexesFrom at bs ts
  taken : {at n : ℕ} {k : TokenKind} {bs : List ℕ} {ts : List Token} → piece_at bs ≡ piece.Token k n → LexesFrom (at + n) (drop n bs) ts
      → LexesFrom at bs (record { kind = k; start = at; end = at + n } ∷ ts)

-- the text that begins at this place is blanks, comments and tokens up to a last place, at which stands neither the end nor any of these
pub data StraysFrom : ℕ → List ℕ → ℕ → Type 0 where
  here : {at place : ℕ} {bs : List ℕ} → piece_at bs ≡ piece.Stray → place ≡ at → StraysFrom at bs place
  past : {at n place : ℕ} {bs : List ℕ} → piece_at bs ≡ piece.Gap n → StraysFrom (at + n) (drop n bs) place → StraysFrom at bs place
  beyond : {at n place : ℕ} {k : TokenKind} {bs : List ℕ} → piece_at bs ≡ piece.Token k n → StraysFrom (at + n) (drop n bs) place → StraysFrom at bs place

-- the whole text is blanks, comments and these tokens
abbrev pub Lexes : List ℕ → List Token → Type 0
Lexes text ts = LexesFrom 0 text ts

-- no token begins at this place of the text, which is reached from its front
abbrev pub NoTokenAt : List ℕ → ℕ → Type 0
NoTokenAt text place = StraysFrom 0 text place
