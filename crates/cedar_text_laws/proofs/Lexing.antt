-- SPDX-License-Identifier: Apache-2.0
-- Each text has tokens, or a place at which none begins.
use Rattle.std.proofs.Common.{◌≡◌, ◌⊎◌, inl, inr, ℕ, zero, suc, ◌<◌, ◌+◌, List, [], ◌∷◌, drop, length, refl, arith}
use Rattle.std.proofs.lemmas.List.{length-drop}
use Rattle.std.proofs.lemmas.Str.{IsUtf8-drop}
use Rattle.std.specs.Prelude.{IsUtf8}
use Rattle.cedar_tokens.specs.Lexing.{Lexes, LexesFrom, ended, passed, taken, NoTokenAt, StraysFrom, here, past, beyond}
use Rattle.cedar_tokens.specs.Pieces.{CutsAt, piece_at}
use Rattle.cedar_tokens.specs.declared.piece.Piece.{Piece}
use Rattle.cedar_tokens.specs.declared.piece.Piece.TheVariants as piece
use Rattle.cedar_tokens.specs.declared.token.Token.{Token}
use Rattle.cedar_tokens.specs.declared.token.TokenKind.{TokenKind}
use Rattle.cedar_tokens.proofs.Cuts.{piece_cuts}

-- a text that begins here has tokens, or a place at which none begins
abbrev Judged : ℕ → List ℕ → Type 0
Judged at bs = ((ts : List Token) × LexesFrom at bs ts) ⊎ ((place : ℕ) × StraysFrom at bs place)

behind_gap : (at n : ℕ) (bs : List ℕ) → piece_at bs ≡ piece.Gap n → Judged (at + n) (drop n bs) → Judged at bs
behind_gap at n bs is (inl lexed) = inl (lexed.0, passed is lexed.1)
behind_gap at n bs is (inr none) = inr (none.0, past is none.1)

behind_token : (at n : ℕ) (k : TokenKind) (bs : List ℕ) → piece_at bs ≡ piece.Token k n → Judged (at + n) (drop n bs) → Judged at bs
behind_token at n k bs is (inl lexed) = inl (record { kind = k; start = at; end = at + n } ∷ lexed.0, taken is lexed.1)
behind_token at n k bs is (inr none) = inr (none.0, beyond is none.1)

-- by what stands at its front, where each shorter rest is judged
by_piece : (at : ℕ) (bs : List ℕ) (p : Piece) → IsUtf8 bs → piece_at bs ≡ p → CutsAt p bs
    → ((later : ℕ) (rest : List ℕ) → IsUtf8 rest → length rest < length bs → Judged later rest) → Judged at bs
by_piece at bs piece.End u is cuts shorter = inl ([], ended is)
by_piece at bs piece.Stray u is cuts shorter = inr (at, here is refl)
by_piece at bs (piece.Gap n) u is cuts shorter = behind_gap at n bs is (shorter (at + n) (drop n bs) (IsUtf8-drop bs n u cuts.1) (omega (arith, cuts.0, cuts.1.0, length-drop n bs)))
by_piece at bs (piece.Token k n) u is cuts shorter = behind_token at n k bs is (shorter (at + n) (drop n bs) (IsUtf8-drop bs n u cuts.1) (omega (arith, cuts.0, cuts.1.0, length-drop n bs)))

-- a text of fewer than so many bytes is judged
judged : (bound at : ℕ) (bs : List ℕ) → IsUtf8 bs → length bs < bound → Judged at bs
judged zero at bs u few = absurd (omega (arith, few))
judged (suc bound) at bs u few = by_piece at bs (piece_at bs) u refl (piece_cuts bs u) (λ later rest v less. judged bound later rest v (omega (arith, few, less)))

-- each text has tokens, or a place at which none begins
pub tokens_or_none : (text : List ℕ) → IsUtf8 text → ((ts : List Token) × Lexes text ts) ⊎ ((place : ℕ) × NoTokenAt text place)
tokens_or_none text u = judged (suc (length text)) 0 text u (omega arith)
