-- SPDX-License-Identifier: Apache-2.0
-- Where the tokens of a text stand in it.
use Rattle.std.proofs.Common.{◌≡◌, ℕ, zero, suc, ◌+◌, ◌<◌, ◌≤◌, inl, inr, List, [], ◌∷◌, length, drop, sym, ap, subst, ◌∙◌, arith, refl}
use Rattle.std.proofs.lemmas.List.{length-drop, drop-drop}
use Rattle.std.proofs.lemmas.List.Elements.{All-nil, All-cons}
use Rattle.std.proofs.lemmas.Str.{chars-nil, IsUtf8-drop, IsCharBoundary-from_drop}
use Rattle.std.specs.Prelude.{◌⊎◌, slice_get, All, IsUtf8, IsCharBoundary}
use Rattle.cedar_tokens.specs.Pieces.{piece_at, piece_of_first, CutsAt}
use Rattle.cedar_tokens.specs.Lexing.{LexesFrom, ended, passed, taken, StraysFrom, here, past, beyond, Lexes, NoTokenAt}
use Rattle.cedar_tokens.specs.Standing.{StandsIn, InOrder, ArePlaced, IsPlaceIn}
use Rattle.cedar_tokens.specs.declared.token.Token.{Token}
use Rattle.cedar_tokens.specs.declared.token.TokenKind.{TokenKind}
use Rattle.cedar_tokens.specs.declared.piece.Piece.{Piece}
use Rattle.cedar_tokens.specs.declared.piece.Piece.TheVariants as piece
use Rattle.cedar_tokens.proofs.Cuts.{Cut, piece_cuts}
use Rattle.cedar_tokens.proofs.Lexed.{token_at}

-- the text from a place on, which ends where the text does
pub record At (text : List ℕ) (at : ℕ) (rest : List ℕ) : Type 0 where
  pub within : at ≤ length text
  pub is : rest ≡ drop at text
  pub utf8 : IsUtf8 rest

pub at_next : (text : List ℕ) (at : ℕ) (rest : List ℕ) (n : ℕ) → At text at rest → Cut rest n → At text (at + n) (drop n rest)
at_next text at rest n w cut = record {
  within = omega (arith, w.within, cut.1.0, ap length w.is, length-drop at text);
  is = ap (drop n) w.is ∙ drop-drop n at text;
  utf8 = IsUtf8-drop rest n w.utf8 cut.1;
}

boundary_at : (text : List ℕ) (at : ℕ) (rest : List ℕ) → At text at rest → IsCharBoundary text at
boundary_at text at rest w = IsCharBoundary-from_drop text at w.within (subst IsUtf8 w.is w.utf8)

stands : (text : List ℕ) (at : ℕ) (rest : List ℕ) (k : TokenKind) (n : ℕ) → At text at rest → Cut rest n → StandsIn text (token_at k at n)
stands text at rest k n w cut =
    let next = at_next text at rest n w cut in
    record { some = omega (arith, cut.0); within = next.within; starts = boundary_at text at rest w; ends = boundary_at text (at + n) (drop n rest) next }

pub cut_of : (rest : List ℕ) (n : ℕ) → IsUtf8 rest → piece_at rest ≡ piece.Gap n → Cut rest n
cut_of rest n u e = subst (λ p. CutsAt p rest) e (piece_cuts rest u)

pub cut_of_token : (rest : List ℕ) (k : TokenKind) (n : ℕ) → IsUtf8 rest → piece_at rest ≡ piece.Token k n → Cut rest n
cut_of_token rest k n u e = subst (λ p. CutsAt p rest) e (piece_cuts rest u)

stand_all : (text : List ℕ) (at : ℕ) (rest : List ℕ) (ts : List Token) → At text at rest → LexesFrom at rest ts → All (StandsIn text) ts
stand_all text at rest _ w (ended e) = All-nil (StandsIn text)
stand_all text at rest ts w (passed {n = n} e h) = stand_all text (at + n) (drop n rest) ts (at_next text at rest n w (cut_of rest n w.utf8 e)) h
stand_all text at rest _ w (taken {n = n} {k = k} {ts = ts} e h) =
    let cut = cut_of_token rest k n w.utf8 e in
    All-cons (StandsIn text) (token_at k at n) ts (stands text at rest k n w cut) (stand_all text (at + n) (drop n rest) ts (at_next text at rest n w cut) h)

from_earlier : (from at : ℕ) (ts : List Token) → from ≤ at → InOrder at ts → InOrder from ts
from_earlier from at [] le h = tt
from_earlier from at (t ∷ ts) le h = (omega (arith, le, h.0), h.1)

in_order : (at : ℕ) (rest : List ℕ) (ts : List Token) → LexesFrom at rest ts → InOrder at ts
in_order at rest _ (ended e) = tt
in_order at rest ts (passed {n = n} e h) = from_earlier at (at + n) ts (omega arith) (in_order (at + n) (drop n rest) ts h)
in_order at rest _ (taken {n = n} {k = k} {ts = ts} e h) = (omega arith, in_order (at + n) (drop n rest) ts h)

-- the tokens of a text stand in it, one after another
pub placed : (text : List ℕ) (ts : List Token) → IsUtf8 text → Lexes text ts → ArePlaced text ts
placed text ts u h = record {
  stand = stand_all text 0 text ts (record { within = omega arith; is = refl; utf8 = u }) h;
  ordered = in_order 0 text ts h;
}

end_is_no_stray : piece_at [] ≡ piece.Stray → ⊥
unfolding piece_at
end_is_no_stray e =
    let apart : piece.End ≡ piece.Stray = ap (λ cs. piece_of_first (slice_get cs 0) []) (sym chars-nil) ∙ e in
    absurd (cc)

stray_place : (text : List ℕ) (at : ℕ) (rest : List ℕ) (place : ℕ) → At text at rest → StraysFrom at rest place → IsPlaceIn text place
stray_place text at rest place w (here e is) = rw is (record { within = by_rest rest refl e; begins = boundary_at text at rest w })
  where
    by_rest : (bs : List ℕ) → bs ≡ rest → piece_at bs ≡ piece.Stray → at < length text
    by_rest [] same stray = absurd (end_is_no_stray stray)
    by_rest (b ∷ bs) same stray = omega (arith, w.within, ap length w.is, ap length same, length-drop at text)
stray_place text at rest place w (past {n = n} e h) = stray_place text (at + n) (drop n rest) place (at_next text at rest n w (cut_of rest n w.utf8 e)) h
stray_place text at rest place w (beyond {n = n} {k = k} e h) = stray_place text (at + n) (drop n rest) place (at_next text at rest n w (cut_of_token rest k n w.utf8 e)) h

-- a character of the text begins at the place at which no token does
pub stray_placed : (text : List ℕ) (place : ℕ) → IsUtf8 text → NoTokenAt text place → IsPlaceIn text place
stray_placed text place u h = stray_place text 0 text place (record { within = omega arith; is = refl; utf8 = u }) h

-- what a text comes to from a place on: tokens, or a place at which none begins
abbrev Walked : ℕ → List ℕ → Type 0
Walked at bs = ((ts : List Token) × LexesFrom at bs ts) ⊎ ((place : ℕ) × StraysFrom at bs place)

walk_piece : (at : ℕ) (bs : List ℕ) (p : Piece) → piece_at bs ≡ p → IsUtf8 bs → CutsAt p bs
    → ((m : ℕ) → Cut bs m → Walked (at + m) (drop m bs)) → Walked at bs
walk_piece at bs piece.End e u cut go = inl ([], ended e)
walk_piece at bs piece.Stray e u cut go = inr (at, here e refl)
walk_piece at bs (piece.Gap m) e u cut go = elim (go m cut) [
  | inl w ↦ inl (w.0, passed e w.1)
  | inr w ↦ inr (w.0, past e w.1)
]
walk_piece at bs (piece.Token k m) e u cut go = elim (go m cut) [
  | inl w ↦ inl (token_at k at m ∷ w.0, taken e w.1)
  | inr w ↦ inr (w.0, beyond e w.1)
]

walk : (fuel at : ℕ) (bs : List ℕ) → length bs ≤ fuel → IsUtf8 bs → Walked at bs
walk zero at bs le u = walk_piece at bs (piece_at bs) refl u (piece_cuts bs u) (λ m cut. absurd (omega (arith, le, cut.0, cut.1.0)))
walk (suc fuel) at bs le u = walk_piece at bs (piece_at bs) refl u (piece_cuts bs u)
    (λ m cut. walk fuel (at + m) (drop m bs) (omega (arith, le, cut.0, cut.1.0, length-drop m bs)) (IsUtf8-drop bs m u cut.1))

-- each text lexes or has such a place
pub walked : (text : List ℕ) → IsUtf8 text → ((ts : List Token) × Lexes text ts) ⊎ ((place : ℕ) × NoTokenAt text place)
walked text u = walk (length text) 0 text (omega arith) u
