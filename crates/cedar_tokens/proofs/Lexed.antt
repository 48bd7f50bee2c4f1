-- SPDX-License-Identifier: Apache-2.0
-- What the tokens of a text are, from its front to its end.
use Rattle.std.proofs.Common.{◌≡◌, ℕ, ◌+◌, List, [], ◌∷◌, ◌++◌, drop, sym, ap, subst, ◌∙◌, append_assoc, refl}
use Rattle.std.proofs.lemmas.List.{append-nil}
use Rattle.cedar_tokens.specs.Pieces.{piece_at}
use Rattle.cedar_tokens.specs.Lexing.{LexesFrom, ended, passed, taken, StraysFrom, here, past, beyond}
use Rattle.cedar_tokens.specs.declared.token.Token.{Token}
use Rattle.cedar_tokens.specs.declared.token.TokenKind.{TokenKind}
use Rattle.cedar_tokens.specs.declared.piece.Piece.TheVariants as piece

abbrev pub token_at : TokenKind → ℕ → ℕ → Token
token_at k at n = record { kind = k; start = at; end = at + n }

none_at_end : (at : ℕ) (bs : List ℕ) (ts : List Token) → piece_at bs ≡ piece.End → LexesFrom at bs ts → ts ≡ []
none_at_end at bs _ e (ended f) = refl
none_at_end at bs _ e (passed f h) = absurd (cc)
none_at_end at bs _ e (taken f h) = absurd (cc)

after_gap : (at : ℕ) (bs : List ℕ) (ts : List Token) (n : ℕ) → piece_at bs ≡ piece.Gap n → LexesFrom at bs ts → LexesFrom (at + n) (drop n bs) ts
after_gap at bs _ n e (ended f) = absurd (cc)
after_gap at bs ts n e (passed {n = m} f h) = let same : m ≡ n = cc in subst (λ (i : ℕ). LexesFrom (at + i) (drop i bs) ts) same h
after_gap at bs _ n e (taken f h) = absurd (cc)

after_token : (at : ℕ) (bs : List ℕ) (ts : List Token) (k : TokenKind) (n : ℕ) → piece_at bs ≡ piece.Token k n → LexesFrom at bs ts
    → (others : List Token) × (ts ≡ token_at k at n ∷ others) × LexesFrom (at + n) (drop n bs) others
after_token at bs _ k n e (ended f) = absurd (cc)
after_token at bs _ k n e (passed f h) = absurd (cc)
after_token at bs _ k n e (taken {n = m} {k = j} {ts = us} f h) =
    let same : m ≡ n = cc in
    let kind : j ≡ k = cc in
    (us, (let p : token_at j at m ≡ token_at k at n = rw (same, kind) refl in ap (λ t. t ∷ us) p), subst (λ (i : ℕ). LexesFrom (at + i) (drop i bs) us) same h)

-- a text has one list of tokens at most
pub one_from : (at : ℕ) (bs : List ℕ) (ts us : List Token) → LexesFrom at bs ts → LexesFrom at bs us → ts ≡ us
one_from at bs _ us (ended e) h = sym (none_at_end at bs us e h)
one_from at bs ts us (passed {n = n} e g) h = one_from (at + n) (drop n bs) ts us g (after_gap at bs us n e h)
one_from at bs _ us (taken {n = n} {k = k} {ts = ts} e g) h =
    let w = after_token at bs us k n e h in
    ap (λ xs. token_at k at n ∷ xs) (one_from (at + n) (drop n bs) ts w.0 g w.2) ∙ sym w.1

pub one_list : (text : List ℕ) (one other : List Token) → LexesFrom 0 text one → LexesFrom 0 text other → one ≡ other
one_list = one_from 0

-- the place lies behind a gap, or behind a token, or here
stray_here : (at : ℕ) (bs : List ℕ) (place : ℕ) → piece_at bs ≡ piece.Stray → StraysFrom at bs place → place ≡ at
stray_here at bs place e (here f is) = is
stray_here at bs place e (past f h) = absurd (cc)
stray_here at bs place e (beyond f h) = absurd (cc)

stray_past : (at : ℕ) (bs : List ℕ) (place n : ℕ) → piece_at bs ≡ piece.Gap n → StraysFrom at bs place → StraysFrom (at + n) (drop n bs) place
stray_past at bs place n e (here f is) = absurd (cc)
stray_past at bs place n e (past {n = m} f h) = let same : m ≡ n = cc in subst (λ (i : ℕ). StraysFrom (at + i) (drop i bs) place) same h
stray_past at bs place n e (beyond f h) = absurd (cc)

stray_beyond : (at : ℕ) (bs : List ℕ) (place : ℕ) (k : TokenKind) (n : ℕ) → piece_at bs ≡ piece.Token k n → StraysFrom at bs place → StraysFrom (at + n) (drop n bs) place
stray_beyond at bs place k n e (here f is) = absurd (cc)
stray_beyond at bs place k n e (past f h) = absurd (cc)
stray_beyond at bs place k n e (beyond {n = m} f h) = let same : m ≡ n = cc in subst (λ (i : ℕ). StraysFrom (at + i) (drop i bs) place) same h

one_stray_from : (at : ℕ) (bs : List ℕ) (p q : ℕ) → StraysFrom at bs p → StraysFrom at bs q → p ≡ q
one_stray_from at bs p q (here e is) h = is ∙ sym (stray_here at bs q e h)
one_stray_from at bs p q (past {n = n} e g) h = one_stray_from (at + n) (drop n bs) p q g (stray_past at bs q n e h)
one_stray_from at bs p q (beyond {n = n} {k = k} e g) h = one_stray_from (at + n) (drop n bs) p q g (stray_beyond at bs q k n e h)

pub one_stray : (text : List ℕ) (one other : ℕ) → StraysFrom 0 text one → StraysFrom 0 text other → one ≡ other
one_stray = one_stray_from 0

not_at_end : (at : ℕ) (bs : List ℕ) (place : ℕ) → piece_at bs ≡ piece.End → StraysFrom at bs place → ⊥
not_at_end at bs place e (here f is) = absurd (cc)
not_at_end at bs place e (past f h) = absurd (cc)
not_at_end at bs place e (beyond f h) = absurd (cc)

not_both_from : (at : ℕ) (bs : List ℕ) (ts : List Token) (place : ℕ) → LexesFrom at bs ts → StraysFrom at bs place → ⊥
not_both_from at bs _ place (ended e) h = not_at_end at bs place e h
not_both_from at bs ts place (passed {n = n} e g) h = not_both_from (at + n) (drop n bs) ts place g (stray_past at bs place n e h)
not_both_from at bs _ place (taken {n = n} {k = k} {ts = ts} e g) h = not_both_from (at + n) (drop n bs) ts place g (stray_beyond at bs place k n e h)

-- a text that lexes has no such place
pub not_both : (text : List ℕ) (ts : List Token) (place : ℕ) → LexesFrom 0 text ts → StraysFrom 0 text place → ⊥
not_both = not_both_from 0

-- up to the rest, at this place, the text has the tokens that were found: what the rest comes to completes them
pub record Reached (text : List ℕ) (at : ℕ) (rest : List ℕ) (found : List Token) : Type 0 where
  pub lexes : (others : List Token) → LexesFrom at rest others → LexesFrom 0 text (found ++ others)
  pub strays : (place : ℕ) → StraysFrom at rest place → StraysFrom 0 text place

pub reached_start : (text : List ℕ) → Reached text 0 text []
reached_start text = record { lexes = λ others h. h; strays = λ place h. h }

pub reached_gap : (text : List ℕ) (at : ℕ) (rest : List ℕ) (found : List Token) (n : ℕ) → Reached text at rest found → piece_at rest ≡ piece.Gap n
    → Reached text (at + n) (drop n rest) found
reached_gap text at rest found n r e = record { lexes = λ others h. r.lexes others (passed e h); strays = λ place h. r.strays place (past e h) }

pub reached_token : (text : List ℕ) (at : ℕ) (rest : List ℕ) (found : List Token) (k : TokenKind) (n : ℕ) → Reached text at rest found → piece_at rest ≡ piece.Token k n
    → Reached text (at + n) (drop n rest) (found ++ token_at k at n ∷ [])
reached_token text at rest found k n r e = record {
  lexes = λ others h. rw append_assoc (r.lexes (token_at k at n ∷ others) (taken e h));
  strays = λ place h. r.strays place (beyond e h);
}

pub reached_end : (text : List ℕ) (at : ℕ) (rest : List ℕ) (found : List Token) → Reached text at rest found → piece_at rest ≡ piece.End → LexesFrom 0 text found
reached_end text at rest found r e = subst (λ ts. LexesFrom 0 text ts) (append-nil found) (r.lexes [] (ended e))

pub reached_stray : (text : List ℕ) (at : ℕ) (rest : List ℕ) (found : List Token) → Reached text at rest found → piece_at rest ≡ piece.Stray → StraysFrom 0 text at
reached_stray text at rest found r e = r.strays at (here e refl)
