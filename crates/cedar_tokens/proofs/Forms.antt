-- SPDX-License-Identifier: Apache-2.0
-- The bytes of a token have the form of its kind.
use Rattle.std.proofs.Common.{◌≡◌, ℕ, suc, ◌+◌, ◌-◌, ◌<◌, ◌==◌, Bool, true, false, List, [], ◌∷◌, ◌++◌, length, get_or, take, drop, Option, Some, None, refl, sym, ap, ap₂, ◌∙◌, arith, inl, inr, subst}
use Rattle.std.specs.Prelude.{IsUtf8, All, take_while, encode_utf8, if◌then◌else◌, nat_eq, ◌&&◌, codes, chars, encode_utf8_all, slice_get}
use Rattle.std.specs.List.{prefix_len, starts_with, list_all}
use Rattle.std.specs.Char.{is_whitespace}
use Rattle.std.proofs.lemmas.Str.{IsUtf8-past_char, byte_from_char, encode_ascii, encodes-chars}
use Rattle.std.proofs.lemmas.List.Folds.{length-prefix_len}
use Rattle.std.proofs.lemmas.List.Elements.{All-nil, All-cons}
use Rattle.std.proofs.lemmas.Bool.{eqb-true, false≢true, and_parts}
use Rattle.cedar_text.specs.Words.{is_word, is_word_start, is_word_byte}
use Rattle.cedar_tokens.specs.Literals.{closed_len, IsLiteral}
use Rattle.cedar_tokens.specs.Pieces.{is_mark, mark_from, literal_piece, piece_from, piece_of_first, piece_at}
use Rattle.cedar_tokens.specs.Lexing.{LexesFrom, ended, passed, taken, Lexes}
use Rattle.cedar_tokens.specs.Forms.{HasForm, IsFormed}
use Rattle.cedar_tokens.specs.Standing.{own_text}
use Rattle.cedar_tokens.specs.declared.piece.Piece.{Piece}
use Rattle.cedar_tokens.specs.declared.piece.Piece.TheVariants as piece
use Rattle.cedar_tokens.specs.declared.token.Token.{Token}
use Rattle.cedar_tokens.specs.declared.token.TokenKind.{TokenKind}
use Rattle.cedar_tokens.specs.declared.token.TokenKind.TheVariants as kind
use Rattle.cedar_tokens.proofs.Closing.{literal_of}
use Rattle.cedar_tokens.proofs.Cuts.{word_start_is_byte, word_byte_is_ascii, mark_is_ascii, some_bytes}
use Rattle.cedar_tokens.proofs.Lexed.{token_at}
use Rattle.cedar_tokens.proofs.Placing.{At, at_next, cut_of, cut_of_token}

-- the front of bytes that pass a test
module _ (p : ℕ → Bool) where
  while_passes : (x : ℕ) (xs : List ℕ) → p x ≡ true → take_while p (x ∷ xs) ≡ x ∷ take_while p xs
  while_passes x xs e =
      let one : prefix_len p (x ∷ xs) ≡ suc (prefix_len p xs) = rw e (omega arith) in
      ap (λ n. take n (x ∷ xs)) one

  while_fails : (x : ℕ) (xs : List ℕ) → p x ≡ false → take_while p (x ∷ xs) ≡ []
  while_fails x xs e =
      let none : prefix_len p (x ∷ xs) ≡ 0 = rw e refl in
      ap (λ n. take n (x ∷ xs)) none

  all_pass : (xs : List ℕ) → list_all p (take_while p xs) ≡ true
  all_pass [] = refl
  all_pass (x ∷ xs) = by_first (all_pass xs) (p x) refl
    where
      by_first : list_all p (take_while p xs) ≡ true → (t : Bool) → p x ≡ t → list_all p (take_while p (x ∷ xs)) ≡ true
      by_first others true e = ap (list_all p) (while_passes x xs e) ∙ ap₂ (λ a b. a && b) e others
      by_first others false e = ap (list_all p) (while_fails x xs e)

word_front : (bs : List ℕ) → 0 < length bs → is_word_start (get_or bs 0 0) ≡ true → is_word (take_while is_word_byte bs) ≡ true
word_front [] some e = absurd (omega (arith, some))
word_front (x ∷ xs) some e =
    ap is_word (while_passes is_word_byte x xs (word_start_is_byte x e)) ∙ ap₂ (λ a b. a && b) e (all_pass is_word_byte xs)

-- the piece, where it is a token, has the form of its kind
abbrev pub Formed : Piece → List ℕ → Type 0
Formed (piece.Token k n) bs = HasForm k (take n bs)
Formed _ bs = Unit {0}

two_colons : (bs : List ℕ) → starts_with nat_eq bs (codes "::") ≡ true → take 2 bs ≡ codes "::"
two_colons [] e = absurd (false≢true e)
two_colons (x ∷ []) e = absurd (false≢true (and_parts (nat_eq 58 x) false e).1)
two_colons (x ∷ y ∷ bs) e =
    let parts = and_parts (nat_eq 58 x) (nat_eq 58 y && true) e in
    ap₂ (λ a b. a ∷ b ∷ []) (sym (eqb-true 58 x parts.0)) (sym (eqb-true 58 y (and_parts (nat_eq 58 y) true parts.1).0))

module _ (bs rest : List ℕ) (c : ℕ) (u : IsUtf8 bs) (e : bs ≡ encode_utf8 c ++ rest) where
  -- a first character of ASCII is one byte
  by_byte : c < 128 → bs ≡ c ∷ rest
  by_byte a = e ∙ ap (λ x. x ++ rest) (encode_ascii c a)

  word_formed : is_word_start c ≡ true → Formed (piece.Token kind.Word (length (take_while is_word_byte bs))) bs
  word_formed t =
      let first : get_or bs 0 0 ≡ c = byte_from_char bs rest c e (word_byte_is_ascii c (word_start_is_byte c t)) in
      ap (λ n. is_word (take n bs)) (length-prefix_len is_word_byte bs) ∙ word_front bs (some_bytes bs rest c u e) (ap is_word_start first ∙ t)

  literal_formed : (c == 34) ≡ true → (o : Option ℕ) → closed_len 0 false (chars (drop 1 bs)) ≡ o → Formed (literal_piece o) bs
  literal_formed t None is = tt
  literal_formed t (Some n) is =
      let quote : c ≡ 34 = eqb-true c 34 t in
      let whole : bs ≡ 34 ∷ rest = by_byte (omega (arith, quote)) ∙ ap (λ b. b ∷ rest) quote in
      let behind : drop 1 bs ≡ rest = ap (drop 1) whole in
      let found : closed_len 0 false (chars rest) ≡ Some n = ap (λ xs. closed_len 0 false (chars xs)) (sym behind) ∙ is in
      let front : take (1 + n) bs ≡ 34 ∷ take n rest = ap (take (1 + n)) whole ∙ ap (λ m. take m (34 ∷ rest)) (let s : 1 + n ≡ suc n = omega arith in s) in
      subst IsLiteral (sym front) (literal_of rest n (IsUtf8-past_char bs rest c u e) found)

  colons_formed : starts_with nat_eq bs (codes "::") ≡ true → Formed (piece.Token kind.Punct 2) bs
  colons_formed t = inl (two_colons bs t)

  mark_formed : is_mark c ≡ true → Formed (piece.Token kind.Punct 1) bs
  mark_formed t = inr (c, ap (take 1) (by_byte (mark_is_ascii c t)), t)

  by_test : (t : Bool) (p q : Piece) → (t ≡ true → Formed p bs) → Formed q bs → Formed (if t then p else q) bs
  by_test true p q f g = f refl
  by_test false p q f g = g

  piece_from_formed : Formed (piece_from c bs) bs
  piece_from_formed =
      by_test (is_whitespace c) _ _ (λ _. tt)
      (by_test (is_word_start c) _ _ word_formed
      (by_test (c == 34) _ _ (λ t. literal_formed t (closed_len 0 false (chars (drop 1 bs))) refl)
      (by_test (starts_with nat_eq bs (codes "//")) _ (mark_from c bs) (λ _. tt)
      (by_test (starts_with nat_eq bs (codes "::")) _ _ colons_formed
      (by_test (is_mark c) _ _ mark_formed tt)))))

first_formed : (bs cs : List ℕ) → IsUtf8 bs → encode_utf8_all cs ≡ bs → Formed (piece_of_first (slice_get cs 0) bs) bs
first_formed bs [] u e = tt
first_formed bs (c ∷ cs) u e = piece_from_formed bs (encode_utf8_all cs) c u (sym e)

pub piece_formed : (bs : List ℕ) → IsUtf8 bs → Formed (piece_at bs) bs
unfolding piece_at
piece_formed bs u = first_formed bs (chars bs) u (encodes-chars bs u)

formed_here : (text : List ℕ) (at : ℕ) (rest : List ℕ) (k : TokenKind) (n : ℕ) → At text at rest → piece_at rest ≡ piece.Token k n → IsFormed text (token_at k at n)
formed_here text at rest k n w e =
    let len : at + n - at ≡ n = omega arith in
    let own : take n rest ≡ own_text text (token_at k at n) = rw len (ap (take n) w.is) in
    subst (λ s. HasForm k s) own (subst (λ p. Formed p rest) e (piece_formed rest w.utf8))

formed_from : (text : List ℕ) (at : ℕ) (rest : List ℕ) (ts : List Token) → At text at rest → LexesFrom at rest ts → All (IsFormed text) ts
formed_from text at rest _ w (ended e) = All-nil (IsFormed text)
formed_from text at rest ts w (passed {n = n} e h) = formed_from text (at + n) (drop n rest) ts (at_next text at rest n w (cut_of rest n w.utf8 e)) h
formed_from text at rest _ w (taken {n = n} {k = k} {ts = ts} e h) =
    All-cons (IsFormed text) (token_at k at n) ts (formed_here text at rest k n w e)
    (formed_from text (at + n) (drop n rest) ts (at_next text at rest n w (cut_of_token rest k n w.utf8 e)) h)

-- each token of a text has the form of its kind
pub formed : (text : List ℕ) (ts : List Token) → IsUtf8 text → Lexes text ts → All (IsFormed text) ts
formed text ts u h = formed_from text 0 text ts (record { within = omega arith; is = refl; utf8 = u }) h
