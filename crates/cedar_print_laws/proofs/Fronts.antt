-- SPDX-License-Identifier: Apache-2.0
-- What stands at the front of a text that begins with a blank, a word, a mark or a text between quotes.
use Rattle.std.proofs.Common.{◌≡◌, ◌<◌, ◌+◌, ◌==◌, ◌||◌, ℕ, Bool, true, false, List, [], ◌∷◌, ◌++◌, length, get_or, drop, codes, refl, sym, ap, ◌∙◌, arith, append_assoc, subst, lit<, Some, length-append}
use Rattle.std.proofs.Math.Seq.{get_or-append_seam}
use Rattle.std.proofs.lemmas.Bool.{and_parts, false≢true}
use Rattle.std.proofs.lemmas.Bool.Decides.{nat_tests}
use Rattle.std.proofs.lemmas.List.{drop_at}
use Rattle.std.proofs.lemmas.List.Folds.{length-prefix_len}
use Rattle.std.proofs.lemmas.Str.{encode_ascii, encodes-append, encodes-chars, encodes_same, chars_past_char, IsUtf8-past_char, IsUtf8-drop, IsCharBoundary-after_ascii}
use Rattle.std.specs.Char.{encode_utf8, is_whitespace}
use Rattle.std.specs.List.{list_all, prefix_len, starts_with}
use Rattle.std.specs.Prelude.{IsUtf8, IsCharBoundary, chars, encode_utf8_all, slice_get, take_while, nat_eq}
use Rattle.cedar_text.specs.Escapes.{escaped}
use Rattle.cedar_text.specs.Words.{is_word, is_word_start, is_word_byte}
use Rattle.cedar_print.specs.Pieces.{quoted_text}
use Rattle.cedar_tokens.proofs.Closing.{items_closed}
use Rattle.cedar_tokens.proofs.Cuts.{mark_is_ascii, word_byte_is_ascii, word_start_is_byte}
use Rattle.cedar_tokens.specs.Literals.{closed_len}
use Rattle.cedar_tokens.specs.Pieces.{is_mark, mark_from, literal_piece, piece_at, piece_from, piece_of_first}
use Rattle.cedar_tokens.specs.declared.piece.Piece.TheVariants as piece
use Rattle.cedar_tokens.specs.declared.token.TokenKind.TheVariants as kind
use Rattle.cedar_print_laws.proofs.Literals.{escaped_items}

-- a text that begins with a byte of ASCII
module _ (c : ℕ) (rest : List ℕ) (low : c < 128) (u : IsUtf8 (c ∷ rest)) where
  by_char : c ∷ rest ≡ encode_utf8 c ++ rest
  by_char = ap (λ (l : List ℕ). l ++ rest) (sym (encode_ascii c low))

  pub behind_byte : IsUtf8 rest
  behind_byte = IsUtf8-past_char (c ∷ rest) rest c u by_char

  first_piece : piece_at (c ∷ rest) ≡ piece_from c (c ∷ rest)
  unfolding piece_at
  first_piece = ap (λ (cs : List ℕ). piece_of_first (slice_get cs 0) (c ∷ rest)) (chars_past_char (c ∷ rest) rest c u by_char)

abbrev pub is_blank : ℕ → Bool
is_blank b = (b == 32) || (b == 10)

blank_low : (c : ℕ) → is_blank c ≡ true → c < 128
blank_low c t = grind (arith, nat_tests, t)

blank_is_whitespace : (c : ℕ) → is_blank c ≡ true → is_whitespace c ≡ true
blank_is_whitespace c t = grind (arith, nat_tests, t)

-- a blank or the end of a line
pub blank_front : (c : ℕ) (rest : List ℕ) → is_blank c ≡ true → IsUtf8 (c ∷ rest) → piece_at (c ∷ rest) ≡ piece.Gap 1
blank_front c rest t u =
    let one : length (encode_utf8 c) ≡ 1 = ap length (encode_ascii c (blank_low c t)) in
    first_piece c rest (blank_low c t) u ∙ rw (blank_is_whitespace c t) (ap piece.Gap one)

-- ---- a word

start_is_no_blank : (c : ℕ) → is_word_start c ≡ true → is_whitespace c ≡ false
start_is_no_blank c t = grind (arith, nat_tests, t)

-- where the next byte fails
passes_then_stops : (p : ℕ → Bool) (xs rest : List ℕ) → list_all p xs ≡ true → p (get_or rest 0 0) ≡ false → prefix_len p (xs ++ rest) ≡ length xs
passes_then_stops p [] [] t stop = refl
passes_then_stops p [] (r ∷ rest) t stop = rw stop refl
passes_then_stops p (x ∷ xs) rest t stop =
    let parts = and_parts (p x) (list_all p xs) t in
    rw parts.0 (omega (arith, passes_then_stops p xs rest parts.1 stop))

pub word_front : (w rest : List ℕ) → is_word w ≡ true → is_word_byte (get_or rest 0 0) ≡ false → IsUtf8 (w ++ rest) → piece_at (w ++ rest) ≡ piece.Token kind.Word (length w)
word_front [] rest t stop u = absurd (false≢true t)
word_front (c ∷ w) rest t stop u =
    let parts = and_parts (is_word_start c) (list_all is_word_byte w) t in
    let byte : is_word_byte c ≡ true = word_start_is_byte c parts.0 in
    let all : list_all is_word_byte (c ∷ w) ≡ true = rw byte parts.1 in
    let len : length (take_while is_word_byte (c ∷ (w ++ rest))) ≡ length (c ∷ w) =
    length-prefix_len is_word_byte (c ∷ (w ++ rest)) ∙ passes_then_stops is_word_byte (c ∷ w) rest all stop in
    first_piece c (w ++ rest) (word_byte_is_ascii c byte) u ∙ rw (start_is_no_blank c parts.0, parts.0) (ap (piece.Token kind.Word) len)

-- ---- a mark

mark_is_no_blank : (c : ℕ) → is_mark c ≡ true → is_whitespace c ≡ false
mark_is_no_blank c t = grind (arith, nat_tests, t)

mark_is_no_start : (c : ℕ) → is_mark c ≡ true → is_word_start c ≡ false
mark_is_no_start c t = grind (arith, nat_tests, t)

mark_is_no_quote : (c : ℕ) → is_mark c ≡ true → (c == 34) ≡ false
mark_is_no_quote c t = grind (arith, nat_tests, t)

mark_is_no_slash : (c : ℕ) → is_mark c ≡ true → nat_eq 47 c ≡ false
mark_is_no_slash c t = grind (arith, nat_tests, t)

mark_piece : (c : ℕ) (rest : List ℕ) → is_mark c ≡ true → IsUtf8 (c ∷ rest) → piece_at (c ∷ rest) ≡ mark_from c (c ∷ rest)
mark_piece c rest t u =
    let slashes : starts_with nat_eq (c ∷ rest) (codes "//") ≡ false = rw (mark_is_no_slash c t) refl in
    first_piece c rest (mark_is_ascii c t) u ∙ rw (mark_is_no_blank c t, mark_is_no_start c t, mark_is_no_quote c t, slashes) refl

pub colons_front : (rest : List ℕ) → IsUtf8 (codes "::" ++ rest) → piece_at (codes "::" ++ rest) ≡ piece.Token kind.Punct 2
colons_front rest u = mark_piece 58 (58 ∷ rest) refl u

-- a mark that no colon follows where it is one
pub mark_front : (c : ℕ) (rest : List ℕ) → is_mark c ≡ true → starts_with nat_eq (c ∷ rest) (codes "::") ≡ false → IsUtf8 (c ∷ rest) → piece_at (c ∷ rest) ≡ piece.Token kind.Punct 1
mark_front c rest t alone u = mark_piece c rest t u ∙ rw (alone, t) refl

-- ---- a text between quotes

module _ (text rest : List ℕ) (u : IsUtf8 (quoted_text text ++ rest)) where
  -- behind the first quote
  inner : quoted_text text ++ rest ≡ 34 ∷ (escaped text ++ 34 ∷ rest)
  inner = ap (λ (l : List ℕ). 34 ∷ l) (append_assoc (escaped text) (codes "\"") rest)

  u_inner : IsUtf8 (escaped text ++ 34 ∷ rest)
  u_inner = behind_byte 34 (escaped text ++ 34 ∷ rest) (lit< tt) (subst IsUtf8 inner u)

  abbrev body : List ℕ
  body = (escaped_items text rest u_inner).body

  behind_text : IsUtf8 rest
  behind_text =
      let whole = escaped text ++ 34 ∷ rest in
      let at = length (escaped text) in
      let quote : get_or whole at 0 ≡ 34 = get_or-append_seam (escaped text) 34 rest 0 in
      let cut : IsCharBoundary whole (at + 1) = IsCharBoundary-after_ascii whole at u_inner (omega (arith, length-append (escaped text) (34 ∷ rest))) (omega (arith, quote)) in
      let front : whole ≡ (escaped text ++ codes "\"") ++ rest = sym (append_assoc (escaped text) (codes "\"") rest) in
      let behind : drop (at + 1) whole ≡ rest = ap (drop (at + 1)) front ∙ drop_at (escaped text ++ codes "\"") rest (at + 1) (omega (arith, length-append (escaped text) (codes "\""))) in
      subst IsUtf8 behind (IsUtf8-drop whole (at + 1) u_inner cut)

  spelled : encode_utf8_all (body ++ 34 ∷ chars rest) ≡ escaped text ++ 34 ∷ rest
  spelled =
      encodes-append body (34 ∷ chars rest)
      ∙ ap (λ (l : List ℕ). l ++ encode_utf8_all (34 ∷ chars rest)) (escaped_items text rest u_inner).are
      ∙ ap (λ (l : List ℕ). escaped text ++ (l ++ encode_utf8_all (chars rest))) (encode_ascii 34 (lit< tt))
      ∙ ap (λ (l : List ℕ). escaped text ++ 34 ∷ l) (encodes-chars rest behind_text)

  same_chars : chars (escaped text ++ 34 ∷ rest) ≡ body ++ 34 ∷ chars rest
  same_chars = encodes_same (chars (escaped text ++ 34 ∷ rest)) (body ++ 34 ∷ chars rest) (encodes-chars (escaped text ++ 34 ∷ rest) u_inner ∙ sym spelled)

  closes : closed_len 0 false (chars (escaped text ++ 34 ∷ rest)) ≡ Some (0 + length (encode_utf8_all body) + 1)
  closes = ap (closed_len 0 false) same_chars ∙ items_closed body (chars rest) 0 (escaped_items text rest u_inner).items

  pub text_front : piece_at (quoted_text text ++ rest) ≡ piece.Token kind.Str (length (quoted_text text))
  text_front =
      let len : 1 + (0 + length (encode_utf8_all body) + 1) ≡ length (quoted_text text) = omega (arith, ap length (escaped_items text rest u_inner).are, length-append (escaped text) (codes "\"")) in
      ap piece_at inner
      ∙ first_piece 34 (escaped text ++ 34 ∷ rest) (lit< tt) (subst IsUtf8 inner u)
      ∙ ap literal_piece closes
      ∙ ap (piece.Token kind.Str) len
