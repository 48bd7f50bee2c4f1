-- SPDX-License-Identifier: Apache-2.0
-- A text may be cut after its first piece.
use Rattle.std.proofs.Common.{◌≡◌, ℕ, zero, suc, ◌<◌, ◌==◌, Bool, true, false, List, [], ◌∷◌, ◌++◌, length, get_or, drop, Option, Some, None, refl, sym, ap, ◌∙◌, arith, add-one, length-append, inl, inr, subst}
use borrow.Author.Tests.{eqb-true}
use Rattle.std.specs.Prelude.{IsUtf8, IsCharBoundary, take_while, encode_utf8, if◌then◌else◌, nat_eq, ◌&&◌, codes, chars, encode_utf8_all, slice_get}
use Rattle.std.specs.List.{prefix_len, starts_with}
use Rattle.std.specs.Char.{is_whitespace}
use Rattle.std.proofs.lemmas.Str.{IsUtf8-past_char, IsCharBoundary-at_seam, IsCharBoundary-before_ascii, IsCharBoundary-end, IsCharBoundary-after_ascii, IsCharBoundary-from_rest, byte_from_char, length-encode, len_utf8_bounds, encode_ascii, encodes-chars}
use Rattle.std.proofs.lemmas.List.Sums.{prefix_len-le-length, prefix_len_passes, prefix_len_stops}
use Rattle.std.proofs.lemmas.List.Folds.{length-prefix_len}
use Rattle.std.proofs.lemmas.Bool.Decides.{nat_tests}
use Rattle.std.proofs.lemmas.Bool.{false≢true, cases_lt, and_parts}
use Rattle.cedar_text.specs.Words.{is_word_start, is_word_byte}
use Rattle.cedar_tokens.proofs.Closing.{cut_behind_literal}
use Rattle.cedar_tokens.specs.Literals.{closed_len}
use Rattle.cedar_tokens.specs.Pieces.{is_mark, is_not_line_end, mark_from, literal_piece, piece_from, piece_of_first, piece_at, CutsAt}
use Rattle.cedar_tokens.specs.declared.piece.Piece.{Piece}
use Rattle.cedar_tokens.specs.declared.piece.Piece.TheVariants as piece
use Rattle.cedar_tokens.specs.declared.token.TokenKind.TheVariants as kind

-- a text may be cut after n bytes, and something is cut off
abbrev pub Cut : List ℕ → ℕ → Type 0
Cut bs n = (0 < n) × IsCharBoundary bs n

cut_after_char : (bs rest : List ℕ) (c n : ℕ) → IsUtf8 bs → bs ≡ encode_utf8 c ++ rest → n ≡ length (encode_utf8 c) → Cut bs n
cut_after_char bs rest c n u e len = (
  omega (arith, length-encode c, (len_utf8_bounds c).0),
  subst (λ m. IsCharBoundary bs m) (sym len) (IsCharBoundary-at_seam bs (encode_utf8 c) rest e (IsUtf8-past_char bs rest c u e)),
)

pub word_byte_is_ascii : (b : ℕ) → is_word_byte b ≡ true → b < 128
word_byte_is_ascii b e = grind (arith, nat_tests, e)

pub word_start_is_byte : (c : ℕ) → is_word_start c ≡ true → is_word_byte c ≡ true
word_start_is_byte c e = grind (arith, nat_tests, e)

pub mark_is_ascii : (c : ℕ) → is_mark c ≡ true → c < 128
mark_is_ascii c e = grind (arith, nat_tests, e)

line_end_is_ascii : (b : ℕ) → is_not_line_end b ≡ false → b < 128
line_end_is_ascii b e = grind (arith, nat_tests, e)

-- a front of bytes that pass a test, of which the first does
passing_some : (p : ℕ → Bool) (bs : List ℕ) → 0 < length bs → p (get_or bs 0 0) ≡ true → 0 < length (take_while p bs)
passing_some p bs some first = elim (cases_lt 0 (prefix_len p bs)) [
  | inl h ↦ omega (arith, h, length-prefix_len p bs)
  | inr h ↦
      let none : prefix_len p bs ≡ 0 = omega (arith, h) in
      let stops = prefix_len_stops p bs 0 (rw none some) in
      let here : p (get_or bs 0 0) ≡ false = rw none at stops in
      absurd (false≢true (sym here ∙ first))
]

-- it may be cut behind such a front where only bytes of ASCII pass
cut_behind_passing : (p : ℕ → Bool) (bs : List ℕ) → IsUtf8 bs → ((b : ℕ) → p b ≡ true → b < 128) → (n : ℕ) → n ≡ prefix_len p bs → 0 < n → IsCharBoundary bs n
cut_behind_passing p bs u ascii zero is some = absurd (omega (arith, some))
cut_behind_passing p bs u ascii (suc n) is some =
    rw add-one at (IsCharBoundary-after_ascii bs n u (omega (arith, is, prefix_len-le-length p bs)) (ascii (get_or bs n 0) (prefix_len_passes p bs n 0 (omega (arith, is)))))

-- and where only bytes of ASCII fail
cut_before_failing : (p : ℕ → Bool) (bs : List ℕ) → ((b : ℕ) → p b ≡ false → b < 128) → IsCharBoundary bs (prefix_len p bs)
cut_before_failing p bs ascii = elim (cases_lt (prefix_len p bs) (length bs)) [
  | inl h ↦ IsCharBoundary-before_ascii bs (prefix_len p bs) h (ascii (get_or bs (prefix_len p bs) 0) (prefix_len_stops p bs 0 h))
  | inr h ↦
      let all : length bs ≡ prefix_len p bs = omega (arith, h, prefix_len-le-length p bs) in
      subst (λ m. IsCharBoundary bs m) all (IsCharBoundary-end bs)
]

-- a text that begins with two bytes of ASCII that are the same
pub record Twice (b : ℕ) (bs : List ℕ) : Type 0 where
  pub two : 1 < length bs
  pub first : get_or bs 0 0 ≡ b
  pub second : get_or bs 1 0 ≡ b

starts_twice : (b : ℕ) (bs : List ℕ) → starts_with nat_eq bs (b ∷ b ∷ []) ≡ true → Twice b bs
starts_twice b [] e = absurd (false≢true e)
starts_twice b (x ∷ []) e = absurd (false≢true (and_parts (nat_eq b x) false e).1)
starts_twice b (x ∷ y ∷ bs) e =
    let parts = and_parts (nat_eq b x) (nat_eq b y && true) e in
    record { two = omega arith; first = sym (eqb-true b x parts.0); second = sym (eqb-true b y (and_parts (nat_eq b y) true parts.1).0) }

module _ (bs rest : List ℕ) (c : ℕ) (u : IsUtf8 bs) (e : bs ≡ encode_utf8 c ++ rest) where
  pub some_bytes : 0 < length bs
  some_bytes = omega (arith, ap length e, length-append (encode_utf8 c) rest, length-encode c, (len_utf8_bounds c).0)

  at_blank : CutsAt (piece.Gap (length (encode_utf8 c))) bs
  at_blank = cut_after_char bs rest c (length (encode_utf8 c)) u e refl

  at_mark : is_mark c ≡ true → CutsAt (piece.Token kind.Punct 1) bs
  at_mark t = cut_after_char bs rest c 1 u e (sym (ap length (encode_ascii c (mark_is_ascii c t))))

  at_word : is_word_start c ≡ true → CutsAt (piece.Token kind.Word (length (take_while is_word_byte bs))) bs
  at_word t =
      let first : get_or bs 0 0 ≡ c = byte_from_char bs rest c e (word_byte_is_ascii c (word_start_is_byte c t)) in
      let some = passing_some is_word_byte bs some_bytes (ap is_word_byte first ∙ word_start_is_byte c t) in
      (some, cut_behind_passing is_word_byte bs u word_byte_is_ascii (length (take_while is_word_byte bs)) (length-prefix_len is_word_byte bs) some)

  at_literal : (c == 34) ≡ true → (o : Option ℕ) → closed_len 0 false (chars (drop 1 bs)) ≡ o → CutsAt (literal_piece o) bs
  at_literal t None is = tt
  at_literal t (Some n) is =
      let quote : c ≡ 34 = eqb-true c 34 t in
      let behind : drop 1 bs ≡ rest = ap (drop 1) e ∙ ap (λ x. drop 1 (x ++ rest)) (encode_ascii c (omega (arith, quote))) in
      let cut = cut_behind_literal (drop 1 bs) n (subst IsUtf8 (sym behind) (IsUtf8-past_char bs rest c u e)) is in
      (omega arith, IsCharBoundary-from_rest bs 1 n (omega (arith, some_bytes)) cut)

  at_comment : starts_with nat_eq bs (codes "//") ≡ true → CutsAt (piece.Gap (length (take_while is_not_line_end bs))) bs
  at_comment t = (
    passing_some is_not_line_end bs some_bytes (ap is_not_line_end (starts_twice 47 bs t).first),
    subst (λ m. IsCharBoundary bs m) (sym (length-prefix_len is_not_line_end bs)) (cut_before_failing is_not_line_end bs line_end_is_ascii),
  )

  at_colons : starts_with nat_eq bs (codes "::") ≡ true → CutsAt (piece.Token kind.Punct 2) bs
  at_colons t =
      let twice = starts_twice 58 bs t in
      (omega arith, IsCharBoundary-after_ascii bs 1 u twice.two (omega (arith, twice.second)))

  by_test : (t : Bool) (p q : Piece) → (t ≡ true → CutsAt p bs) → CutsAt q bs → CutsAt (if t then p else q) bs
  by_test true p q f g = f refl
  by_test false p q f g = g

  pub piece_from_cuts : CutsAt (piece_from c bs) bs
  piece_from_cuts =
      by_test (is_whitespace c) _ _ (λ _. at_blank)
      (by_test (is_word_start c) _ _ at_word
      (by_test (c == 34) _ _ (λ t. at_literal t (closed_len 0 false (chars (drop 1 bs))) refl)
      (by_test (starts_with nat_eq bs (codes "//")) _ (mark_from c bs) at_comment
      (by_test (starts_with nat_eq bs (codes "::")) _ _ at_colons
      (by_test (is_mark c) _ _ at_mark tt)))))

first_cuts : (bs cs : List ℕ) → IsUtf8 bs → chars bs ≡ cs → encode_utf8_all cs ≡ bs → CutsAt (piece_of_first (slice_get cs 0) bs) bs
first_cuts bs [] u is e = tt
first_cuts bs (c ∷ cs) u is e = piece_from_cuts bs (encode_utf8_all cs) c u (sym e)

-- what stands at the front of a text may be cut off
pub piece_cuts : (bs : List ℕ) → IsUtf8 bs → CutsAt (piece_at bs) bs
unfolding piece_at
piece_cuts bs u = first_cuts bs (chars bs) u refl (encodes-chars bs u)
