-- SPDX-License-Identifier: Apache-2.0
use Rattle.std.proofs.Common.{◌≡◌, ◌+◌, ◌*◌, ◌/◌, ◌%◌, ◌<◌, ◌==◌, ℕ, Bool, true, false, List, [], ◌∷◌, ◌++◌, codes, encode_utf8, Option, Some, Ok, refl, sym, subst, ap, ◌∙◌, arith, inl, inr}
use borrow.Author.Tests.{eqb-true}
use Rattle.std.proofs.Math.Utf8.{low_scalar}
use Rattle.std.proofs.lemmas.Bool.{cases_lt}
use Rattle.std.proofs.lemmas.Bool.Decides.{nat_tests}
use Rattle.std.proofs.lemmas.Fmt.{hex_one_digit, hex_two_digits}
use Rattle.std.proofs.lemmas.Str.{encode_ascii}
use Rattle.std.specs.Char.{is_ascii_control, is_ascii_hexdigit, digit_value}
use Rattle.std.specs.Fmt.{digits, digit_glyph}
use Rattle.cedar_text.specs.Escapes.{escaped_byte, escaped}
use Rattle.cedar_text.specs.Unescaping.{before, at_escape, unescape_from, unescaped, hex_value, meaning_of}
use Rattle.cedar_text.specs.declared.unescaping.Meaning.{Meaning}

-- an escaped byte stands for the byte, and then what follows it has its own meaning
record Undone (b : ℕ) (rest : List ℕ) (at : ℕ) : Type 0 where
  end : ℕ
  is : unescape_from 0 at (escaped_byte b ++ rest) ≡ before (b ∷ []) (unescape_from 0 end rest)

pub glyph-hex : (n : ℕ) → n < 16 → is_ascii_hexdigit (digit_glyph false n) ≡ true
glyph-hex n small = grind (arith, nat_tests, small)

glyph-value : (n : ℕ) → n < 16 → digit_value (digit_glyph false n) ≡ n
glyph-value n small = grind (arith, nat_tests, small)

pub control-low : (b : ℕ) → is_ascii_control b ≡ true → b < 128
control-low b e = grind (arith, nat_tests, e)

-- one and two hexadecimal digits in braces
meaning-one : (b high : ℕ) (rest : List ℕ) → b < 128 → is_ascii_hexdigit high ≡ true → digit_value high ≡ b → meaning_of (117 ∷ 123 ∷ high ∷ 125 ∷ rest) ≡ Some (record { meant = b; len = 4 })
meaning-one b high rest low hex value =
    let all : hex_value (high ∷ []) ≡ b = omega (arith, value) in
    let good = low_scalar b (omega (arith, low)) in
    rw (hex, all, good) refl

meaning-two : (b high low : ℕ) (rest : List ℕ) → b < 128 → is_ascii_hexdigit high ≡ true → is_ascii_hexdigit low ≡ true → digit_value high * 16 + digit_value low ≡ b
    → meaning_of (117 ∷ 123 ∷ high ∷ low ∷ 125 ∷ rest) ≡ Some (record { meant = b; len = 5 })
meaning-two b high low rest small hex hex_low value =
    let all : hex_value (high ∷ low ∷ []) ≡ b = omega (arith, value) in
    let good = low_scalar b (omega (arith, small)) in
    rw (hex, hex_low, all, good) refl

module _ (b : ℕ) (rest : List ℕ) (at : ℕ) where
  -- the byte is this sign, or another
  choose : (sign : ℕ) → Undone sign rest at → ((b == sign) ≡ false → Undone b rest at) → Undone b rest at
  choose sign here other = by_sign (b == sign) refl
    where
      by_sign : (t : Bool) → (b == sign) ≡ t → Undone b rest at
      by_sign true e = subst (λ x. Undone x rest at) (sym (eqb-true b sign e)) here
      by_sign false e = other e

  -- an escape of this meaning
  by_meaning : (tail : List ℕ) (len : ℕ) → b < 128 → meaning_of tail ≡ Some (record { meant = b; len = len })
      → unescape_from 0 at (92 ∷ tail) ≡ before (b ∷ []) (unescape_from len (at + 1) tail)
  by_meaning tail len low meant =
      ap (λ (o : Option Meaning). at_escape at o (λ n. unescape_from n (at + 1) tail)) meant ∙ ap (λ (l : List ℕ). before l (unescape_from len (at + 1) tail)) (encode_ascii b low)

  numbered : escaped_byte b ≡ codes "\\u{" ++ digits 16 false b ++ codes "}" → b < 128 → Undone b rest at
  numbered by_number low = elim (cases_lt b 16) [
    | inl one ↦ record {
      end = at + 1 + 1 + 1 + 1 + 1;
      is =
          ap (λ (l : List ℕ). unescape_from 0 at (l ++ rest)) (by_number ∙ ap (λ (l : List ℕ). codes "\\u{" ++ l ++ codes "}") (hex_one_digit false b one))
          ∙ by_meaning (117 ∷ 123 ∷ digit_glyph false b ∷ 125 ∷ rest) 4 low (meaning-one b (digit_glyph false b) rest low (glyph-hex b one) (glyph-value b one));
    }
    | inr two ↦
        let high : b / 16 < 16 = omega (arith, low) in
        let last : b % 16 < 16 = omega arith in
        let value : digit_value (digit_glyph false (b / 16)) * 16 + digit_value (digit_glyph false (b % 16)) ≡ b = omega (arith, glyph-value (b / 16) high, glyph-value (b % 16) last) in
        record {
          end = at + 1 + 1 + 1 + 1 + 1 + 1;
          is =
              ap (λ (l : List ℕ). unescape_from 0 at (l ++ rest)) (by_number ∙ ap (λ (l : List ℕ). codes "\\u{" ++ l ++ codes "}") (hex_two_digits false b two (omega (arith, low))))
              ∙ by_meaning (117 ∷ 123 ∷ digit_glyph false (b / 16) ∷ digit_glyph false (b % 16) ∷ 125 ∷ rest) 5 low
              (meaning-two b (digit_glyph false (b / 16)) (digit_glyph false (b % 16)) rest low (glyph-hex (b / 16) high) (glyph-hex (b % 16) last) value);
        }
  ]

  undone : Undone b rest at
  unfolding lib.Utf8.encode
  undone =
      choose 0 (record { end = at + 1 + 1; is = refl }) (λ nul.
      choose 9 (record { end = at + 1 + 1; is = refl }) (λ tab.
      choose 10 (record { end = at + 1 + 1; is = refl }) (λ feed.
      choose 13 (record { end = at + 1 + 1; is = refl }) (λ return.
      choose 34 (record { end = at + 1 + 1; is = refl }) (λ quote.
      choose 39 (record { end = at + 1 + 1; is = refl }) (λ apostrophe.
      choose 92 (record { end = at + 1 + 1; is = refl }) (λ backslash.
      by_control nul tab feed return quote apostrophe backslash (is_ascii_control b) refl)))))))
    where
      by_control : (b == 0) ≡ false → (b == 9) ≡ false → (b == 10) ≡ false → (b == 13) ≡ false → (b == 34) ≡ false → (b == 39) ≡ false → (b == 92) ≡ false
          → (t : Bool) → is_ascii_control b ≡ t → Undone b rest at
      by_control nul tab feed return quote apostrophe backslash true e = numbered (rw (nul, tab, feed, return, quote, apostrophe, backslash, e) refl) (control-low b e)
      by_control nul tab feed return quote apostrophe backslash false e =
          let alone : escaped_byte b ≡ b ∷ [] = rw (nul, tab, feed, return, quote, apostrophe, backslash, e) refl in
          record { end = at + 1; is = ap (λ (l : List ℕ). unescape_from 0 at (l ++ rest)) alone ∙ rw backslash refl }

unescape_from-escaped : (s : List ℕ) (at : ℕ) → unescape_from 0 at (escaped s) ≡ Ok s
unescape_from-escaped [] at = refl
unescape_from-escaped (b ∷ bs) at =
    let front = undone b (escaped bs) at in
    front.is ∙ ap (before (b ∷ [])) (unescape_from-escaped bs front.end)

-- an escaped text stands for the text
pub unescaped-escaped : (s : List ℕ) → unescaped (escaped s) ≡ Ok s
unescaped-escaped s = unescape_from-escaped s 0
