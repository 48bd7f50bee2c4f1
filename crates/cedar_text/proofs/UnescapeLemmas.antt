-- SPDX-License-Identifier: Apache-2.0
use Rattle.std.proofs.Common.{◌≡◌, ◌+◌, ◌^◌, ◌<◌, ◌≤◌, ◌==◌, ℕ, zero, suc, Bool, true, false, not, cond, List, [], ◌∷◌, ◌++◌, length, take, drop, get_or, Result, Ok, Err, refl, sym, subst, ap, ap₂, ◌∙◌, encode_utf8, arith, append_assoc, length-append, length-drop, lit<, inl, inr, Option, Some, None, ◌&&◌, nat_lt, nat_le, nat_eq, codes}
use lib.Utf8.{scalar}
use borrow.Author.Tests.{eqb-true}
use Rattle.std.proofs.Math.Nat.{pow-le-pow_right}
use Rattle.std.proofs.lemmas.List.Folds.{length-prefix_len}
use Rattle.std.proofs.Math.Seq.{get_or-append_seam}
use Rattle.std.proofs.lemmas.Bool.{cases_lt}
use Rattle.std.proofs.lemmas.Bool.Decides.{nat_tests}
use Rattle.std.proofs.lemmas.List.{append-nil, get_or-drop, take_at, drop_at, nil_from_length}
use Rattle.std.proofs.lemmas.Str.{IsCharBoundary-after_ascii, IsCharBoundary-end, IsCharBoundary-before_ascii, IsUtf8-drop}
use Rattle.std.specs.Char.{is_ascii_hexdigit}
use Rattle.std.specs.Cmp.{first_so, second_so}
use Rattle.std.specs.Str.{IsUtf8, IsCharBoundary}
use Rattle.cedar_text.specs.Unescaping.{is_plain, before, at_escape, unescape_from, unescaped, sign_meaning, short_meaning, hex_value, hex_meaning, digits_meaning, braced_meaning, meaning_of}
use Rattle.cedar_text.specs.declared.unescaping.Meaning.{Meaning}
use Rattle.std.specs.List.{list_all, prefix_len, starts_with}
use Rattle.std.specs.Option.{option_map_or}

-- a number of at most five hexadecimal digits
pub five_digits : (n k : ℕ) → n < 16 ^ k → k < 6 → n < 1048576
five_digits n k below few =
    let some : zero < 16 = omega arith in
    let within : k ≤ 5 = omega arith in
    let most : 16 ^ k ≤ 16 ^ 5 = pow-le-pow_right some within in
    omega arith

-- the digits at the front are digits
all_front : (bs : List ℕ) → list_all is_ascii_hexdigit (take (prefix_len is_ascii_hexdigit bs) bs) ≡ true
all_front [] = refl
all_front (b ∷ bs) = by_digit (all_front bs) (is_ascii_hexdigit b) refl
  where
    by_digit : list_all is_ascii_hexdigit (take (prefix_len is_ascii_hexdigit bs) bs) ≡ true → (t : Bool) → is_ascii_hexdigit b ≡ t
        → list_all is_ascii_hexdigit (take (cond t (1 + prefix_len is_ascii_hexdigit bs) 0) (b ∷ bs)) ≡ true
    by_digit rest true e = let one : 1 + prefix_len is_ascii_hexdigit bs ≡ suc (prefix_len is_ascii_hexdigit bs) = omega arith in rw (one, e) rest
    by_digit rest false e = refl

pub hex_front : (bs : List ℕ) (n : ℕ) → n ≡ length (take (prefix_len is_ascii_hexdigit bs) bs) → list_all is_ascii_hexdigit (take n bs) ≡ true
hex_front bs n e = ap (λ k. list_all is_ascii_hexdigit (take k bs)) (e ∙ length-prefix_len is_ascii_hexdigit bs) ∙ all_front bs

-- ---- the bytes before a sign, as a backslash

-- the byte is another
abbrev pub is_other : ℕ → ℕ → Bool
is_other stop b = not (b == stop)

-- the bytes before the first such sign, and the text from it
pub record PlainFront (stop : ℕ) (rest : List ℕ) (n : ℕ) : Type 0 where
  pub front : List ℕ
  pub escape : List ℕ
  pub is : rest ≡ front ++ escape
  pub len : length front ≡ n
  pub plain : list_all (is_other stop) front ≡ true
  pub begins : (b : ℕ) (bs : List ℕ) → escape ≡ b ∷ bs → (b == stop) ≡ true

plain_front_len : (stop : ℕ) (bs : List ℕ) → PlainFront stop bs (prefix_len (is_other stop) bs)
plain_front_len stop [] = record { front = []; escape = []; is = refl; len = refl; plain = refl; begins = λ b bs e. cc }
plain_front_len stop (b ∷ bs) = by_byte (plain_front_len stop bs) (b == stop) refl
  where
    by_byte : PlainFront stop bs (prefix_len (is_other stop) bs) → (t : Bool) → (b == stop) ≡ t → PlainFront stop (b ∷ bs) (cond (not t) (1 + prefix_len (is_other stop) bs) 0)
    by_byte more true e = record {
      front = [];
      escape = b ∷ bs;
      is = refl;
      len = refl;
      plain = refl;
      begins = λ c cs same. let head : b ≡ c = cc in subst (λ x. (x == stop) ≡ true) head e;
    }
    by_byte more false e = record {
      front = b ∷ more.front;
      escape = more.escape;
      is = ap (λ (l : List ℕ). b ∷ l) more.is;
      len = omega (arith, more.len);
      plain = rw (e, more.plain) refl;
      begins = more.begins;
    }

pub plain_front : (stop : ℕ) (rest : List ℕ) (n : ℕ) → n ≡ length (take (prefix_len (is_other stop) rest) rest) → PlainFront stop rest n
plain_front stop rest n e = subst (PlainFront stop rest) (sym (e ∙ length-prefix_len (is_other stop) rest)) (plain_front_len stop rest)

-- a text may be cut before its first such sign, where the sign is of ASCII
pub IsCharBoundary-before_sign : (stop : ℕ) (s : List ℕ) (n : ℕ) → stop < 128 → IsUtf8 s → n ≡ length (take (prefix_len (is_other stop) s) s) → IsCharBoundary s n
IsCharBoundary-before_sign stop s n low text e = by_escape (plain_front stop s n e) _ refl
  where
    by_escape : (f : PlainFront stop s n) (l : List ℕ) → f.escape ≡ l → IsCharBoundary s n
    by_escape f [] is =
        let whole : length s ≡ n = ap length (f.is ∙ ap (λ (l : List ℕ). f.front ++ l) is ∙ append-nil f.front) ∙ f.len in
        subst (IsCharBoundary s) whole (IsCharBoundary-end s)
    by_escape f (b ∷ bs) is =
        let here : b ≡ stop = eqb-true b stop (f.begins b bs is) in
        let front_is : s ≡ f.front ++ (b ∷ bs) = f.is ∙ ap (λ (l : List ℕ). f.front ++ l) is in
        let at : get_or s n 0 ≡ b = ap (λ (l : List ℕ). get_or l n 0) front_is ∙ ap (λ k. get_or (f.front ++ b ∷ bs) k 0) (sym f.len) ∙ get_or-append_seam f.front b bs 0 in
        let within : n < length s = omega (arith, ap length front_is, length-append f.front (b ∷ bs), f.len) in
        IsCharBoundary-before_ascii s n within (omega arith)

pub IsCharBoundary-plain : (s : List ℕ) (n : ℕ) → IsUtf8 s → n ≡ length (take (prefix_len is_plain s) s) → IsCharBoundary s n
IsCharBoundary-plain s n text e = IsCharBoundary-before_sign 92 s n (lit< tt) text e

-- ---- what a text stands for

before-nil : (r : Result (List ℕ) ℕ) → before [] r ≡ r
before-nil (Ok text) = refl
before-nil (Err at) = refl

before-before : (xs ys : List ℕ) (r : Result (List ℕ) ℕ) → before xs (before ys r) ≡ before (xs ++ ys) r
before-before xs ys (Ok text) = ap (λ (l : List ℕ). Ok l) (sym (append_assoc xs ys text))
before-before xs ys (Err at) = refl

-- bytes before a backslash stand for themselves
unescape-plain : (w rest : List ℕ) (at : ℕ) → list_all is_plain w ≡ true → unescape_from 0 at (w ++ rest) ≡ before w (unescape_from 0 (at + length w) rest)
unescape-plain [] rest at plain = let here : at ≡ at + 0 = omega arith in ap (λ k. unescape_from 0 k rest) here ∙ sym (before-nil (unescape_from 0 (at + 0) rest))
unescape-plain (b ∷ w) rest at plain =
    let this : not (b == 92) ≡ true = first_so (not (b == 92)) (list_all is_plain w) plain in
    let others : list_all is_plain w ≡ true = second_so (not (b == 92)) (list_all is_plain w) plain in
    let other : (b == 92) ≡ false = not_true (b == 92) this in
    let sum : at + 1 + length w ≡ at + length (b ∷ w) = omega arith in
    rw other (ap (before (b ∷ [])) (unescape-plain w rest (at + 1) others ∙ ap (λ k. before w (unescape_from 0 k rest)) sum) ∙ before-before (b ∷ []) w (unescape_from 0 (at + length (b ∷ w)) rest))
  where
    not_true : (t : Bool) → not t ≡ true → t ≡ false
    not_true true e = cc
    not_true false e = refl

-- bytes that are passed over
unescape-skip : (k : ℕ) (bs : List ℕ) (at : ℕ) → k ≤ length bs → unescape_from k at bs ≡ unescape_from 0 (at + k) (drop k bs)
unescape-skip zero [] at within = refl
unescape-skip (suc k) [] at within = absurd (omega arith)
unescape-skip zero (b ∷ bs) at within = let here : at ≡ at + 0 = omega arith in ap (λ n. unescape_from 0 n (b ∷ bs)) here
unescape-skip (suc k) (b ∷ bs) at within =
    let rest = unescape-skip k bs (at + 1) (omega arith) in
    let sum : at + 1 + k ≡ at + suc k = omega arith in
    rest ∙ ap (λ n. unescape_from 0 n (drop k bs)) sum

-- ---- where an escape ends

-- the last byte of so many is ASCII
pub record EndsLow (bs : List ℕ) (len : ℕ) : Type 0 where
  pub last : ℕ
  pub is : last + 1 ≡ len
  pub within : last < length bs
  pub low : get_or bs last 0 < 128

-- what a choice gave
cond-some : {X : Type 0} (t : Bool) (x y : X) → cond t (Some x) None ≡ Some y → (t ≡ true) × (x ≡ y)
cond-some true x y e = (refl, cc)
cond-some false x y e = cc

hex-low : (b : ℕ) → is_ascii_hexdigit b ≡ true → b < 128
hex-low b e = grind (arith, nat_tests, e)

hex-ends : (rest : List ℕ) (m : Meaning) → hex_meaning rest ≡ Some m → EndsLow (120 ∷ rest) m.len
hex-ends [] m e = cc
hex-ends (high ∷ []) m e = cc
hex-ends (high ∷ low ∷ rest) m e =
    let digits = is_ascii_hexdigit high && is_ascii_hexdigit low in
    let small = nat_lt (hex_value (high ∷ low ∷ [])) 128 in
    let found = cond-some (digits && small) _ m e in
    let digit : is_ascii_hexdigit low ≡ true = second_so (is_ascii_hexdigit high) (is_ascii_hexdigit low) (first_so digits small found.0) in
    record { last = 2; is = ap (λ (x : Meaning). x.len) found.1; within = omega arith; low = hex-low low digit }

closing : (bs : List ℕ) → starts_with nat_eq bs (codes "}") ≡ true → (0 < length bs) × (get_or bs 0 0 ≡ 125)
closing [] e = cc
closing (b ∷ bs) e =
    let same : nat_eq 125 b ≡ true = first_so (nat_eq 125 b) true e in
    (omega arith, sym (eqb-true 125 b same))

digits-ends : (open_brace : ℕ) (digits : List ℕ) (n : ℕ) (m : Meaning) → digits_meaning digits n ≡ Some m → EndsLow (117 ∷ open_brace ∷ digits) m.len
digits-ends open_brace digits n m e =
    let few = nat_le 1 n && nat_le n 6 in
    let closed = starts_with nat_eq (drop n digits) (codes "}") in
    let scalar_value = scalar (hex_value (take n digits)) in
    let found = cond-some (few && (closed && scalar_value)) _ m e in
    let brace = closing (drop n digits) (first_so closed scalar_value (second_so few (closed && scalar_value) found.0)) in
    let within : n < length digits = omega (arith, brace.0, length-drop n digits) in
    let here : n + 0 ≡ n = omega arith in
    let at : get_or digits n 0 ≡ 125 = ap (λ k. get_or digits k 0) (sym here) ∙ sym (get_or-drop n digits 0 0) ∙ brace.1 in
    let len : n + 3 ≡ m.len = ap (λ (x : Meaning). x.len) found.1 in
    record { last = suc (suc n); is = omega arith; within = omega arith; low = omega (arith, at) }

braced-ends : (rest : List ℕ) (m : Meaning) → braced_meaning rest ≡ Some m → EndsLow (117 ∷ rest) m.len
braced-ends [] m e = cc
braced-ends (open_brace ∷ digits) m e = by_brace (open_brace == 123) e
  where
    by_brace : (t : Bool) → cond t (digits_meaning digits (prefix_len is_ascii_hexdigit digits)) None ≡ Some m → EndsLow (117 ∷ open_brace ∷ digits) m.len
    by_brace true is = digits-ends open_brace digits (prefix_len is_ascii_hexdigit digits) m is
    by_brace false is = cc

-- no sign past ASCII is an escape
sign-high : (sign : ℕ) → 128 ≤ sign → sign_meaning sign ≡ None
sign-high sign high = grind (arith, nat_tests)

sign-low : (sign c : ℕ) → sign_meaning sign ≡ Some c → sign < 128
sign-low sign c e = elim (cases_lt sign 128) [ inl low ↦ low | inr high ↦ absurd (never (sym (sign-high sign high) ∙ e)) ]
  where
    never : None ≡ Some c → ⊥
    never is = cc

-- an escape ends with a byte of ASCII
pub meaning-ends : (bs : List ℕ) (m : Meaning) → meaning_of bs ≡ Some m → EndsLow bs m.len
meaning-ends [] m e = cc
meaning-ends (sign ∷ rest) m e = by_short (sign_meaning sign) refl e
  where
    by_braced : (t : Bool) → (sign == 117) ≡ t → cond t (braced_meaning rest) None ≡ Some m → EndsLow (sign ∷ rest) m.len
    by_braced true s is = subst (λ x. EndsLow (x ∷ rest) m.len) (sym (eqb-true sign 117 s)) (braced-ends rest m is)
    by_braced false s is = cc

    by_hex : (t : Bool) → (sign == 120) ≡ t → cond t (hex_meaning rest) (cond (sign == 117) (braced_meaning rest) None) ≡ Some m → EndsLow (sign ∷ rest) m.len
    by_hex true s is = subst (λ x. EndsLow (x ∷ rest) m.len) (sym (eqb-true sign 120 s)) (hex-ends rest m is)
    by_hex false s is = by_braced (sign == 117) refl is

    by_short : (o : Option ℕ) → sign_meaning sign ≡ o → short_meaning o (cond (sign == 120) (hex_meaning rest) (cond (sign == 117) (braced_meaning rest) None)) ≡ Some m → EndsLow (sign ∷ rest) m.len
    by_short (Some c) s is =
        let len : 1 ≡ m.len = ap (λ (o : Option Meaning). option_map_or (λ (x : Meaning). x.len) o 1) is in
        record { last = 0; is = omega arith; within = omega arith; low = sign-low sign c s }
    by_short None s is = by_hex (sign == 120) refl is

-- so a text may be cut behind it
pub IsCharBoundary-meaning : (bs : List ℕ) (m : Meaning) → IsUtf8 bs → meaning_of bs ≡ Some m → IsCharBoundary bs m.len
IsCharBoundary-meaning bs m text e =
    let ends = meaning-ends bs m e in
    subst (IsCharBoundary bs) ends.is (IsCharBoundary-after_ascii bs ends.last text ends.within ends.low)

-- ---- the way through a text

-- what the text so far stands for, and the rest of the body that begins at this place
pub record Unescaping (body : List ℕ) (at : ℕ) (rest text : List ℕ) : Type 0 where
  pub within : at + length rest ≡ length body
  pub meant : unescaped body ≡ before text (unescape_from 0 at rest)

module _ (body : List ℕ) (at : ℕ) (rest text : List ℕ) (so_far : Unescaping body at rest text) (n : ℕ) (counted : n ≡ length (take (prefix_len is_plain rest) rest))
    (front escape : List ℕ) (front_is : front ≡ take n rest) (escape_is : escape ≡ drop n rest) where
  parts : PlainFront 92 rest n
  parts = plain_front 92 rest n counted

  same_front : parts.front ≡ front
  same_front = sym (take_at parts.front parts.escape n parts.len) ∙ ap (take n) (sym parts.is) ∙ sym front_is

  same_escape : parts.escape ≡ escape
  same_escape = sym (drop_at parts.front parts.escape n parts.len) ∙ ap (drop n) (sym parts.is) ∙ sym escape_is

  past_front : unescaped body ≡ before (text ++ front) (unescape_from 0 (at + n) escape)
  past_front =
      so_far.meant ∙ ap (λ (l : List ℕ). before text (unescape_from 0 at l)) parts.is
      ∙ ap (before text) (unescape-plain parts.front parts.escape at parts.plain)
      ∙ before-before text parts.front (unescape_from 0 (at + length parts.front) parts.escape)
      ∙ ap₂ (λ (w : List ℕ) (k : ℕ). before (text ++ w) (unescape_from 0 (at + k) parts.escape)) same_front parts.len
      ∙ ap (λ (l : List ℕ). before (text ++ front) (unescape_from 0 (at + n) l)) same_escape

  -- no backslash is left
  pub Unescaping-end : length escape ≡ 0 → unescaped body ≡ Ok (text ++ front)
  Unescaping-end none =
      past_front ∙ ap (λ (l : List ℕ). before (text ++ front) (unescape_from 0 (at + n) l)) (nil_from_length escape none) ∙ ap (λ (l : List ℕ). Ok l) (append-nil (text ++ front))

  -- the text from the backslash
  pub escape-utf8 : IsUtf8 rest → IsCharBoundary rest n → IsUtf8 escape
  escape-utf8 utf8 cut = subst IsUtf8 (sym escape_is) (IsUtf8-drop rest n utf8 cut)

  module _ (some : 0 < length escape) where
    -- the escape begins with a backslash
    pub backslash : escape ≡ 92 ∷ drop 1 escape
    backslash = by_escape escape refl
      where
        by_escape : (l : List ℕ) → escape ≡ l → escape ≡ 92 ∷ drop 1 escape
        by_escape [] is = absurd (omega (arith, ap length is))
        by_escape (b ∷ bs) is =
            let first : b ≡ 92 = eqb-true b 92 (parts.begins b bs (same_escape ∙ is)) in
            is ∙ ap (λ k. k ∷ bs) first ∙ ap (λ (l : List ℕ). 92 ∷ l) (sym (ap (drop 1) is))

    -- it may be cut behind it
    pub IsCharBoundary-backslash : IsUtf8 escape → IsCharBoundary escape 1
    IsCharBoundary-backslash utf8 =
        let low : get_or escape 0 0 ≡ 92 = ap (λ (l : List ℕ). get_or l 0 0) backslash in
        IsCharBoundary-after_ascii escape 0 utf8 some (omega arith)

    -- and the text behind it
    pub behind-utf8 : IsUtf8 escape → IsUtf8 (drop 1 escape)
    behind-utf8 utf8 = IsUtf8-drop escape 1 utf8 (IsCharBoundary-backslash utf8)

    at_backslash : unescaped body ≡ before (text ++ front) (at_escape (at + n) (meaning_of (drop 1 escape)) (λ len. unescape_from len (at + n + 1) (drop 1 escape)))
    at_backslash = past_front ∙ ap (λ (l : List ℕ). before (text ++ front) (unescape_from 0 (at + n) l)) backslash

    -- a bad escape
    pub Unescaping-bad : meaning_of (drop 1 escape) ≡ None → unescaped body ≡ Err (at + n)
    Unescaping-bad bad = at_backslash ∙ rw bad refl

    -- an escape
    pub Unescaping-next : (m : Meaning) → meaning_of (drop 1 escape) ≡ Some m → m.len ≤ length (drop 1 escape)
        → Unescaping body (at + (n + 1 + m.len)) (drop m.len (drop 1 escape)) ((text ++ front) ++ encode_utf8 m.meant)
    Unescaping-next m good long =
        let sum : at + n + 1 + m.len ≡ at + (n + 1 + m.len) = omega arith in
        let size : 1 + length (drop 1 escape) ≡ length escape = omega (arith, ap length backslash) in
        let whole : n + length escape ≡ length rest = omega (arith, ap length parts.is, length-append parts.front parts.escape, parts.len, ap length same_escape) in
        record {
          within = omega (arith, so_far.within, length-drop m.len (drop 1 escape));
          meant =
              at_backslash
              ∙ ap (λ (o : Option Meaning). before (text ++ front) (at_escape (at + n) o (λ len. unescape_from len (at + n + 1) (drop 1 escape)))) good
              ∙ before-before (text ++ front) (encode_utf8 m.meant) (unescape_from m.len (at + n + 1) (drop 1 escape))
              ∙ ap (before ((text ++ front) ++ encode_utf8 m.meant)) (unescape-skip m.len (drop 1 escape) (at + n + 1) long ∙ ap (λ k. unescape_from 0 k (drop m.len (drop 1 escape))) sum);
        }
