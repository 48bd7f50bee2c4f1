-- SPDX-License-Identifier: Apache-2.0
use lib.Utf8.{scalar}
use Rattle.std.specs.Prelude.{ℕ, zero, suc, ◌+◌, ◌*◌, Bool, not, ◌&&◌, ◌==◌, nat_lt, nat_le, nat_eq, if◌then◌else◌, List, [], ◌∷◌, ◌++◌, take, drop, fold, codes, encode_utf8, Option, Some, None, Result, Ok, Err}
use Rattle.std.specs.Char.{is_ascii_hexdigit, digit_value}
use Rattle.std.specs.List.{prefix_len, starts_with}
use Rattle.cedar_text.specs.declared.unescaping.Meaning.{Meaning}

-- what a sign stands for behind a backslash, where it is an escape by itself
abbrev pub sign_meaning : ℕ → Option ℕ
sign_meaning sign =
    if sign == 110 then Some 10 else (if sign == 114 then Some 13 else (if sign == 116 then Some 9 else (if sign == 92 then Some 92
    else (if sign == 48 then Some 0 else (if sign == 39 then Some 39 else (if sign == 34 then Some 34 else None))))))

-- the number that hexadecimal digits write
abbrev pub hex_value : List ℕ → ℕ
hex_value digits = fold (λ n d. n * 16 + digit_value d) 0 digits

-- `x` and two hexadecimal digits, at most 7F
abbrev pub hex_meaning : List ℕ → Option Meaning
hex_meaning [] = None
hex_meaning (high ∷ []) = None
hex_meaning (high ∷ low ∷ rest) =
    if (is_ascii_hexdigit high && is_ascii_hexdigit low) && nat_lt (hex_value (high ∷ low ∷ [])) 128 then Some (record { meant = hex_value (high ∷ low ∷ []); len = 3 }) else None

-- so many hexadecimal digits, one to six of which name a scalar value, and a brace behind them
abbrev pub digits_meaning : List ℕ → ℕ → Option Meaning
digits_meaning digits n =
    if (nat_le 1 n && nat_le n 6) && (starts_with nat_eq (drop n digits) (codes "}") && scalar (hex_value (take n digits)))
    then Some (record { meant = hex_value (take n digits); len = n + 3 }) else None

-- `u`, and one to six hexadecimal digits in braces, which name a scalar value
abbrev pub braced_meaning : List ℕ → Option Meaning
braced_meaning [] = None
braced_meaning (open_brace ∷ digits) = if open_brace == 123 then digits_meaning digits (prefix_len is_ascii_hexdigit digits) else None

-- a sign by itself
abbrev pub short_meaning : Option ℕ → Option Meaning → Option Meaning
short_meaning None other = other
short_meaning (Some char) other = Some (record { meant = char; len = 1 })

-- the escape whose backslash stands before this text, if there is one
abbrev pub meaning_of : List ℕ → Option Meaning
meaning_of [] = None
meaning_of (sign ∷ rest) = short_meaning (sign_meaning sign) (if sign == 120 then hex_meaning rest else (if sign == 117 then braced_meaning rest else None))

-- the byte is no backslash
abbrev pub is_plain : ℕ → Bool
is_plain b = not (b == 92)

-- bytes before a text, where there is one
abbrev pub before : List ℕ → Result (List ℕ) ℕ → Result (List ℕ) ℕ
before bs (Ok text) = Ok (bs ++ text)
before bs (Err at) = Err at

-- what an escape gives at this place: a bad escape, or its character and what follows it
abbrev pub at_escape : ℕ → Option Meaning → (ℕ → Result (List ℕ) ℕ) → Result (List ℕ) ℕ
at_escape at None follows = Err at
at_escape at (Some m) follows = before (encode_utf8 m.meant) (follows m.len)

-- what a text stands for that begins at this place, behind its first bytes, which are passed over; else the place of its first bad escape
abbrev pub unescape_from : ℕ → ℕ → List ℕ → Result (List ℕ) ℕ
unescape_from skipped at [] = Ok []
unescape_from (suc skipped) at (b ∷ bs) = unescape_from skipped (at + 1) bs
unescape_from zero at (b ∷ bs) =
    if b == 92 then at_escape at (meaning_of bs) (λ len. unescape_from len (at + 1) bs) else before (b ∷ []) (unescape_from 0 (at + 1) bs)

-- what the text of a literal stands for, or the place of its first bad escape
abbrev pub unescaped : List ℕ → Result (List ℕ) ℕ
unescaped body = unescape_from 0 0 body
