-- SPDX-License-Identifier: Apache-2.0
use Rattle.std.specs.Prelude.{ℕ, false, ◌==◌, if◌then◌else◌, List, [], ◌∷◌, ◌++◌, codes, encode_utf8}
use Rattle.std.specs.Char.{is_ascii_control}
use Rattle.std.specs.Fmt.{digits}
use Rattle.std.specs.List.{flat_map}

-- a backslash and a sign
abbrev pub backslashed : ℕ → List ℕ
backslashed sign = 92 ∷ sign ∷ []

-- a byte as it stands in quoted text: a sign with a backslash, or by its number where it is another control character
abbrev pub escaped_byte : ℕ → List ℕ
escaped_byte b =
    if b == 0 then codes "\\0" else (if b == 9 then codes "\\t" else (if b == 10 then codes "\\n" else (if b == 13 then codes "\\r"
    else (if b == 34 then codes "\\\"" else (if b == 39 then codes "\\'" else (if b == 92 then codes "\\\\"
    else (if is_ascii_control b then codes "\\u{" ++ digits 16 false b ++ codes "}" else b ∷ [])))))))

-- a text as it stands in quoted text
abbrev pub escaped : List ℕ → List ℕ
escaped bs = flat_map escaped_byte bs

-- a character as it stands in quoted text
abbrev pub escaped_char : ℕ → List ℕ
escaped_char c = escaped (encode_utf8 c)
