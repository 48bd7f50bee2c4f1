-- SPDX-License-Identifier: Apache-2.0
-- String literals: items between two quotes, as characters.
use Rattle.std.specs.Prelude.{◌≡◌, ◌≢◌, ℕ, ◌+◌, ◌==◌, Bool, true, false, if◌then◌else◌, List, [], ◌∷◌, ◌++◌, length, codes, encode_utf8, Option, Some, None}
use Rattle.std.specs.Str.{encode_utf8_all}

-- items, one after another: any character but `"` and `\`, or `\` and a character that is no line feed
pub data AreItems : List ℕ → Type 0 where
  no_item : AreItems []
  plain_item : {c : ℕ} {cs : List ℕ} → c ≢ 34 → c ≢ 92 → AreItems cs → AreItems (c ∷ cs)
  escaped_item : {c : ℕ} {cs : List ℕ} → c ≢ 10 → AreItems cs → AreItems (92 ∷ c ∷ cs)

-- the characters begin with items and a quote, which together take n bytes
pub record Closes (cs : List ℕ) (n : ℕ) : Type 0 where
  pub body : List ℕ
  pub rest : List ℕ
  pub items : AreItems body
  pub is : cs ≡ body ++ 34 ∷ rest
  pub len : n ≡ length (encode_utf8_all body) + 1

-- the bytes of a literal: items between two quotes
pub record IsLiteral (s : List ℕ) : Type 0 where
  pub body : List ℕ
  pub items : AreItems body
  pub is : s ≡ codes "\"" ++ encode_utf8_all body ++ codes "\""

-- the same length, found by going along the characters: `len` bytes came before these, and the first of these stands behind a backslash that escapes it, or it doesn't; none where no quote closes the literal
abbrev pub closed_len : ℕ → Bool → List ℕ → Option ℕ
closed_len len escaped [] = None
closed_len len true (c ∷ cs) = if c == 10 then None else closed_len (len + length (encode_utf8 c)) false cs
closed_len len false (c ∷ cs) = if c == 34 then Some (len + 1) else closed_len (len + length (encode_utf8 c)) (c == 92) cs
