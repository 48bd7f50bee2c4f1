-- SPDX-License-Identifier: Apache-2.0
use Rattle.std.specs.Prelude.{ℕ, Bool, false, ◌||◌, ◌&&◌, ◌==◌, not, List, [], ◌∷◌, codes}
use Rattle.std.specs.Char.{is_ascii_alphabetic, is_ascii_alphanumeric}
use Rattle.std.specs.List.{list_all, list_any}
use Rattle.std.specs.Str.{bytes_eq}

-- a letter of ASCII or `_`
abbrev pub is_word_start : ℕ → Bool
is_word_start b = is_ascii_alphabetic b || b == 95

-- a letter or a digit of ASCII, or `_`
abbrev pub is_word_byte : ℕ → Bool
is_word_byte b = is_ascii_alphanumeric b || b == 95

-- a word: a letter or `_`, and then letters, digits and `_`
abbrev pub is_word : List ℕ → Bool
is_word [] = false
is_word (b ∷ bs) = is_word_start b && list_all is_word_byte bs

-- the words that are never identifiers
abbrev pub reserved_words : List (List ℕ)
reserved_words = codes "true" ∷ codes "false" ∷ codes "if" ∷ codes "then" ∷ codes "else" ∷ codes "in" ∷ codes "is" ∷ codes "like" ∷ codes "has" ∷ []

-- the text is one of the nine reserved words
abbrev pub is_reserved_word : List ℕ → Bool
is_reserved_word w = list_any (bytes_eq w) reserved_words

-- the text is the word `__cedar`
abbrev pub is_cedar : List ℕ → Bool
is_cedar w = bytes_eq w (codes "__cedar")

-- an identifier: a word that is not reserved
abbrev pub is_id : List ℕ → Bool
is_id w = is_word w && not (is_reserved_word w)

-- an identifier other than `__cedar`
abbrev pub is_unreserved_id : List ℕ → Bool
is_unreserved_id w = is_id w && not (is_cedar w)

-- the word stands in the list
abbrev pub has_word : List (List ℕ) → List ℕ → Bool
has_word ws w = list_any (bytes_eq w) ws

-- the words of the primitive types
abbrev pub primitive_words : List (List ℕ)
primitive_words = codes "Bool" ∷ codes "Long" ∷ codes "String" ∷ []

-- the word is that of a primitive type
abbrev pub is_primitive_word : List ℕ → Bool
is_primitive_word w = has_word primitive_words w
