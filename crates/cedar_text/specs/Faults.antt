-- SPDX-License-Identifier: Apache-2.0
use Rattle.std.specs.Prelude.{ℕ, ◌+◌, Bool, false, ◌||◌, if◌then◌else◌, List, [], ◌∷◌, length, drop, nat_eq, slice_get, codes, encode_utf8, Option, Some, None, take_while}
use Rattle.std.specs.List.{starts_with}
use Rattle.std.specs.Str.{chars}
use Rattle.cedar_text.specs.Words.{is_word_start, is_word_byte, is_word, is_reserved_word, is_cedar}
use Rattle.cedar_text.specs.declared.fault.NameFault.{NameFault}
use Rattle.cedar_text.specs.declared.fault.NameFault.TheVariants.{Empty, BadToken, Reserved}

-- the bytes of a character, if there is one
abbrev pub char_bytes : Option ℕ → List ℕ
char_bytes None = []
char_bytes (Some c) = encode_utf8 c

-- the token at the front of a text: `::` where two colons stand there, else its first character
abbrev pub token_at : List ℕ → List ℕ
token_at bs = if starts_with nat_eq bs (codes "::") then codes "::" else char_bytes (slice_get (chars bs) 0)

-- the length of the longest word at the front of a text; 0 where none begins
abbrev pub word_len : List ℕ → ℕ
word_len [] = 0
word_len (b ∷ bs) = if is_word_start b then 1 + length (take_while is_word_byte bs) else 0

-- the fault that the text goes on otherwise than it may at this place
abbrev pub bad_token : List ℕ → ℕ → NameFault
bad_token s at = BadToken at (token_at (drop at s))

-- what is wrong with the form of a text that has to be one word
abbrev pub form_fault : List ℕ → Option NameFault
form_fault [] = Some Empty
form_fault (b ∷ bs) = if is_word (b ∷ bs) then None else Some (bad_token (b ∷ bs) (word_len (b ∷ bs)))

-- what is wrong with the word, where some words are excluded
abbrev pub exclusion_fault : (List ℕ → Bool) → List ℕ → Option NameFault
exclusion_fault excluded w = if excluded w then Some (Reserved w) else None

-- the first fault, or else the second
abbrev pub first_fault : Option NameFault → Option NameFault → Option NameFault
first_fault None other = other
first_fault (Some fault) other = Some fault

-- what is wrong with a text that has to be one word, none of those that are excluded
abbrev pub word_fault : (List ℕ → Bool) → List ℕ → Option NameFault
word_fault excluded s = first_fault (form_fault s) (exclusion_fault excluded s)

-- the words that are no identifier, those that are no unreserved identifier, and those that are no `AnyId`
abbrev pub no_id : List ℕ → Bool
no_id = is_reserved_word

abbrev pub no_unreserved_id : List ℕ → Bool
no_unreserved_id w = is_reserved_word w || is_cedar w

abbrev pub no_any_id : List ℕ → Bool
no_any_id w = false
