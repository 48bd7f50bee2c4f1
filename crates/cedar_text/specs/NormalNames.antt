-- SPDX-License-Identifier: Apache-2.0
use Rattle.std.specs.Prelude.{ℕ, zero, suc, ◌+◌, Bool, true, false, not, ◌&&◌, if◌then◌else◌, List, [], ◌∷◌, length, nat_eq, codes, Option, Some, None}
use Rattle.std.specs.List.{starts_with}
use Rattle.cedar_text.specs.Faults.{word_len, bad_token, first_fault, no_id, no_unreserved_id}
use Rattle.cedar_text.specs.Words.{is_word}
use Rattle.cedar_text.specs.declared.fault.NameFault.{NameFault}
use Rattle.cedar_text.specs.declared.fault.NameFault.TheVariants.{Empty, BadToken, Reserved}

-- a byte at the front of the first part
abbrev pub grow : ℕ → List (List ℕ) → List (List ℕ)
grow b [] = []
grow b (p ∷ ps) = (b ∷ p) ∷ ps

-- the parts of a text between `::`, from the left, behind the first bytes, which are passed over
abbrev pub parts_behind : ℕ → List ℕ → List (List ℕ)
parts_behind skipped [] = [] ∷ []
parts_behind (suc skipped) (b ∷ bs) = parts_behind skipped bs
parts_behind zero (b ∷ bs) = if starts_with nat_eq (b ∷ bs) (codes "::") then [] ∷ parts_behind 1 bs else grow b (parts_behind 0 bs)

-- the parts of a text between `::`, from the left
abbrev pub parts : List ℕ → List (List ℕ)
parts s = parts_behind 0 s

-- what is wrong with a part at this place of the text that is no word: the text ends where a word has to begin, or goes on otherwise than it may
abbrev pub part_fault : List ℕ → ℕ → List ℕ → List (List ℕ) → NameFault
part_fault s at [] [] = Empty
part_fault s at [] (q ∷ qs) = bad_token s at
part_fault s at (b ∷ bs) ps = bad_token s (at + word_len (b ∷ bs))

-- what is wrong with the first part that is no word; the parts begin at this place of the text
abbrev pub parts_fault : List ℕ → ℕ → List (List ℕ) → Option NameFault
parts_fault s at [] = None
parts_fault s at (p ∷ ps) = if is_word p then parts_fault s (at + length p + 2) ps else Some (part_fault s at p ps)

-- the first word that is excluded
abbrev pub words_fault : (List ℕ → Bool) → List (List ℕ) → Option NameFault
words_fault excluded [] = None
words_fault excluded (w ∷ ws) = if excluded w then Some (Reserved w) else words_fault excluded ws

-- what is wrong with a text that has to be words with `::` between them, none of those that are excluded
abbrev pub name_fault : (List ℕ → Bool) → List ℕ → Option NameFault
name_fault excluded s = first_fault (parts_fault s 0 (parts s)) (words_fault excluded (parts s))

-- the text is a word, none of those that are excluded
abbrev pub may_stand : (List ℕ → Bool) → List ℕ → Bool
may_stand excluded w = is_word w && not (excluded w)

-- the words that a name excludes, where `__cedar` is allowed and where it is not
abbrev pub excluded_words : Bool → List ℕ → Bool
excluded_words true = no_id
excluded_words false = no_unreserved_id

-- a text that ends where a word has to begin, and one that doesn't: what is wrong with it, and its last part that is no word
abbrev pub end_fault : Bool → Option NameFault
end_fault true = Some Empty
end_fault false = None

abbrev pub open_part : Bool → List (List ℕ)
open_part true = [] ∷ []
open_part false = []

-- the fault is that the text ends too early
abbrev pub is_empty_fault : NameFault → Bool
is_empty_fault Empty = true
is_empty_fault (BadToken at token) = false
is_empty_fault (Reserved word) = false
