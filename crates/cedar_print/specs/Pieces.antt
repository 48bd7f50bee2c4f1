-- SPDX-License-Identifier: Apache-2.0
-- Printed text as a list of tokens with blanks between them.
use Rattle.std.specs.Prelude.{ℕ, Bool, true, false, List, [], ◌∷◌, ◌++◌, Option, Some, codes}
use Rattle.std.specs.Fmt.{◌++?◌}
use Rattle.std.specs.List.{flat_map}
use Rattle.cedar_names.specs.Escapes.{escaped}

-- a word, a mark, a text that is quoted, a name that shows itself, or blanks
pub data Piece (N : Type 0) : Type 0 where
  word : List ℕ → Piece N
  mark : List ℕ → Piece N
  quoted : List ℕ → Piece N
  name : N → Piece N
  blank : List ℕ → Piece N

-- the pieces of a printed text, in order
abbrev pub Pieces : Type 0 → Type 0
Pieces N = List (Piece N)

-- a text between quotes
abbrev pub quoted_text : List ℕ → List ℕ
quoted_text text = codes "\"" ++ (escaped text ++ codes "\"")

-- one blank, and the end of a line
abbrev pub space : {N : Type 0} → Piece N
space = blank (codes " ")

abbrev pub line_end : {N : Type 0} → Piece N
line_end = blank (codes "\n")

module _ {N : Type 0} (shown : N → Option (List ℕ)) where
  -- the text of a piece, where names show themselves so; none where a name tells none
  abbrev pub piece_text : Piece N → Option (List ℕ)
  piece_text (word text) = Some text
  piece_text (mark text) = Some text
  piece_text (quoted text) = Some (quoted_text text)
  piece_text (name n) = shown n
  piece_text (blank text) = Some text

  -- the text of pieces, one behind another
  abbrev pub text_of : Pieces N → Option (List ℕ)
  text_of [] = Some []
  text_of (p ∷ ps) = piece_text p ++? text_of ps

-- what stands behind the first of several: each with a separator before it
abbrev pub following : {A T : Type 0} → List A → (T → List A) → List T → List A
following separator parts items = flat_map (λ item. separator ++ parts item) items

-- the parts of each item, with a separator between them
abbrev pub separated : {A T : Type 0} → List A → (T → List A) → List T → List A
separated separator parts [] = []
separated separator parts (item ∷ items) = parts item ++ following separator parts items

-- nothing before the first, and a separator before each other
abbrev pub unless_first : {A : Type 0} → Bool → List A → List A
unless_first true separator = []
unless_first false separator = separator

-- `, ` between items
abbrev pub comma : {N : Type 0} → Pieces N
comma = mark (codes ",") ∷ space ∷ []

-- the items in brackets
abbrev pub bracketed : {N T : Type 0} → (T → Pieces N) → List T → Pieces N
bracketed parts items = mark (codes "[") ∷ (separated comma parts items ++ mark (codes "]") ∷ [])

-- a name alone
abbrev pub named : {N : Type 0} → N → Pieces N
named n = name n ∷ []

-- a quoted text alone
abbrev pub quoted_alone : {N : Type 0} → List ℕ → Pieces N
quoted_alone text = quoted text ∷ []

-- the words of a name with `::` between them
abbrev pub name_pieces : {N : Type 0} → List (List ℕ) → Pieces N
name_pieces words = separated (mark (codes "::") ∷ []) (λ w. word w ∷ []) words
