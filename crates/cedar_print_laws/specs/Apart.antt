-- SPDX-License-Identifier: Apache-2.0
-- Pieces of which no two run into each other where one stands right behind the other.
use Rattle.std.specs.Prelude.{◌≢◌, ℕ, ◌||◌, ◌==◌, IsTrue, List, [], ◌∷◌, bytes_eq, codes, if◌then◌else◌}
use Rattle.std.specs.List.{list_all}
use Rattle.cedar_text.specs.Words.{is_word}
use Rattle.cedar_print.specs.Pieces.{Pieces, word, mark, quoted, name, blank}
use Rattle.cedar_tokens.specs.Forms.{IsPunct}

-- what stands before a piece: a word, one colon, or anything else
pub data Before : Type 0 where
  a_word : Before
  a_colon : Before
  other : Before

-- a mark, as what stands before the next piece
abbrev pub behind_mark : List ℕ → Before
behind_mark text = if bytes_eq text (codes ":") then a_colon else other

-- no word stands here, and no mark may be part of another
abbrev pub WordMayStand : Before → Type 0
WordMayStand a_word = ⊥
WordMayStand a_colon = ⊥
WordMayStand other = Unit {0}

-- behind one colon stand blanks
abbrev pub MarkMayStand : Before → Type 0
MarkMayStand a_colon = ⊥
MarkMayStand _ = Unit {0}

-- one blank or more, or ends of lines
abbrev pub IsBlank : List ℕ → Type 0
IsBlank text = (text ≢ []) × IsTrue (list_all (λ b. (b == 32) || (b == 10)) text)

-- one word or more
abbrev pub AreWords : List (List ℕ) → Type 0
AreWords words = (words ≢ []) × IsTrue (list_all is_word words)

module _ {N : Type 0} (words : N → List (List ℕ)) where
  -- the pieces have the forms of tokens and blanks, and behind what stands before them none runs into the next
  abbrev pub Apart : Before → Pieces N → Type 0
  Apart before [] = Unit {0}
  Apart before (word text ∷ ps) = WordMayStand before × IsTrue (is_word text) × Apart a_word ps
  Apart before (mark text ∷ ps) = MarkMayStand before × IsPunct text × Apart (behind_mark text) ps
  Apart before (quoted text ∷ ps) = MarkMayStand before × Apart other ps
  Apart before (name n ∷ ps) = WordMayStand before × AreWords (words n) × Apart a_word ps
  Apart before (blank text ∷ ps) = IsBlank text × Apart other ps
