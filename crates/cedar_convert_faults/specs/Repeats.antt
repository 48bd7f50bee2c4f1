-- SPDX-License-Identifier: Apache-2.0
-- Names that stand a second time.
use Rattle.std.specs.Prelude.{◌≡◌, ◌++◌, ℕ, Bool, true, ◌&&◌, not, List, [], ◌∷◌, cond, map, IsTrue, Option, Some, None}
use Rattle.std.specs.Str.{bytes_eq}
use Rattle.cedar_text.specs.Words.{has_word}
use Rattle.cedar_text.specs.declared.location.Loc.{Loc}
use Rattle.cedar_text.specs.declared.node.Node.{Node}
use Rattle.cedar_convert_faults.specs.declared.repeats.Repeat.{Repeat}

-- names, each at its place
abbrev pub Names : Type 0
Names = List (Node (List ℕ))

-- their words
abbrev pub words_of : Names → List (List ℕ)
words_of names = map (λ n. n.node) names

-- no word stands twice
abbrev pub are_distinct : List (List ℕ) → Bool
are_distinct [] = true
are_distinct (word ∷ words) = not (has_word words word) && are_distinct words

-- the place of the first name that is the word
abbrev pub place_of : Names → List ℕ → Option Loc
place_of [] word = None
place_of (n ∷ names) word = cond (bytes_eq n.node word) (Some n.loc) (place_of names word)

-- a name and the place of an earlier one that it repeats, where it repeats one, and else what comes later
abbrev pub repeat_or : Option Loc → Node (List ℕ) → Option Repeat → Option Repeat
repeat_or None n later = later
repeat_or (Some first) n later = Some (record { name = n.node; first = first; second = n.loc })

-- the first of these names that stood before, some others being before all
abbrev pub repeat_behind : Names → Names → Option Repeat
repeat_behind seen [] = None
repeat_behind seen (n ∷ names) = repeat_or (place_of seen n.node) n (repeat_behind (seen ++ n ∷ []) names)

-- the first name that stands a second time, with the places of the first two
abbrev pub first_repeat : Names → Option Repeat
first_repeat names = repeat_behind [] names

-- the name stands a second time and none does so before it, and the places are those of the first two
pub record IsFirstRepeat (names : Names) (r : Repeat) : Type 0 where
  pub before : Names
  pub between : Names
  pub after : Names
  pub split : names ≡ before ++ (record { node = r.name; loc = r.first } ∷ between ++ record { node = r.name; loc = r.second } ∷ after)
  pub distinct : IsTrue (are_distinct (words_of (before ++ record { node = r.name; loc = r.first } ∷ between)))

-- the first name that stands a second time; with none, no name does
abbrev pub IsFirstOrNone : Names → Option Repeat → Type 0
IsFirstOrNone names None = IsTrue (are_distinct (words_of names))
IsFirstOrNone names (Some r) = IsFirstRepeat names r
