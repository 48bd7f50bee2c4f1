-- SPDX-License-Identifier: Apache-2.0
use Rattle.std.specs.Prelude.{ℕ, Bool, List, nat_eq}
use Rattle.std.specs.Cmp.Lexicographic.{pointwise, slice_cmp}
use Rattle.std.specs.declared.cmp.Ordering.{Ordering}
use Rattle.std.specs.Ordering.{nat_cmp}

-- the order of words by their bytes, a word before those that it begins
abbrev pub word_cmp : List ℕ → List ℕ → Ordering
word_cmp = slice_cmp nat_cmp

-- the order of component lists: the first components that differ decide, and a list comes before those that it begins
abbrev pub words_cmp : List (List ℕ) → List (List ℕ) → Ordering
words_cmp = slice_cmp word_cmp

-- the two component lists are the same
abbrev pub words_eq : List (List ℕ) → List (List ℕ) → Bool
words_eq = pointwise (pointwise nat_eq)
