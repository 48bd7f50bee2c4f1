-- SPDX-License-Identifier: Apache-2.0
-- Choices as a set, to search in.
use Rattle.std.specs.Prelude.{◌≡◌, ℕ, if◌then◌else◌, List}
use Rattle.std.specs.declared.result.Result.TheVariants.{Ok}
use Rattle.std.specs.Ordering.{nat_cmp}
use Rattle.std.specs.Cmp.Lexicographic.{slice_cmp}
use Rattle.cedar_data.specs.Sets.{contains}
use Rattle.cedar_text.specs.Words.{has_word}
use Rattle.cedar_compat.specs.Changes.{choice_removed}
use Rattle.cedar_compat.specs.Checks.{Check, here}

-- the set has these choices and no others
abbrev pub AreChoices : List (List ℕ) → List (List ℕ) → Type 0
AreChoices choices ids = (id : List ℕ) → contains (slice_cmp nat_cmp) ids id ≡ has_word choices id

-- one of the choices, found by a search
abbrev pub searched_check : List (List ℕ) → List ℕ → Check
searched_check ids id = if contains (slice_cmp nat_cmp) ids id then Ok tt else here (choice_removed id)
