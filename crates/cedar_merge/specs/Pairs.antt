-- SPDX-License-Identifier: Apache-2.0
-- What two of a list have against each other.
use Rattle.std.specs.Prelude.{◌||◌, ◌⊎◌, Bool, false, List, [], ◌∷◌, Option, Some}
use Rattle.std.specs.List.{list_any}
use Rattle.cedar_data.specs.Firsts.{SomePasses}

-- one item of the list stands against a later one
abbrev pub some_pair : {A : Type 0} → (A → A → Bool) → List A → Bool
some_pair against [] = false
some_pair against (x ∷ xs) = list_any (against x) xs || some_pair against xs

-- the same, where that is a statement
abbrev pub SomePair : {A : Type 0} → (A → A → Type 0) → List A → Type 0
SomePair Against [] = ⊥
SomePair Against (x ∷ xs) = SomePasses (Against x) xs ⊎ SomePair Against xs

-- both are there, and stand against each other
abbrev pub opposed : {A : Type 0} → (A → A → Bool) → Option A → Option A → Bool
opposed against (Some a) (Some b) = against a b
opposed against _ _ = false
