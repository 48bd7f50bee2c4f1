-- SPDX-License-Identifier: Apache-2.0
-- The attributes of a record that follow a name, and the entries of a map that follow a key.
use Rattle.std.specs.Prelude.{ℕ, Bool, true, cond, List, [], ◌∷◌, Option, Some, None}
use Rattle.std.specs.Cmp.Lexicographic.{slice_cmp}
use Rattle.std.specs.List.{filter}
use Rattle.std.specs.Ordering.{is_lt, nat_cmp}
use Rattle.cedar_unfolding.specs.Written.{Written, WrittenAttributes, no_attributes, attribute}

-- the first of a list
abbrev pub first_of : {A : Type 0} → List A → Option A
first_of [] = None
first_of (x ∷ xs) = Some x

-- whether the name comes after the given one; each does where none is given
abbrev pub follows : Option (List ℕ) → List ℕ → Bool
follows None name = true
follows (Some after) name = is_lt (slice_cmp nat_cmp after name)

-- the first entry that follows the key
abbrev pub next_entry : {V : Type 0} → Option (List ℕ) → List (List ℕ × V) → Option (List ℕ × V)
next_entry after es = first_of (filter (λ e. follows after e.0) es)

module _ {N : Type 0} where
  -- the names of attributes
  abbrev pub labels : WrittenAttributes N → List (List ℕ)
  labels no_attributes = []
  labels (attribute name required ty others) = name ∷ labels others

  -- the first attribute: its name, its type, and whether it is required
  abbrev pub first_attribute : WrittenAttributes N → Option (List ℕ × Written N × Bool)
  first_attribute no_attributes = None
  first_attribute (attribute name required ty others) = Some (name, ty, required)

  -- the attributes that follow the name
  abbrev pub following : Option (List ℕ) → WrittenAttributes N → WrittenAttributes N
  following after no_attributes = no_attributes
  following after (attribute name required ty others) = cond (follows after name) (attribute name required ty (following after others)) (following after others)

  -- the first of them
  abbrev pub next_attribute : Option (List ℕ) → WrittenAttributes N → Option (List ℕ × Written N × Bool)
  next_attribute after ws = first_attribute (following after ws)
