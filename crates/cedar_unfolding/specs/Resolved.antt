-- SPDX-License-Identifier: Apache-2.0
-- Resolved types, as plain trees.
use Rattle.std.specs.Prelude.{ℕ, ◌+◌, max, Bool, true, false, List}
use Rattle.cedar_schema_error.specs.FullNames.{FullName}

-- a resolved type, and the attributes of a record in the order of their names
mutual
  pub data Resolved : Type 0 where
    Boolean : Resolved
    Long : Resolved
    String : Resolved
    Extension : FullName → Resolved
    Set : Resolved → Resolved
    -- a record, and whether it is open
    Record : ResolvedAttributes → Bool → Resolved
    Entity : FullName → Resolved

  pub data ResolvedAttributes : Type 0 where
    no_attributes : ResolvedAttributes
    -- the name of the first attribute, whether it is required, and its type; and the others
    attribute : List ℕ → Bool → Resolved → ResolvedAttributes → ResolvedAttributes

-- how deep a type nests: what has no parts not at all, else one more than the greatest of its parts
abbrev mutual
  pub nest : Resolved → ℕ
  nest Boolean = 0
  nest Long = 0
  nest String = 0
  nest (Extension name) = 0
  nest (Set element) = nest element + 1
  nest (Record parts is_open) = greatest_nest parts + 1
  nest (Entity name) = 0

  -- the greatest nest of some attributes, 0 where there are none
  pub greatest_nest : ResolvedAttributes → ℕ
  greatest_nest no_attributes = 0
  greatest_nest (attribute name required ty others) = max (nest ty) (greatest_nest others)

-- how deep a type may nest
abbrev pub deepest : ℕ
deepest = 128

-- whether it is a record
abbrev pub is_record : Resolved → Bool
is_record (Record parts is_open) = true
is_record other = false
