-- SPDX-License-Identifier: Apache-2.0
-- What a written type without faults unfolds to, found from what the common types that it names unfold to; nothing where it nests too deep.
use Rattle.std.specs.Prelude.{ℕ, Bool, false, cond, List, [], ◌∷◌, Option, Some, None, nat_le}
use Rattle.cedar_names.specs.Components.{has_cedar}
use Rattle.cedar_schema_error.specs.FullNames.{FullName}
use Rattle.cedar_unfolding.specs.Resolved.{Resolved, ResolvedAttributes, nest, deepest}
use Rattle.cedar_unfolding.specs.Resolved as resolved
use Rattle.cedar_unfolding.specs.Written.{Written, WrittenAttributes, Boolean, Long, String, Extension, Set, Record, Entity, EntityOrCommon, CommonTypeRef, no_attributes, attribute}

-- the type, unless it nests too deep
abbrev pub within : Resolved → Option Resolved
within T = cond (nat_le (nest T) deepest) (Some T) None

abbrev pub set_of : Option Resolved → Option Resolved
set_of None = None
set_of (Some T) = within (resolved.Set T)

abbrev pub record_of : Option ResolvedAttributes → Option Resolved
record_of None = None
record_of (Some Ts) = within (resolved.Record Ts false)

abbrev pub with_attribute : List ℕ → Bool → Option Resolved → Option ResolvedAttributes → Option ResolvedAttributes
with_attribute name required (Some T) (Some Ts) = Some (resolved.attribute name required T Ts)
with_attribute name required _ _ = None

-- an entity type
abbrev pub entity_of : FullName → Option Resolved
entity_of name = cond (has_cedar name) None (Some (resolved.Entity name))

-- what stands in a table of common types, an entity type where the table lacks it
abbrev pub common_or_entity : Option (Option Resolved) → FullName → Option Resolved
common_or_entity (Some found) name = found
common_or_entity None name = entity_of name

-- what stands in a table of common types
abbrev pub common_of : Option (Option Resolved) → Option Resolved
common_of (Some found) = found
common_of None = None

module _ (table : FullName → Option (Option Resolved)) where
  abbrev mutual
    pub finished : Written FullName → Option Resolved
    finished Boolean = Some resolved.Boolean
    finished Long = Some resolved.Long
    finished String = Some resolved.String
    finished (Extension e) = Some (resolved.Extension (e ∷ []))
    finished (Set t) = set_of (finished t)
    finished (Record ws is_open) = record_of (finished_each ws)
    finished (Entity name) = entity_of name
    finished (EntityOrCommon name) = common_or_entity (table name) name
    finished (CommonTypeRef name) = common_of (table name)

    pub finished_each : WrittenAttributes FullName → Option ResolvedAttributes
    finished_each no_attributes = Some resolved.no_attributes
    finished_each (attribute name required t ws) = with_attribute name required (finished t) (finished_each ws)
