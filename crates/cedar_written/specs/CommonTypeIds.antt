-- SPDX-License-Identifier: Apache-2.0
-- Identifiers of common types, and the words that they may not be.
use Rattle.std.specs.Prelude.{ℕ, Bool, List, [], ◌∷◌, ◌++◌, codes}
use Rattle.cedar_print.specs.of_text.Words.{has_word}
use Rattle.cedar_print.specs.of_names.declared.id.UnreservedId.{UnreservedId}
use Rattle.cedar_written.specs.declared.common_type_id.CommonTypeId.{CommonTypeId}

-- the identifier of a common type
abbrev pub common_id : UnreservedId → CommonTypeId
common_id id = record { id = id }

-- the identifier that it is
abbrev pub unreserved_of : CommonTypeId → UnreservedId
unreserved_of c = c.id

-- the words that JSON takes for kinds of types
abbrev pub reserved_basenames : List (List ℕ)
reserved_basenames = codes "Bool" ∷ codes "Boolean" ∷ codes "Entity" ∷ codes "Extension" ∷ codes "Long" ∷ codes "Record" ∷ codes "Set" ∷ codes "String" ∷ []

-- the word is one of them
abbrev pub is_reserved_basename : List ℕ → Bool
is_reserved_basename word = has_word reserved_basenames word

-- what is said of a refused word
abbrev pub reserved_basename_text : List ℕ → List ℕ
reserved_basename_text word = codes "this is reserved and cannot be the basename of a common-type declaration: " ++ word
