-- SPDX-License-Identifier: Apache-2.0
-- Common types as positions among their names.
use Rattle.std.specs.Prelude.{ℕ, List, map}
use Rattle.std.specs.List.{filter_map}
use Rattle.std.specs.Map.{keys_of}
use Rattle.cedar_schema_error.specs.FullNames.{FullName}
use Rattle.cedar_unfold.specs.Tables.{place_of}
use Rattle.cedar_unfolding.specs.Written.{Written, WrittenAttributes, common_references, attribute_common_references}

-- the positions of the common types that a type names
abbrev pub row_of : List FullName → Written FullName → List ℕ
row_of names t = filter_map (place_of names) (common_references t)

-- the same of attributes
abbrev pub attribute_row_of : List FullName → WrittenAttributes FullName → List ℕ
attribute_row_of names ws = filter_map (place_of names) (attribute_common_references ws)

-- the same of each definition, in order
abbrev pub written_rows : List FullName → List (FullName × Written FullName) → List (List ℕ)
written_rows names definitions = map (λ e. row_of names e.1) definitions

-- the same, among their own names
abbrev pub definition_rows : List (FullName × Written FullName) → List (List ℕ)
definition_rows definitions = written_rows (keys_of definitions) definitions
