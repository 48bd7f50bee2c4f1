-- SPDX-License-Identifier: Apache-2.0
-- The names that are held.
use Rattle.std.specs.Prelude.{◌++◌, List, [], ◌∷◌, map, Option}
use Rattle.std.specs.List.{filter}
use Rattle.cedar_names.specs.Components.{components}
use Rattle.cedar_names.specs.Identifiers.{id_word}
use Rattle.cedar_names.specs.declared.id.Id.{Id}
use Rattle.cedar_names.specs.of_text.declared.location.Loc.{Loc}
use Rattle.cedar_schema_error.specs.FullNames.{FullName, is_qualified, uid_in}
use Rattle.cedar_declared.specs.Names.{Names}
use Rattle.cedar_declared.specs.declared.all_defs.AllDefs.{AllDefs}
use Rattle.cedar_declared.specs.declared.type_names.TypeNames.{TypeNames}

-- the names of one component
abbrev pub single_names : List (Id × Option Loc) → List FullName
single_names es = map (λ e. id_word e.0 ∷ []) es

-- names of types: those of one component, and the others
abbrev pub type_names : TypeNames → List FullName
type_names t = single_names t.unqualified ++ filter is_qualified (map components t.qualified)

-- all names
abbrev pub names_of : AllDefs → Names
names_of d = record {
  entity_types = type_names d.entity_types;
  common_types = type_names d.common_types;
  actions = map uid_in d.actions;
}
