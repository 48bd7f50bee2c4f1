-- SPDX-License-Identifier: Apache-2.0
-- The names that are held, each with its place.
use Rattle.std.specs.Prelude.{◌++◌, List, [], ◌∷◌, map, Option}
use Rattle.cedar_data.specs.Firsts.{AllPass}
use Rattle.cedar_names.specs.Identifiers.{id_word}
use Rattle.cedar_names.specs.declared.entity_uid.EntityUID.{EntityUID}
use Rattle.cedar_names.specs.declared.internal_name.InternalName.{InternalName}
use Rattle.cedar_names.specs.of_text.declared.location.Loc.{Loc}
use Rattle.cedar_schema_error.specs.FullNames.{FullName, Uid}
use Rattle.cedar_schema_error.specs.KeptDeclarations.{IsAmong, placed, placed_action}
use Rattle.cedar_declared.specs.declared.all_defs.AllDefs.{AllDefs}
use Rattle.cedar_declared.specs.declared.type_names.TypeNames.{TypeNames}

-- those of one component, and those that have a namespace
abbrev pub names_at : TypeNames → List (FullName × Option Loc)
names_at t = map (λ e. (id_word e.0 ∷ [], e.1)) t.unqualified ++ map placed t.qualified

-- the declared types, and the declared actions
abbrev pub types_at : AllDefs → List (FullName × Option Loc)
types_at d = names_at d.entity_types ++ names_at d.common_types

abbrev pub actions_at : AllDefs → List (Uid × Option Loc)
actions_at d = map placed_action d.actions

-- a name is held, at its place
abbrev pub IsHeldType : AllDefs → InternalName → Type 0
IsHeldType d name = IsAmong (types_at d) (placed name)

abbrev pub IsHeldAction : AllDefs → EntityUID → Type 0
IsHeldAction d uid = IsAmong (actions_at d) (placed_action uid)

-- each name that is held is one of these, at the same place
pub record HeldAmong (declared_types : List (FullName × Option Loc)) (declared_actions : List (Uid × Option Loc)) (d : AllDefs) : Type 0 where
  pub types_are : AllPass (IsAmong declared_types) (types_at d)
  pub actions_are : AllPass (IsAmong declared_actions) (actions_at d)
