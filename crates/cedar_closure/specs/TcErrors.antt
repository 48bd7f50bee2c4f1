-- SPDX-License-Identifier: Apache-2.0
-- What an error of a closure tells.
use Rattle.std.specs.Prelude.{ℕ, List, Option, Some, codes}
use Rattle.std.specs.Fmt.{◌++?◌}
use Rattle.cedar_names.specs.Names.{internal_of, name_of}
use Rattle.cedar_names.specs.Components.{loc_of}
use Rattle.cedar_names.specs.declared.name.EntityType.{EntityType}
use Rattle.cedar_names.specs.of_text.declared.location.Loc.{Loc}
use Rattle.cedar_closure.specs.declared.tc_error.TcError.{TcError}
use Rattle.cedar_closure.specs.declared.tc_error.TcError.TheVariants.{HasCycle, MissingTcEdge}

-- what is said of an error, where keys are shown as told
abbrev pub tc_error_text : {K : Type 0} → (K → Option (List ℕ)) → TcError K → Option (List ℕ)
tc_error_text shown (HasCycle vertex) = Some (codes "cycle containing `") ++? shown vertex ++? Some (codes "`")
tc_error_text shown (MissingTcEdge vertex) = Some (codes "missing edge at `") ++? shown vertex ++? Some (codes "`")

-- the kept key of an error
abbrev pub vertex_of : {K : Type 0} → TcError K → K
vertex_of (HasCycle vertex) = vertex
vertex_of (MissingTcEdge vertex) = vertex

-- the place of an entity type
abbrev pub type_place : EntityType → Option Loc
type_place ty = loc_of (internal_of (name_of ty))
