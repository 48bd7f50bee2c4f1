-- SPDX-License-Identifier: Apache-2.0
-- The phases on references: what each asks, and how it refuses.
use Rattle.std.specs.Prelude.{◌≡◌, List, [], ◌∷◌}
use Rattle.cedar_data.specs.Firsts.{IsFirst}
use Rattle.cedar_shadowing.specs.of_declared.Names.{Names}
use Rattle.cedar_duplicates.specs.of_schema_error.FullNames.{FullName}
use Rattle.cedar_duplicates.specs.of_schema_error.NameReferences.{ActionReference, NameReference}
use Rattle.cedar_duplicates.specs.of_schema_error.Refusals.{ActionNotDefined, Refusal, ReservedName, TypeNotDefined}
use Rattle.cedar_world.specs.Definitions.{Namespace}
use Rattle.cedar_world.specs.Missing.{missing_actions, missing_types, reserved_targets}

-- the phases
pub data ReferencePhase : Type 0 where
  MissingTypes : ReferencePhase
  MissingActions : ReferencePhase
  ReservedTargets : ReferencePhase

-- their order
abbrev pub reference_phases : List ReferencePhase
reference_phases = MissingTypes ∷ MissingActions ∷ ReservedTargets ∷ []

module _ (names : Names) (all : List Namespace) where
  -- what such a phase asks
  abbrev pub ReferencesPass : ReferencePhase → Type 0
  -- each reference to a type has a target
  ReferencesPass MissingTypes = missing_types names all ≡ []
  -- each parent of an action is a declared action
  ReferencesPass MissingActions = missing_actions names all ≡ []
  -- no parent, principal or resource means a name with `__cedar`
  ReferencesPass ReservedTargets = reserved_targets names all ≡ []

  -- how it refuses
  abbrev pub ReferencesRefuse : ReferencePhase → Refusal → Type 0
  -- with all that is missing
  ReferencesRefuse MissingTypes e = (r : NameReference) × (rs : List NameReference) × (e ≡ TypeNotDefined r rs) × (missing_types names all ≡ r ∷ rs)
  ReferencesRefuse MissingActions e = (r : ActionReference) × (rs : List ActionReference) × (e ≡ ActionNotDefined r rs) × (missing_actions names all ≡ r ∷ rs)
  -- with the first such name
  ReferencesRefuse ReservedTargets e = (name : FullName) × (e ≡ ReservedName name) × IsFirst (reserved_targets names all) name
