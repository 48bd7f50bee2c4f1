-- SPDX-License-Identifier: Apache-2.0
-- Which references and which declarations a refusal keeps: as they stand in the definitions, places and all.
use Rattle.std.specs.Prelude.{◌≡◌, ◌++◌, Bool, true, false, List, Some, map}
use Rattle.cedar_data.specs.Firsts.{AllPass}
use Rattle.cedar_declared.specs.of_definitions.DeclaredNames.{all_actions, all_types}
use Rattle.cedar_phases.specs.Holding.{Definition}
use Rattle.cedar_qualified.specs.Agreeing.{AgreeingNames}
use Rattle.cedar_qualified.specs.of_missing.Undeclared.{missing_in_definition, missing_in_each, refusal_of}
use Rattle.cedar_qualified.specs.of_world.DefinitionViews.{namespace_in}
use Rattle.cedar_qualified.specs.of_world.Worlds.{World, all_namespaces, builtin_namespaces, names, own}
use Rattle.cedar_declared.specs.Names.{Names}
use Rattle.cedar_schema_error.specs.KeptDeclarations.{IsAmong, KeepsAmong, placed, placed_action}
use Rattle.cedar_schema_error.specs.Refusals.{ActionNotDefined, ActionShadowing, CycleInActionHierarchy, CycleInCommonTypeReferences, DuplicateAction, DuplicateCommonType, DuplicateEntityType, Refusal, TypeNotDefined, TypeShadowing}
use Rattle.cedar_schema_error.specs.declared.schema_error.SchemaError.{SchemaError}

-- whether a refusal is for references that mean nothing declared
abbrev pub is_missing : Refusal → Bool
is_missing (TypeNotDefined r rs) = true
is_missing (ActionNotDefined r rs) = true
is_missing e = false

-- whether a refusal tells types or actions as they are declared: those that shadow one another, are declared twice, or stand on a cycle
abbrev pub tells_declared : Refusal → Bool
tells_declared (TypeShadowing a b) = true
tells_declared (ActionShadowing a b) = true
tells_declared (DuplicateCommonType name) = true
tells_declared (DuplicateEntityType name) = true
tells_declared (DuplicateAction uid) = true
tells_declared (CycleInCommonTypeReferences name) = true
tells_declared (CycleInActionHierarchy uid) = true
tells_declared e = false

-- an error is the one for what definitions of a world miss, those of the builtin types behind them: it keeps the very references, places and all
pub record KeepsReferences (W : World) (ds : List Definition) (e : SchemaError) : Type 0 where
  pub declared : Names
  pub agree : AgreeingNames declared (names W)
  pub builtins : List Definition
  pub all_are : map namespace_in (ds ++ builtins) ≡ all_namespaces W
  pub kept : refusal_of (missing_in_each (missing_in_definition declared) (ds ++ builtins)) ≡ Some e

-- an error keeps types and actions as these definitions declare them: under the same names, and at the same places
abbrev pub KeepsDeclared : List Definition → SchemaError → Type 0
KeepsDeclared ds e = KeepsAmong (map placed (all_types ds)) (map placed_action (all_actions ds)) e

-- the same, where some of the builtin definitions of a world may stand behind these
pub record KeepsDeclarations (W : World) (ds : List Definition) (e : SchemaError) : Type 0 where
  pub builtins : List Definition
  pub are_builtin : AllPass (λ d. IsAmong (builtin_namespaces (own W) W.extensions) (namespace_in d)) builtins
  pub kept : KeepsDeclared (ds ++ builtins) e
