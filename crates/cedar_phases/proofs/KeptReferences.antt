-- SPDX-License-Identifier: Apache-2.0
-- From what is held of definitions with the builtin ones to the references that a refusal keeps.
use Rattle.std.proofs.Common.{◌≡◌, ◌++◌, List, Some, map, sym, ap, ◌∙◌}
use Rattle.cedar_declared.specs.Held.{names_of}
use Rattle.cedar_declared.specs.declared.all_defs.AllDefs.{AllDefs}
use Rattle.cedar_declared.specs.of_definitions.Structures.{definitions_of}
use Rattle.cedar_names.specs.declared.extensions.Extensions.{Extensions}
use Rattle.cedar_phases.specs.Holding.{Definition, Definitions, Holds}
use Rattle.cedar_phases.specs.Kept.{KeepsReferences}
use Rattle.cedar_qualified.specs.of_missing.Undeclared.{missing_in_definition, missing_in_each, refusal_of}
use Rattle.cedar_qualified.specs.of_world.DefinitionViews.{namespace_in}
use Rattle.cedar_qualified.specs.of_world.Worlds.{World}
use Rattle.cedar_schema_error.specs.declared.schema_error.SchemaError.{SchemaError}

-- the error is that of what the definitions miss among these names
abbrev pub Missed : AllDefs → Definitions → SchemaError → Type 0
Missed all_defs definitions e = refusal_of (missing_in_each (missing_in_definition (names_of all_defs)) (definitions_of definitions)) ≡ Some e

pub keeps_references : (W : World) (all_defs : AllDefs) (whole : Definitions) (X : Extensions) (ds : List Definition) (e : SchemaError) → Holds W all_defs (definitions_of whole) X
    → (builtins : List Definition) × (definitions_of whole ≡ ds ++ builtins) → Missed all_defs whole e → KeepsReferences W ds e
keeps_references W all_defs whole X ds e h behind missed = record {
  declared = names_of all_defs;
  agree = h.names_agree;
  builtins = behind.0;
  all_are = ap (map namespace_in) (sym behind.1) ∙ h.namespaces_are;
  kept = ap (λ all. refusal_of (missing_in_each (missing_in_definition (names_of all_defs)) all)) (sym behind.1) ∙ missed;
}
