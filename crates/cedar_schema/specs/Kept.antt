-- SPDX-License-Identifier: Apache-2.0
-- Which references and which declarations a refusal of a fragment or of a text keeps: as they stand there, places and all.
use Rattle.std.specs.Prelude.{◌≡◌, ℕ, true, List}
use Rattle.cedar_fragment.specs.ActionUids.{over_raw}
use Rattle.cedar_fragment.specs.declared.definitions.Fragment as held
use Rattle.cedar_fragment_world.specs.FragmentWorlds.{world_of_fragment}
use Rattle.cedar_fragment_world.specs.of_convert_fragment.Views.{fragment_seen}
use Rattle.cedar_fragment_world.specs.of_namespace_definitions.Definitions.{AreDefinitionsOf}
use Rattle.cedar_phases.specs.Holding.{Definition}
use Rattle.cedar_phases.specs.Kept.{KeepsDeclarations, KeepsReferences, is_missing, tells_declared}
use Rattle.cedar_schema_error.specs.Told.{told}
use Rattle.cedar_schema_error.specs.declared.schema_error.SchemaError.{SchemaError}
use Rattle.cedar_schema_errors.specs.of_convert_text.Texts.{DeclaresText}
use Rattle.cedar_schema_errors.specs.of_convert_warnings.declared.warnings.SchemaWarning.{SchemaWarning}
use Rattle.cedar_schema_errors.specs.declared.schema_error.CedarSchemaError.{CedarSchemaError}
use Rattle.cedar_schema_errors.specs.declared.schema_error.CedarSchemaError.TheVariants.{Schema}
use Rattle.cedar_written.specs.declared.raw_name.RawName.{RawName}

-- the error is the one for what the definitions miss that a fragment becomes: it keeps their very references
abbrev pub KeepsReferencesOf : List (List ℕ) → held.Fragment RawName over_raw → SchemaError → Type 0
KeepsReferencesOf extensions fragment e = (ds : List Definition) × AreDefinitionsOf fragment.0 ds × KeepsReferences (world_of_fragment (fragment_seen fragment) extensions) ds e

-- an error for references that mean nothing keeps those of the fragment that a text declares
abbrev pub KeepsReferencesOfText : List ℕ → List (List ℕ) → CedarSchemaError → Type 0
KeepsReferencesOfText text extensions error =
    (e : SchemaError) → error ≡ Schema e → is_missing (told e) ≡ true
    → (fragment : held.Fragment RawName over_raw) × (warned : List SchemaWarning) × DeclaresText text extensions (fragment_seen fragment) warned × KeepsReferencesOf extensions fragment e

-- the error keeps types and actions as the definitions declare them that a fragment becomes
abbrev pub KeepsDeclarationsOf : List (List ℕ) → held.Fragment RawName over_raw → SchemaError → Type 0
KeepsDeclarationsOf extensions fragment e = (ds : List Definition) × AreDefinitionsOf fragment.0 ds × KeepsDeclarations (world_of_fragment (fragment_seen fragment) extensions) ds e

-- an error that tells what is declared keeps it as the fragment declares it that a text declares
abbrev pub KeepsDeclarationsOfText : List ℕ → List (List ℕ) → CedarSchemaError → Type 0
KeepsDeclarationsOfText text extensions error =
    (e : SchemaError) → error ≡ Schema e → tells_declared (told e) ≡ true
    → (fragment : held.Fragment RawName over_raw) × (warned : List SchemaWarning) × DeclaresText text extensions (fragment_seen fragment) warned × KeepsDeclarationsOf extensions fragment e
