-- SPDX-License-Identifier: Apache-2.0
-- Which texts are well formed and what schema they denote, and why a text is refused.
use Rattle.std.specs.Prelude.{◌≡◌, ℕ, List}
use Rattle.cedar_fragment_world.specs.of_convert_fragment.Fragments.{Fragment}
use Rattle.cedar_schema_errors.specs.of_convert_text.Texts.{DeclaresText, TellsText}
use Rattle.cedar_schema_errors.specs.of_convert_warnings.declared.warnings.SchemaWarning.{SchemaWarning}
use Rattle.cedar_fragment_world.specs.FragmentWorlds.{world_of_fragment}
use Rattle.cedar_schema.specs.Fragments.{FragmentCause, SoundFragment}
use Rattle.cedar_schema_error.specs.Told.{told}
use Rattle.cedar_schema_error.specs.declared.action_behavior.ActionBehavior.TheVariants.{ProhibitAttributes}
use Rattle.cedar_schema_errors.specs.Sources.{is_suspect, looks_like_json, syntax_errors}
use Rattle.cedar_schema_errors.specs.declared.parse_error.CedarSchemaParseError.{CedarSchemaParseError}
use Rattle.cedar_schema_errors.specs.declared.schema_error.CedarSchemaError.{CedarSchemaError}
use Rattle.cedar_schema_errors.specs.declared.schema_error.CedarSchemaError.TheVariants.{Parsing, Schema}
use Rattle.cedar_fragment_world.specs.of_world.Denotes.{Denotes}
use Rattle.cedar_fragment_world.specs.of_world.Schemas as schemas

-- a text is well formed: it declares a fragment that is sound
pub record IsWellFormed (text : List ℕ) (extensions : List (List ℕ)) (F : Fragment) (warned : List SchemaWarning) : Type 0 where
  pub declares : DeclaresText text extensions F warned
  pub sound : SoundFragment ProhibitAttributes extensions F

-- a text denotes a schema, with these warnings: it is well formed, and its fragment denotes the schema
pub record DenotesSchema (text : List ℕ) (extensions : List (List ℕ)) (S : schemas.Schema) (warned : List SchemaWarning) : Type 0 where
  pub fragment : Fragment
  pub well_formed : IsWellFormed text extensions fragment warned
  pub denotes : Denotes (world_of_fragment fragment extensions) S

-- why a text declares no fragment, and whether it looks like JSON
abbrev pub TellsParsing : List ℕ → CedarSchemaParseError → Type 0
TellsParsing text e = TellsText text (syntax_errors e) × (is_suspect e ≡ looks_like_json text)

-- an error is of that kind
abbrev pub ParsingCause : List ℕ → CedarSchemaError → Type 0
ParsingCause text (Parsing e) = TellsParsing text e
ParsingCause text (Schema e) = ⊥

-- an error says why a fragment isn't sound
abbrev pub SchemaCause : List (List ℕ) → Fragment → CedarSchemaError → Type 0
SchemaCause extensions F (Parsing e) = ⊥
SchemaCause extensions F (Schema e) = FragmentCause ProhibitAttributes extensions F (told e)

-- why a text is refused: it declares no fragment, or it declares one that isn't sound
abbrev pub TextCause : List ℕ → List (List ℕ) → CedarSchemaError → Type 0
TextCause text extensions (Parsing e) = TellsParsing text e
TextCause text extensions (Schema e) =
    (F : Fragment) × (warned : List SchemaWarning) × DeclaresText text extensions F warned × FragmentCause ProhibitAttributes extensions F (told e)

-- two errors tell the same, places aside where they speak of what is declared
abbrev pub TellSame : CedarSchemaError → CedarSchemaError → Type 0
TellSame (Parsing e) (Parsing e') = e ≡ e'
TellSame (Schema e) (Schema e') = told e ≡ told e'
TellSame e e' = ⊥
