-- SPDX-License-Identifier: Apache-2.0
-- Which texts aren't well formed, and why.
use Rattle.std.specs.Prelude.{ℕ, List}
use Rattle.cedar_convert_fragment.specs.Fragments.{Fragment}
use Rattle.cedar_convert_text.specs.Texts.{DeclaresText}
use Rattle.cedar_convert_warnings.specs.declared.warnings.SchemaWarning.{SchemaWarning}
use Rattle.cedar_schema.specs.Fragments.{FragmentCause}
use Rattle.cedar_schema.specs.Texts.{TellsParsing}
use Rattle.cedar_schema_error.specs.Refusals.{Refusal}
use Rattle.cedar_schema_error.specs.declared.action_behavior.ActionBehavior.TheVariants.{ProhibitAttributes}
use Rattle.cedar_schema_errors.specs.declared.parse_error.CedarSchemaParseError.{CedarSchemaParseError}

-- a text isn't well formed: there is an error that says why it declares no fragment, or the fragment that it declares isn't sound, for this cause
pub data IsRefused (text : List ℕ) (extensions : List (List ℕ)) : Type 0 where
  declares_none : (e : CedarSchemaParseError) → TellsParsing text e → IsRefused text extensions
  unsound : (F : Fragment) (warned : List SchemaWarning) (e : Refusal) → DeclaresText text extensions F warned → FragmentCause ProhibitAttributes extensions F e → IsRefused text extensions
