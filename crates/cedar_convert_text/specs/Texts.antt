-- SPDX-License-Identifier: Apache-2.0
-- Which texts declare a fragment, and what is said of those that don't.
use Rattle.std.specs.Prelude.{◌≡◌, ℕ, List, Option, None}
use Rattle.cedar_text.specs.declared.location.Span.{Span}
use Rattle.cedar_tree.specs.Faults as syntax
use Rattle.cedar_tree.specs.Trees.{Schema, Text}
use Rattle.cedar_syntax.specs.Causes.{Explains}
use Rattle.cedar_syntax.specs.Texts.{ReadsText}
use Rattle.cedar_convert_errors.specs.declared.faults.ToJsonSchemaError.{ToJsonSchemaError}
use Rattle.cedar_convert_errors.specs.Texts.{all_spans, fault_help, fault_list, fault_text, first_fault}
use Rattle.cedar_convert.specs.of_convert_faults.Faults.{schema_faults}
use Rattle.cedar_convert.specs.of_convert_warnings.Shadowing.{warnings}
use Rattle.cedar_convert.specs.of_convert_warnings.declared.warnings.SchemaWarning.{SchemaWarning}
use Rattle.cedar_convert.specs.of_convert_fragment.Declares.{Declares}
use Rattle.cedar_convert.specs.of_convert_fragment.Fragments.{Fragment}
use Rattle.cedar_convert_text.specs.declared.parsing.CedarSchemaParseErrors.{CedarSchemaParseErrors}
use Rattle.cedar_convert_text.specs.declared.parsing.CedarSchemaParseErrors.TheVariants.{SyntaxError, JsonError}

-- the text is a schema that declares the fragment, and of whose names these warnings are given
pub record DeclaresText (text : List ℕ) (extensions : List Text) (fragment : Fragment) (given : List SchemaWarning) : Type 0 where
  pub tree : Schema
  pub reads : ReadsText text tree
  pub declares : Declares tree fragment
  pub warned : given ≡ warnings extensions tree

-- the text is a schema with these faults
pub record HasFaults (text : List ℕ) (faults : List ToJsonSchemaError) : Type 0 where
  pub tree : Schema
  pub reads : ReadsText text tree
  pub faults_are : faults ≡ schema_faults tree

-- why a text declares no fragment
abbrev pub TellsText : List ℕ → CedarSchemaParseErrors → Type 0
TellsText text (SyntaxError errors) = Explains text errors
TellsText text (JsonError errors) = HasFaults text (fault_list errors)

-- the errors are these faults of a schema
abbrev pub AreFaults : CedarSchemaParseErrors → List ToJsonSchemaError → Type 0
AreFaults (SyntaxError errors) faults = ⊥
AreFaults (JsonError errors) faults = fault_list errors ≡ faults

-- what is said of it
abbrev pub parse_text : CedarSchemaParseErrors → List ℕ
parse_text (SyntaxError errors) = syntax.kind_text (syntax.first_kind errors)
parse_text (JsonError errors) = fault_text (first_fault errors)

-- what to do about it, if there is something to say
abbrev pub parse_help : CedarSchemaParseErrors → Option (List ℕ)
parse_help (SyntaxError errors) = None
parse_help (JsonError errors) = fault_help (first_fault errors)

-- the places of all errors, in order
abbrev pub parse_spans : CedarSchemaParseErrors → List Span
parse_spans (SyntaxError errors) = syntax.all_spans (syntax.error_list errors)
parse_spans (JsonError errors) = all_spans (fault_list errors)
