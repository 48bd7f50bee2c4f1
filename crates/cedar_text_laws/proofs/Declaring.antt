-- SPDX-License-Identifier: Apache-2.0
-- Each text declares a fragment, or there are errors that say why it declares none.
use Rattle.std.proofs.Common.{◌≡◌, ◌⊎◌, inl, inr, ℕ, List, [], ◌∷◌, refl, sym}
use Rattle.std.specs.Prelude.{IsUtf8}
use Rattle.cedar_tree.specs.Trees.{Schema}
use Rattle.cedar_tree.specs.declared.parse_error.ParseErrors.{ParseErrors}
use Rattle.cedar_syntax.specs.Causes.{Explains}
use Rattle.cedar_syntax.specs.Texts.{ReadsText}
use Rattle.cedar_convert_errors.specs.declared.faults.ToJsonSchemaError.{ToJsonSchemaError}
use Rattle.cedar_convert_faults.specs.Faults.{schema_faults}
use Rattle.cedar_convert_faults.specs.Gathering.{namespaces_of}
use Rattle.cedar_convert_faults.proofs.DeclarationLaws.{declared_where_fine}
use Rattle.cedar_convert_fragment.specs.Declares.{fragment_of}
use Rattle.cedar_convert_fragment.specs.Fragments.{Fragment}
use Rattle.cedar_convert_warnings.specs.Shadowing.{warnings}
use Rattle.cedar_convert_warnings.specs.declared.warnings.SchemaWarning.{SchemaWarning}
use Rattle.cedar_convert_text.specs.Texts.{DeclaresText, TellsText}
use Rattle.cedar_convert_text.specs.declared.parsing.CedarSchemaParseErrors.{CedarSchemaParseErrors}
use Rattle.cedar_convert_text.specs.declared.parsing.CedarSchemaParseErrors.TheVariants.{SyntaxError, JsonError}
use Rattle.cedar_text_laws.proofs.Parsing.{schema_or_explained}

module _ (text : List ℕ) (extensions : List (List ℕ)) where
  abbrev Judged : Type 0
  Judged = ((F : Fragment) × (warned : List SchemaWarning) × DeclaresText text extensions F warned) ⊎ ((errors : CedarSchemaParseErrors) × TellsText text errors)

  by_faults : (s : Schema) → ReadsText text s → (faults : List ToJsonSchemaError) → schema_faults s ≡ faults → Judged
  by_faults s reads [] none =
      inl (
        fragment_of (namespaces_of s),
        warnings extensions s,
        record { tree = s; reads = reads; declares = record { declares_one = declared_where_fine (namespaces_of s) none; fragment_is = refl }; warned = refl },
      )
  by_faults s reads (first ∷ others) faults = inr (JsonError (record { faults = record { head = first; tail = others } }), record { tree = s; reads = reads; faults_are = sym faults })

  by_reading : ((s : Schema) × ReadsText text s) ⊎ ((errors : ParseErrors) × Explains text errors) → Judged
  by_reading (inl read) = by_faults read.0 read.1 (schema_faults read.0) refl
  by_reading (inr explained) = inr (SyntaxError explained.0, explained.1)

  -- a text declares a fragment, or there are errors that say why it declares none
  pub declared_or_told : IsUtf8 text → Judged
  declared_or_told u = by_reading (schema_or_explained text u)
