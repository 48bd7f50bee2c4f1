-- SPDX-License-Identifier: Apache-2.0
-- What is listed and counted of the schema that a text denotes, and what is said of an error that says why it denotes none, is
-- one text.
use Rattle.std.proofs.Common.{◌≡◌, ℕ, List, sym, ap, ◌∙◌}
use Rattle.cedar_convert_warnings.specs.declared.warnings.SchemaWarning.{SchemaWarning}
use Rattle.cedar_listing.specs.Counts.{counts}
use Rattle.cedar_listing.specs.Listing.{listing}
use Rattle.cedar_resolved.specs.declared.schema.ValidatorSchema.{ValidatorSchema}
use Rattle.cedar_schema.proofs.Refusing.{one_schema_of_text, one_text_cause}
use Rattle.cedar_schema.specs.SchemaViews.{IsConsistent, schema_in}
use Rattle.cedar_schema.specs.Texts.{DenotesSchema, TellSame, TextCause}
use Rattle.cedar_schema_error.specs.Told.{told}
use Rattle.cedar_schema_error.specs.declared.schema_error.SchemaError.{SchemaError}
use Rattle.cedar_schema_errors.specs.ErrorTexts.{error_help, error_text}
use Rattle.cedar_schema_errors.specs.declared.schema_error.CedarSchemaError.{CedarSchemaError}
use Rattle.cedar_schema_errors.specs.declared.schema_error.CedarSchemaError.TheVariants.{Parsing, Schema}
use Rattle.cedar_listing_laws.proofs.Lines.{one_counts, one_listing}
use Rattle.cedar_listing_laws.proofs.Refusals.{help_told, helps_as, text_told, texts_as}

-- ---- schemas

-- a report that is the same of schemas that are the same plain schema
module _ (report : ValidatorSchema → List SchemaWarning → List ℕ)
    (same_report : (S T : ValidatorSchema) → IsConsistent S → IsConsistent T → schema_in S ≡ schema_in T → (ws : List SchemaWarning) → report S ws ≡ report T ws) where
  one_report : (text : List ℕ) (extensions : List (List ℕ)) (S T : ValidatorSchema) (ws vs : List SchemaWarning) → IsConsistent S → IsConsistent T
      → DenotesSchema text extensions (schema_in S) ws → DenotesSchema text extensions (schema_in T) vs → report S ws ≡ report T vs
  one_report text extensions S T ws vs p q denotes denotes' =
      let same = one_schema_of_text text extensions (schema_in S) (schema_in T) ws vs denotes denotes' in
      same_report S T p q same.0 ws ∙ ap (report T) same.1

pub listing_of_text : (text : List ℕ) (extensions : List (List ℕ)) (S T : ValidatorSchema) (ws vs : List SchemaWarning) → IsConsistent S → IsConsistent T
    → DenotesSchema text extensions (schema_in S) ws → DenotesSchema text extensions (schema_in T) vs → listing S ws ≡ listing T vs
listing_of_text = one_report listing one_listing

pub counts_of_text : (text : List ℕ) (extensions : List (List ℕ)) (S T : ValidatorSchema) (ws vs : List SchemaWarning) → IsConsistent S → IsConsistent T
    → DenotesSchema text extensions (schema_in S) ws → DenotesSchema text extensions (schema_in T) vs → counts S ws ≡ counts T vs
counts_of_text = one_report counts (λ S T p q. one_counts S T)

-- ---- errors

-- errors of which the same is said, with the same help
abbrev pub AreAlike : CedarSchemaError → CedarSchemaError → Type 0
AreAlike e e' = (error_text e ≡ error_text e') × (error_help e ≡ error_help e')

pub told_alike : (e e' : SchemaError) → told e ≡ told e' → AreAlike (Schema e) (Schema e')
told_alike e e' same = (texts_as e ∙ ap text_told same ∙ sym (texts_as e'), helps_as e ∙ ap help_told same ∙ sym (helps_as e'))

-- errors that tell the same are such
pub alike : (e e' : CedarSchemaError) → TellSame e e' → AreAlike e e'
alike (Parsing e) (Parsing e') same = (ap (λ x. error_text (Parsing x)) same, ap (λ x. error_help (Parsing x)) same)
alike (Parsing e) (Schema e') same = absurd same
alike (Schema e) (Parsing e') same = absurd same
alike (Schema e) (Schema e') same = told_alike e e' same

pub alike_of_text : (text : List ℕ) (extensions : List (List ℕ)) (e e' : CedarSchemaError) → TextCause text extensions e → TextCause text extensions e' → AreAlike e e'
alike_of_text text extensions e e' cause cause' = alike e e' (one_text_cause text extensions e e' cause cause')
