-- SPDX-License-Identifier: Apache-2.0
-- What is due of a schema that a text denotes, and what is told where it denotes none.
use Rattle.std.proofs.Common.{◌≡◌, ℕ, List, [], Result, Ok, Err, IfOk, refl}
use Rattle.cedar_convert_warnings.specs.declared.warnings.SchemaWarning.{SchemaWarning}
use Rattle.cedar_data.specs.Answers.{IfRefused}
use Rattle.cedar_data.specs.declared.memory.Failure.{Failure}
use Rattle.cedar_data.specs.declared.memory.Failure.TheVariants.{Refused, NoMemory}
use Rattle.cedar_listing.specs.Listing.{listing}
use Rattle.cedar_schema_json.specs.SchemaViews.{IsConsistent, schema_in}
use Rattle.cedar_resolved.specs.declared.schema.ValidatorSchema.{ValidatorSchema}
use Rattle.cedar_schema_json.specs.Texts.{DenotesSchema, TextCause}
use Rattle.cedar_schema_errors.specs.declared.schema_error.CedarSchemaError.{CedarSchemaError}
use Rattle.cedar_schema_errors.specs.declared.schema_error.CedarSchemaError.TheVariants.{Parsing, Schema}
use Rattle.cedar_answers.specs.Causes.{JsonTextCause}
use Rattle.cedar_answers.specs.Making.{IsSchemaOf, IsJsonSchemaOf, MakesJsonListing, TellsNoJsonSchema}
use Rattle.cedar_reviews.specs.Holding.{TellsNoSchema}
use Rattle.cedar_reviews.specs.Refusal.{refusal_text}

module _ (text : List ℕ) (extensions : List (List ℕ)) where
  -- this is written of the schema that the text denotes, and of its warnings
  abbrev IsWritten : (ValidatorSchema → List SchemaWarning → List ℕ) → List ℕ → Type 0
  IsWritten write due = (schema : ValidatorSchema) × (warnings : List SchemaWarning) × IsSchemaOf text extensions schema warnings × (due ≡ write schema warnings)

  -- an answer holds a schema and warnings
  module _ {T : Type 0} (schema_of : T → ValidatorSchema) (warnings_of : T → List SchemaWarning) (write : ValidatorSchema → List SchemaWarning → List ℕ) where
    pub schema-due : (made : Result T (Failure CedarSchemaError)) → IfOk made (λ m. DenotesSchema text extensions (schema_in (schema_of m)) (warnings_of m)) → IfOk made (λ m. IsConsistent (schema_of m))
        → IfOk made (λ m. IsWritten write (write (schema_of m) (warnings_of m)))
    schema-due (Ok m) denotes consistent = (schema_of m, warnings_of m, record { denotes = denotes; consistent = consistent }, refl)
    schema-due (Err e) denotes consistent = tt

  pub schema-told : {T : Type 0} (made : Result T (Failure CedarSchemaError)) → IfRefused made (TextCause text extensions) → IfRefused made (λ e. TellsNoSchema text extensions (refusal_text e))
  schema-told (Ok m) cause = tt
  schema-told (Err (Refused e)) cause = (e, cause, refl)
  schema-told (Err NoMemory) cause = tt

  -- the same of a text in JSON

  pub json_schema-due : {E : Type 0} (made : Result ValidatorSchema E) → IfOk made (IsJsonSchemaOf text extensions) → IfOk made (λ schema. MakesJsonListing text extensions (listing schema []))
  json_schema-due (Ok schema) is = (schema, is, refl)
  json_schema-due (Err e) is = tt

  pub json_schema-told : {T : Type 0} (made : Result T (Failure CedarSchemaError)) → IfRefused made (JsonTextCause text extensions) → IfRefused made (λ e. TellsNoJsonSchema text extensions (refusal_text e))
  json_schema-told (Ok m) cause = tt
  json_schema-told (Err (Refused (Schema e))) cause = (e, cause, refl)
  json_schema-told (Err (Refused (Parsing e))) cause = absurd cause
  json_schema-told (Err NoMemory) cause = tt
