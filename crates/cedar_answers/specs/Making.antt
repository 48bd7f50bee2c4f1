-- SPDX-License-Identifier: Apache-2.0
-- What the commands make of a text, and why they refuse it.
use Rattle.std.specs.Prelude.{◌≡◌, ◌⊎◌, ℕ, List, [], ◌++◌, Some, codes}
use Rattle.serde_json.specs.Written.{compact_text}
use Rattle.cedar_commands.specs.declared.command.Command.{Command}
use Rattle.cedar_commands.specs.declared.command.Command.TheVariants.{Resolve, ResolveJson, Check, ToJson, ToCedar, Review, Bench}
use Rattle.cedar_convert_fragment.specs.Fragments as declared_fragments
use Rattle.cedar_convert_fragment.specs.Views.{fragment_seen}
use Rattle.cedar_convert_text.specs.Texts.{DeclaresText}
use Rattle.cedar_convert_warnings.specs.declared.warnings.SchemaWarning.{SchemaWarning}
use Rattle.cedar_fmt.specs.Collisions.{collisions}
use Rattle.cedar_fmt.specs.Texts.{kept_names}
use Rattle.cedar_fmt.specs.declared.errors.ToCedarSchemaSyntaxError.{ToCedarSchemaSyntaxError}
use Rattle.cedar_fragment.specs.ActionUids.{over_raw}
use Rattle.cedar_fragment.specs.Printed.{print}
use Rattle.cedar_fragment.specs.declared.definitions.Fragment.{Fragment}
use Rattle.cedar_json.specs.TextFaults.{IsFragmentText, advised_fault}
use Rattle.cedar_json_fault.specs.declared.json_error.JsonDeserializationError.{JsonDeserializationError}
use Rattle.cedar_json_write.specs.Written.{fragment_json}
use Rattle.cedar_listing.specs.Counts.{counts}
use Rattle.cedar_listing.specs.Listing.{listing}
use Rattle.cedar_schema_json.specs.SchemaViews.{IsConsistent, schema_in}
use Rattle.cedar_print.specs.Pieces.{text_of}
use Rattle.cedar_resolved.specs.declared.schema.ValidatorSchema.{ValidatorSchema}
use Rattle.cedar_schema_json.specs.Texts.{DenotesSchema, IsWellFormed}
use Rattle.cedar_schema_error.specs.declared.schema_error.SchemaError.{SchemaError}
use Rattle.cedar_schema_error.specs.declared.schema_error.SchemaError.TheVariants.{JsonDeserialization}
use Rattle.cedar_schema_errors.specs.declared.schema_error.CedarSchemaError.TheVariants.{Schema}
use Rattle.cedar_schema_json.specs.JsonSchemas as json
use Rattle.cedar_written.specs.declared.raw_name.RawName.{RawName}
use Rattle.cedar_answers.specs.declared.report.Report.{Report}
use Rattle.cedar_answers.specs.declared.report.Report.TheVariants.{Listing, Counts}
use Rattle.cedar_reviews.specs.Holding.{TellsNoDeclaration, TellsNoSchema}
use Rattle.cedar_reviews.specs.Refusal.{collisions_refusal, refusal_text}
use Rattle.cedar_reviews.specs.Reviewing.{IsReviewable, MakesReview, TellsReview}
use Rattle.cedar_reviews.specs.RawNames.{raw_text}

-- ---- what a text denotes or declares

-- with these extension types the text is well formed and denotes this schema, which is consistent, with
-- these warnings
pub record IsSchemaOf (text : List ℕ) (extensions : List (List ℕ)) (schema : ValidatorSchema) (warnings : List SchemaWarning) : Type 0 where
  pub denotes : DenotesSchema text extensions (schema_in schema) warnings
  pub consistent : IsConsistent schema

-- the same of a text in JSON, which has no warnings
pub record IsJsonSchemaOf (text : List ℕ) (extensions : List (List ℕ)) (schema : ValidatorSchema) : Type 0 where
  pub denotes : json.DenotesSchema (IsFragmentText text) extensions (schema_in schema)
  pub consistent : IsConsistent schema

-- a fragment of a text in JSON that can be written in the human syntax
pub record CanBePrinted (text : List ℕ) (F : Fragment RawName over_raw) : Type 0 where
  pub shape : IsFragmentText text F
  pub apart : collisions F ≡ []

-- ---- what is made of a text: the due text

-- what is reported of a schema and of its warnings
abbrev pub report_text : Report → ValidatorSchema → List SchemaWarning → List ℕ
report_text Listing schema warnings = listing schema warnings
report_text Counts schema warnings = counts schema warnings

-- the report of the schema that it denotes, and of its warnings
abbrev pub MakesReport : Report → List ℕ → List (List ℕ) → List ℕ → Type 0
MakesReport report text extensions due =
    (schema : ValidatorSchema) × (warnings : List SchemaWarning) × IsSchemaOf text extensions schema warnings × (due ≡ report_text report schema warnings)

-- the listing of the schema that it denotes in JSON
abbrev pub MakesJsonListing : List ℕ → List (List ℕ) → List ℕ → Type 0
MakesJsonListing text extensions due =
    (schema : ValidatorSchema) × IsJsonSchemaOf text extensions schema × (due ≡ listing schema [])

-- what it declares, in JSON, and an end of line
abbrev pub MakesJson : List ℕ → List (List ℕ) → List ℕ → Type 0
MakesJson text extensions due =
    (F : Fragment RawName over_raw) × (warnings : List SchemaWarning) × DeclaresText text extensions (fragment_seen F) warnings
    × (due ≡ compact_text (fragment_json F) ++ codes "\n")

-- what it declares in JSON, in the human syntax
abbrev pub MakesCedar : List ℕ → List ℕ → Type 0
MakesCedar text due = (F : Fragment RawName over_raw) × CanBePrinted text F × (text_of raw_text (print F) ≡ Some due)

-- what a command makes of a text with these extension types
unfoldable pub Makes : Command → List ℕ → List (List ℕ) → List ℕ → Type 0
Makes Resolve text extensions due = MakesReport Listing text extensions due
Makes ResolveJson text extensions due = MakesJsonListing text extensions due
Makes Check text extensions due = MakesReport Counts text extensions due
Makes ToJson text extensions due = MakesJson text extensions due
Makes ToCedar text extensions due = MakesCedar text due
Makes (Review review) text extensions due = MakesReview review text extensions due
Makes (Bench n) text extensions due = MakesReport Counts text extensions due

-- ---- why a text is refused: what is told

-- it denotes no schema in JSON
abbrev pub TellsNoJsonSchema : List ℕ → List (List ℕ) → List ℕ → Type 0
TellsNoJsonSchema text extensions told =
    (e : SchemaError) × json.JsonCause (IsFragmentText text) (advised_fault text) extensions e × (told ≡ refusal_text (Schema e))

-- it has a fault in JSON
abbrev pub TellsJsonFault : List ℕ → List ℕ → Type 0
TellsJsonFault text told =
    (e : JsonDeserializationError) × (advised_fault text ≡ Some e) × (told ≡ refusal_text (Schema (JsonDeserialization e)))

-- it declares names that are both an entity type and a common type
abbrev pub TellsCollisions : List ℕ → List ℕ → Type 0
TellsCollisions text told =
    (F : Fragment RawName over_raw) × (e : ToCedarSchemaSyntaxError) × IsFragmentText text F × (kept_names e ≡ collisions F) × (told ≡ collisions_refusal e)

-- why a command refuses a text
unfoldable pub Tells : Command → List ℕ → List (List ℕ) → List ℕ → Type 0
Tells Resolve text extensions told = TellsNoSchema text extensions told
Tells ResolveJson text extensions told = TellsNoJsonSchema text extensions told
Tells Check text extensions told = TellsNoSchema text extensions told
Tells ToJson text extensions told = TellsNoDeclaration text told
Tells ToCedar text extensions told = TellsJsonFault text told ⊎ TellsCollisions text told
Tells (Review review) text extensions told = TellsReview review text extensions told
Tells (Bench n) text extensions told = TellsNoSchema text extensions told

-- ---- which texts a command accepts

-- a text that is well formed with these extension types
abbrev pub DenotesAny : List ℕ → List (List ℕ) → Type 0
DenotesAny text extensions = (F : declared_fragments.Fragment) × (warnings : List SchemaWarning) × IsWellFormed text extensions F warnings

-- a text in JSON that is well formed
abbrev pub DenotesAnyInJson : List ℕ → List (List ℕ) → Type 0
DenotesAnyInJson text extensions = (F : Fragment RawName over_raw) × json.IsWellFormed (IsFragmentText text) extensions F

-- a text that declares a fragment
abbrev pub DeclaresAny : List ℕ → List (List ℕ) → Type 0
DeclaresAny text extensions = (F : declared_fragments.Fragment) × (warnings : List SchemaWarning) × DeclaresText text extensions F warnings

-- the texts that a command accepts with these extension types
unfoldable pub Accepts : Command → List ℕ → List (List ℕ) → Type 0
Accepts Resolve text extensions = DenotesAny text extensions
Accepts ResolveJson text extensions = DenotesAnyInJson text extensions
Accepts Check text extensions = DenotesAny text extensions
Accepts ToJson text extensions = DeclaresAny text extensions
Accepts ToCedar text extensions = (F : Fragment RawName over_raw) × CanBePrinted text F
Accepts (Review review) text extensions = IsReviewable review text extensions
Accepts (Bench n) text extensions = DenotesAny text extensions
