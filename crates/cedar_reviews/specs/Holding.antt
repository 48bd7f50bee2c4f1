-- SPDX-License-Identifier: Apache-2.0
-- What inputs hold: texts and values at their keys, and schemas that texts denote.
use Rattle.std.specs.Prelude.{◌≡◌, ℕ, List, [], ◌∷◌, Some}
use Rattle.serde_json.specs.Data.{Data}
use Rattle.cedar_envelope.specs.Envelopes.{Contents, HoldsText, HoldsValue, IsEnvelope}
use Rattle.cedar_envelope.specs.FaultTexts.{fault_text}
use Rattle.cedar_envelope.specs.Faults.{envelope_fault}
use Rattle.cedar_envelope.specs.declared.fault.EnvelopeFault.{EnvelopeFault}
use Rattle.cedar_schema.specs.Texts.{DenotesSchema, ParsingCause, TextCause}
use Rattle.cedar_convert_warnings.specs.declared.warnings.SchemaWarning.{SchemaWarning}
use Rattle.cedar_schema_errors.specs.declared.schema_error.CedarSchemaError.{CedarSchemaError}
use Rattle.cedar_world.specs.Schemas.{Schema}
use Rattle.cedar_reviews.specs.Refusal.{error_line, labelled_refusal, refusal_text}

-- the input is an object with a text at the first key and a value at the second, and these are they
abbrev pub HoldsTextAndValue : List ℕ → List ℕ → List ℕ → List ℕ → Data → Type 0
HoldsTextAndValue text_key value_key input text d =
    (c : Contents) × IsEnvelope input (text_key ∷ []) (value_key ∷ []) c × HoldsText c text_key text × HoldsValue c value_key d

-- the input is no such object, and this is told of it
abbrev pub TellsEnvelope : List (List ℕ) → List (List ℕ) → List ℕ → List ℕ → Type 0
TellsEnvelope texts values input told =
    (fault : EnvelopeFault) × (envelope_fault input texts values ≡ Some fault) × (told ≡ error_line (fault_text fault))

-- a text denotes a schema with these extension types
abbrev pub Denotes : List ℕ → List (List ℕ) → Schema → Type 0
Denotes text extensions S = (warned : List SchemaWarning) × DenotesSchema text extensions S warned

-- a text declares nothing, and this is told of it
abbrev pub TellsNoDeclaration : List ℕ → List ℕ → Type 0
TellsNoDeclaration text told = (e : CedarSchemaError) × ParsingCause text e × (told ≡ refusal_text e)

-- a text denotes no schema, and this is told of it
abbrev pub TellsNoSchema : List ℕ → List (List ℕ) → List ℕ → Type 0
TellsNoSchema text extensions told = (e : CedarSchemaError) × TextCause text extensions e × (told ≡ refusal_text e)

-- a text denotes no schema, and this is told of it behind a label
abbrev pub TellsLabelled : List ℕ → List ℕ → List (List ℕ) → List ℕ → Type 0
TellsLabelled label text extensions told = (e : CedarSchemaError) × TextCause text extensions e × (told ≡ labelled_refusal label e)
