-- SPDX-License-Identifier: Apache-2.0
-- Why a schema in JSON is refused, among the errors of all schemas.
use Rattle.std.specs.Prelude.{ℕ, List}
use Rattle.cedar_json.specs.TextFaults.{IsFragmentText, advised_fault}
use Rattle.cedar_schema_errors.specs.declared.schema_error.CedarSchemaError.{CedarSchemaError}
use Rattle.cedar_schema_errors.specs.declared.schema_error.CedarSchemaError.TheVariants.{Parsing, Schema}
use Rattle.cedar_schema_json.specs.JsonSchemas.{JsonCause}

-- it is no error of parsing, and says why the text denotes no schema
abbrev pub JsonTextCause : List ℕ → List (List ℕ) → CedarSchemaError → Type 0
JsonTextCause text extensions (Parsing e) = ⊥
JsonTextCause text extensions (Schema e) = JsonCause (IsFragmentText text) (advised_fault text) extensions e
