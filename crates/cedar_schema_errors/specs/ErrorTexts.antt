-- SPDX-License-Identifier: Apache-2.0
-- What is said of an error, what to do about it, and where it stands.
use Rattle.std.specs.Prelude.{◌++◌, ℕ, List, codes, Option, Some, None, if◌then◌else◌}
use Rattle.cedar_convert_text.specs.Texts.{parse_help, parse_spans, parse_text}
use Rattle.cedar_schema_error.specs.ErrorPlaces as schema_places
use Rattle.cedar_schema_error.specs.ErrorTexts as schema_texts
use Rattle.cedar_schema_errors.specs.Sources.{is_suspect, syntax_errors}
use Rattle.cedar_schema_errors.specs.declared.parse_error.CedarSchemaParseError.{CedarSchemaParseError}
use Rattle.cedar_schema_errors.specs.declared.schema_error.CedarSchemaError.{CedarSchemaError}
use Rattle.cedar_schema_errors.specs.declared.schema_error.CedarSchemaError.TheVariants.{Parsing, Schema}
use Rattle.cedar_text.specs.declared.location.Span.{Span}

-- what is said of an error of parsing: its first error
abbrev pub parse_error_text : CedarSchemaParseError → List ℕ
parse_error_text e = codes "error parsing schema: " ++ parse_text (syntax_errors e)

-- what to say of a source that looks like JSON
abbrev pub json_hint : List ℕ
json_hint = codes "this API was expecting a schema in the Cedar schema format; did you mean to use a different function, which expects a JSON-format Cedar schema"

-- two lines, one below the other
abbrev pub lines_of : List ℕ → List ℕ → List ℕ
lines_of first second = first ++ codes "\n" ++ second

-- it stands on a line below the other help, where there is some
abbrev pub with_json_hint : Option (List ℕ) → List ℕ
with_json_hint None = json_hint
with_json_hint (Some help) = lines_of help json_hint

-- what to do about an error of parsing, if there is something to say
abbrev pub parse_error_help : CedarSchemaParseError → Option (List ℕ)
parse_error_help e = if is_suspect e then Some (with_json_hint (parse_help (syntax_errors e))) else parse_help (syntax_errors e)

-- the places of all errors of parsing, in order
abbrev pub parse_error_spans : CedarSchemaParseError → List Span
parse_error_spans e = parse_spans (syntax_errors e)

-- what is said of an error
abbrev pub error_text : CedarSchemaError → List ℕ
error_text (Schema e) = schema_texts.error_text e
error_text (Parsing e) = parse_error_text e

-- what to do about it, if there is something to say
abbrev pub error_help : CedarSchemaError → Option (List ℕ)
error_help (Schema e) = schema_texts.help_text e
error_help (Parsing e) = parse_error_help e

-- the places that it keeps, in order
abbrev pub error_spans : CedarSchemaError → List Span
error_spans (Schema e) = schema_places.places_of e
error_spans (Parsing e) = parse_error_spans e
