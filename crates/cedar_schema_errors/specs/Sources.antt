-- SPDX-License-Identifier: Apache-2.0
-- What an error of parsing keeps, and which sources look like JSON.
use Rattle.std.specs.Prelude.{ℕ, ◌==◌, Bool, false, List, [], ◌∷◌}
use Rattle.std.specs.Str.{trim_start}
use Rattle.cedar_convert_text.specs.declared.parsing.CedarSchemaParseErrors.{CedarSchemaParseErrors}
use Rattle.cedar_schema_errors.specs.declared.parse_error.CedarSchemaParseError.{CedarSchemaParseError}

-- why the source is no schema
abbrev pub syntax_errors : CedarSchemaParseError → CedarSchemaParseErrors
syntax_errors e = e.errors

-- whether the source looks like JSON
abbrev pub is_suspect : CedarSchemaParseError → Bool
is_suspect e = e.suspect_json_format

-- whether a text begins with `{`
abbrev pub opens_brace : List ℕ → Bool
opens_brace [] = false
opens_brace (byte ∷ bytes) = byte == 123

-- a source looks like JSON where, behind the white space at its start, it begins with `{`
abbrev pub looks_like_json : List ℕ → Bool
looks_like_json source = opens_brace (trim_start source)
