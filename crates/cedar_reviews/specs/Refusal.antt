-- SPDX-License-Identifier: Apache-2.0
-- What is printed of a refusal.
use Rattle.std.specs.Prelude.{ℕ, List, [], ◌++◌, Option, None, Some, codes}
use Rattle.cedar_fmt.specs.Texts as printing
use Rattle.cedar_fmt.specs.declared.errors.ToCedarSchemaSyntaxError.{ToCedarSchemaSyntaxError}
use Rattle.cedar_schema_errors.specs.ErrorTexts.{error_help, error_text}
use Rattle.cedar_schema_errors.specs.declared.schema_error.CedarSchemaError.{CedarSchemaError}

-- the line of what is wrong
abbrev pub error_line : List ℕ → List ℕ
error_line text = codes "error: " ++ text ++ codes "\n"

-- the line of the help, where there is help
abbrev pub help_line : Option (List ℕ) → List ℕ
help_line None = []
help_line (Some help) = codes "help: " ++ help ++ codes "\n"

-- the lines of an error
abbrev pub refusal_text : CedarSchemaError → List ℕ
refusal_text error = error_line (error_text error) ++ help_line (error_help error)

-- the lines of an error behind a label
abbrev pub labelled_refusal : List ℕ → CedarSchemaError → List ℕ
labelled_refusal label error = error_line (label ++ error_text error) ++ help_line (error_help error)

-- the line of names that collide
abbrev pub collisions_refusal : ToCedarSchemaSyntaxError → List ℕ
collisions_refusal e = error_line (printing.error_text e)
