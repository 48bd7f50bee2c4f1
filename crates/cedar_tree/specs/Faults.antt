-- SPDX-License-Identifier: Apache-2.0
use Rattle.std.specs.Prelude.{ℕ, List, [], ◌∷◌, ◌++◌, Option, Some, None, codes, option_to_list}
use Rattle.cedar_names.specs.Identifiers.{any_word}
use Rattle.cedar_names.specs.of_text.Lists.{elements}
use Rattle.cedar_names.specs.of_text.Places.{span_of}
use Rattle.cedar_names.specs.of_text.declared.location.Span.{Span}
use Rattle.cedar_tree.specs.declared.parse_error.UserError.{UserError}
use Rattle.cedar_tree.specs.declared.parse_error.UserError.TheVariants.{EmptyList, StringEscape, ReservedIdentifierUsed, DuplicateAnnotations}
use Rattle.cedar_tree.specs.declared.parse_error.ParseErrorKind.{ParseErrorKind}
use Rattle.cedar_tree.specs.declared.parse_error.ParseErrorKind.TheVariants.{InvalidToken, UnrecognizedEof, UnrecognizedToken, ExtraToken, User, TooDeep}
use Rattle.cedar_tree.specs.declared.parse_error.ParseError.{ParseError}
use Rattle.cedar_tree.specs.declared.parse_error.ParseErrors.{ParseErrors}

-- what is said of a broken rule
abbrev pub user_text : UserError → List ℕ
user_text (EmptyList span) = codes "An empty list was passed"
user_text (StringEscape span escape) = codes "Invalid escape codes"
user_text (ReservedIdentifierUsed word) = codes "`" ++ word.node ++ codes "` is a reserved identifier"
user_text (DuplicateAnnotations key first second) = codes "duplicate annotations: `" ++ any_word key ++ codes "`"

-- what is said of an error
abbrev pub kind_text : ParseErrorKind → List ℕ
kind_text (InvalidToken location) = codes "invalid token"
kind_text (UnrecognizedEof location) = codes "unexpected end of input"
kind_text (UnrecognizedToken span token) = codes "unexpected token `" ++ token ++ codes "`"
kind_text (ExtraToken span token) = codes "extra token `" ++ token ++ codes "`"
kind_text (User error) = user_text error
kind_text (TooDeep span) = codes "type or bracket nesting is too deep"

-- the empty place at an offset
abbrev pub span_at : ℕ → Span
span_at location = record { start = location; end = location }

-- the place to show of a broken rule
abbrev pub user_span : UserError → Span
user_span (EmptyList span) = span
user_span (StringEscape span escape) = span
user_span (ReservedIdentifierUsed word) = span_of word.loc
user_span (DuplicateAnnotations key first second) = first

-- the place to show of an error
abbrev pub kind_span : ParseErrorKind → Span
kind_span (InvalidToken location) = span_at location
kind_span (UnrecognizedEof location) = span_at location
kind_span (UnrecognizedToken span token) = span
kind_span (ExtraToken span token) = span
kind_span (User error) = user_span error
kind_span (TooDeep span) = span

abbrev pub primary_span : ParseError → Span
primary_span error = kind_span error.kind

-- the later place of a key that stands twice
abbrev pub user_second : UserError → Option Span
user_second (EmptyList span) = None
user_second (StringEscape span escape) = None
user_second (ReservedIdentifierUsed word) = None
user_second (DuplicateAnnotations key first second) = Some second

-- all places of a broken rule: both of a key that stands twice, and else the one to show
abbrev pub user_spans : UserError → List Span
user_spans error = user_span error ∷ option_to_list (user_second error)

abbrev pub kind_second : ParseErrorKind → Option Span
kind_second (User error) = user_second error
kind_second _ = None

abbrev pub second_span : ParseError → Option Span
second_span error = kind_second error.kind

-- all places of an error
abbrev pub error_spans : ParseError → List Span
error_spans error = primary_span error ∷ option_to_list (second_span error)

-- all places of errors, in their order
abbrev pub all_spans : List ParseError → List Span
all_spans [] = []
all_spans (error ∷ errors) = error_spans error ++ all_spans errors

-- the errors, from the first
abbrev pub error_list : ParseErrors → List ParseError
error_list es = elements es.errors

-- what is wrong first
abbrev pub first_kind : ParseErrors → ParseErrorKind
first_kind es = es.errors.head.kind
