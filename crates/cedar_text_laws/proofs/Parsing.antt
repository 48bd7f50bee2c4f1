-- SPDX-License-Identifier: Apache-2.0
-- Each text is a schema, or there is an error that says why it is none.
use Rattle.std.proofs.Common.{◌≡◌, ◌⊎◌, inl, inr, ℕ, zero, suc, List, [], length, map, Option, Some, None, Result, Ok, Err, refl, sym, ◌∙◌, subst}
use Rattle.std.specs.Prelude.{IsUtf8}
use Rattle.cedar_text.specs.Places.{span_of}
use Rattle.cedar_text.specs.declared.location.Span.{Span}
use Rattle.cedar_tokens.specs.Lexemes.{TextToken, lexeme_token, text_token}
use Rattle.cedar_tokens.specs.Lexing.{Lexes, NoTokenAt}
use Rattle.cedar_tokens.specs.declared.token.Token.{Token}
use Rattle.cedar_tree.specs.Nesting.{deep_place, outermost_types}
use Rattle.cedar_tree.specs.Trees.{Schema}
use Rattle.cedar_tree.specs.declared.parse_error.ParseErrorKind.{ParseErrorKind}
use Rattle.cedar_tree.specs.declared.parse_error.ParseErrorKind.TheVariants.{InvalidToken, TooDeep, UnrecognizedEof, UnrecognizedToken, User}
use Rattle.cedar_tree.specs.declared.parse_error.ParseErrors.{ParseErrors}
use Rattle.cedar_grammar.specs.Grammar.{OpensAtMost, Reads}
use Rattle.cedar_grammar.specs.Reading.{schema_at}
use Rattle.cedar_grammar.specs.Stops.{Finds, IsFirstStray}
use Rattle.cedar_grammar.proofs.Wholes.{schema_finds}
use Rattle.cedar_syntax.specs.Causes.{Cause, Explains}
use Rattle.cedar_syntax.specs.Steps.{TellsBrackets}
use Rattle.cedar_syntax.specs.Texts.{HasTokens, ReadsText, open_at_most}
use Rattle.cedar_syntax.proofs.Unclosed.{bracket_place, brackets_found}
use Rattle.cedar_syntax.proofs.Wholes.{nests_well, too_deep, too_many}
use Rattle.cedar_text_laws.proofs.Breaking.{Breaks, breaks_or_not}
use Rattle.cedar_text_laws.proofs.Lexemes.{Parts, lexeme_of, parts, token_again, tokens_again}
use Rattle.cedar_text_laws.proofs.Lexing.{tokens_or_none}

module _ (text : List ℕ) where
  abbrev Judged : Type 0
  Judged = ((s : Schema) × ReadsText text s) ⊎ ((kind : ParseErrorKind) × Cause text kind)

  module _ (ts : List TextToken) (lexed : HasTokens text ts) (brackets : OpensAtMost open_at_most ts) where
    by_nesting : (s : Schema) (found : Option Span) → Reads ts s → found ≡ deep_place (outermost_types s) → Judged
    by_nesting s None reads is = inl (s, record { tokens = ts; lexed = lexed; brackets = brackets; reads = reads; nests = nests_well s None is refl })
    by_nesting s (Some span) reads is = inr (TooDeep span, too_deep text ts s (Some span) span lexed brackets reads is refl)

    by_rule : (front : List TextToken) (t : TextToken) (rest : List TextToken) → IsFirstStray ts front t rest → Breaks front t → Judged
    by_rule front t rest first (inl broken) =
        inr (User broken.0, record { tokens = ts; lexed = lexed; brackets = brackets; front = front; stray = t; rest = rest; first = first; by = broken.1 })
    by_rule front t rest first (inr none) =
        inr (UnrecognizedToken (span_of t.loc) t.text, record { tokens = ts; lexed = lexed; brackets = brackets; front = front; stray = t; rest = rest; first = first; by = (refl, refl, none) })

    -- the rule that a token of the text breaks behind others
    rule_of : (front : List TextToken) (t : TextToken) → Parts (text_token text) lexed.0 front t → Breaks front t
    rule_of front t p =
        let at : lexeme_token text (lexeme_of text p.at) ≡ t = token_again text p.at ∙ p.at_is in
        let before : map (lexeme_token text) (map (lexeme_of text) p.before) ≡ front = tokens_again text p.before ∙ p.front_is in
        subst (λ (u : TextToken). Breaks front u) at
        (subst (λ (us : List TextToken). Breaks us (lexeme_token text (lexeme_of text p.at))) before (breaks_or_not text (map (lexeme_of text) p.before) (lexeme_of text p.at)))

    by_reading : (found : Result (Schema × List TextToken) ℕ) → Finds ts found → Judged
    by_reading (Ok p) reads = by_nesting p.0 (deep_place (outermost_types p.0)) reads.0 refl
    by_reading (Err zero) ends = inr (UnrecognizedEof (length text), (refl, (ts, lexed, brackets, ends)))
    by_reading (Err (suc n)) strays =
        by_rule strays.0 strays.1 strays.2 strays.3 (rule_of strays.0 strays.1 (parts (text_token text) lexed.0 strays.0 strays.1 strays.2 (sym lexed.2 ∙ strays.3.is)))

  by_brackets : (ts : List TextToken) → HasTokens text ts → (found : Option Span) → TellsBrackets ts found → Judged
  by_brackets ts lexed None opens = by_reading ts lexed opens (schema_at ts) (schema_finds ts)
  by_brackets ts lexed (Some span) many = inr (TooDeep span, too_many text ts span lexed many)

  by_tokens : ((ts : List Token) × Lexes text ts) ⊎ ((place : ℕ) × NoTokenAt text place) → Judged
  by_tokens (inl lexed) =
      let ts = map (text_token text) lexed.0 in
      by_brackets ts (lexed.0, lexed.1, refl) (bracket_place 0 ts) (brackets_found ts (bracket_place 0 ts) refl)
  by_tokens (inr none) = inr (InvalidToken none.0, none.1)

  schema_or_cause : IsUtf8 text → Judged
  schema_or_cause u = by_tokens (tokens_or_none text u)

  by_cause : Judged → ((s : Schema) × ReadsText text s) ⊎ ((errors : ParseErrors) × Explains text errors)
  by_cause (inl reads) = inl reads
  by_cause (inr cause) = inr (record { errors = record { head = record { kind = cause.0; src = text }; tail = [] } }, record { one = refl; source = refl; cause = cause.1 })

  -- a text is a schema, or there is an error that says why it is none
  pub schema_or_explained : IsUtf8 text → ((s : Schema) × ReadsText text s) ⊎ ((errors : ParseErrors) × Explains text errors)
  schema_or_explained u = by_cause (schema_or_cause u)
