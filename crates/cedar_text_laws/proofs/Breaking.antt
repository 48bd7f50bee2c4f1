-- SPDX-License-Identifier: Apache-2.0
-- A token that strays breaks one of the rules, or none of them.
use Rattle.std.proofs.Common.{◌≡◌, ◌⊎◌, inl, inr, IsTrue, List, [], ◌∷◌, ◌++◌, ℕ, map, Option, Some, None, Result, Ok, Err, refl, ap, sym, ◌∙◌}
use Rattle.cedar_names.specs.declared.any_id.AnyId.{AnyId}
use Rattle.cedar_text.specs.Places.{span_of}
use Rattle.cedar_text.specs.Unescaping.{unescaped}
use Rattle.cedar_text.specs.Words.{is_reserved_word}
use Rattle.cedar_text.specs.declared.unescaping.BadEscape.{BadEscape}
use Rattle.cedar_tokens.specs.Lexemes.{TextToken, lexeme_token}
use Rattle.cedar_tokens.specs.declared.lexeme.Lexeme.{Lexeme}
use Rattle.cedar_tree.specs.declared.parse_error.UserError.{UserError}
use Rattle.cedar_tree.specs.declared.parse_error.UserError.TheVariants.{EmptyList, StringEscape, ReservedIdentifierUsed, DuplicateAnnotations}
use Rattle.cedar_grammar.specs.Grammar.{Viable, is_str_kind, is_word_token, literal_body}
use Rattle.cedar_syntax.specs.Causes.{ClosesEmptyEnum, HasBadEscape, IsLastRepeat, IsNoRepeat, IsReservedWord, StraysBy, as_literal, as_word}
use Rattle.cedar_syntax.proofs.Rules.{no_rule}
use Rattle.cedar_text_laws.proofs.Endings.{closes_or_not, passed_or_not}
use Rattle.cedar_text_laws.proofs.Repeating.{repeated_or_new}
use Rattle.cedar_text_laws.proofs.Viability.{viable_or_not}

module _ (front : List TextToken) (t : TextToken) where
  -- ---- a bad escape

  abbrev Escapes : Type 0
  Escapes = ((bad : BadEscape) × HasBadEscape front t bad) ⊎ ((bad : BadEscape) → HasBadEscape front t bad → ⊥)

  same_body : (one other : List ℕ) → ◌≡◌ {A = Option (List ℕ)} (Some one) (Some other) → one ≡ other
  same_body one other e = cc

  by_viable : (body : List ℕ) (at : ℕ) → IsTrue (is_str_kind t.kind) → literal_body t.text ≡ Some body → unescaped body ≡ Err at
      → Viable (front ++ as_literal t ∷ []) ⊎ (Viable (front ++ as_literal t ∷ []) → ⊥) → Escapes
  by_viable body at literal is escape (inl could) = inl (record { at = at }, record { literal = literal; body = body; is = is; escape = escape; could = could })
  by_viable body at literal is escape (inr fails) = inr (λ bad has. fails has.could)

  by_escape : (body : List ℕ) (found : Result (List ℕ) ℕ) → IsTrue (is_str_kind t.kind) → literal_body t.text ≡ Some body → unescaped body ≡ found → Escapes
  by_escape body (Ok text) literal is found =
      inr (λ bad has.
      let bodies : body ≡ has.body = same_body body has.body (sym is ∙ has.is) in
      let clash : ◌≡◌ {A = Result (List ℕ) ℕ} (Ok text) (Err bad.at) = sym found ∙ ap unescaped bodies ∙ has.escape in
      absurd cc)
  by_escape body (Err at) literal is found = by_viable body at literal is found (viable_or_not (front ++ as_literal t ∷ []))

  by_body : (found : Option (List ℕ)) → IsTrue (is_str_kind t.kind) → literal_body t.text ≡ found → Escapes
  by_body None literal is = inr (λ bad has. let clash : ◌≡◌ {A = Option (List ℕ)} None (Some has.body) = sym is ∙ has.is in absurd cc)
  by_body (Some body) literal is = by_escape body (unescaped body) literal is refl

  by_kind : IsTrue (is_str_kind t.kind) ⊎ (IsTrue (is_str_kind t.kind) → ⊥) → Escapes
  by_kind (inl literal) = by_body (literal_body t.text) literal refl
  by_kind (inr fails) = inr (λ bad has. fails has.literal)

  escapes_or_not : Escapes
  escapes_or_not = by_kind (passed_or_not (is_str_kind t.kind))

  -- ---- a reserved word

  by_reserved_tests : IsNoRepeat front t → IsTrue (is_word_token t) ⊎ (IsTrue (is_word_token t) → ⊥) → IsTrue (is_reserved_word t.text) ⊎ (IsTrue (is_reserved_word t.text) → ⊥)
      → Viable (front ++ as_word t ∷ []) ⊎ (Viable (front ++ as_word t ∷ []) → ⊥) → IsReservedWord front t ⊎ (IsReservedWord front t → ⊥)
  by_reserved_tests new (inl word) (inl reserved) (inl could) = inl (record { word = word; reserved = reserved; could = could; new = new })
  by_reserved_tests new (inr fails) reserved could = inr (λ r. fails r.word)
  by_reserved_tests new (inl word) (inr fails) could = inr (λ r. fails r.reserved)
  by_reserved_tests new (inl word) (inl reserved) (inr fails) = inr (λ r. fails r.could)

  reserved_or_not : IsNoRepeat front t → IsReservedWord front t ⊎ (IsReservedWord front t → ⊥)
  reserved_or_not new = by_reserved_tests new (passed_or_not (is_word_token t)) (passed_or_not (is_reserved_word t.text)) (viable_or_not (front ++ as_word t ∷ []))

  -- ---- all of them

  abbrev pub Breaks : Type 0
  Breaks = ((error : UserError) × StraysBy front t error) ⊎ ((error : UserError) → StraysBy front t error → ⊥)

  abbrev key_of : (first : TextToken) → IsLastRepeat front first t → AnyId
  key_of first r = record { word = t.text; form = r.key.word }

  by_reserved : (ClosesEmptyEnum front t → ⊥) → ((bad : BadEscape) → HasBadEscape front t bad → ⊥) → IsNoRepeat front t → IsReservedWord front t ⊎ (IsReservedWord front t → ⊥) → Breaks
  by_reserved list escape repeat (inl reserved) = inl (ReservedIdentifierUsed (record { node = t.text; loc = t.loc }), (reserved, refl))
  by_reserved list escape repeat (inr fails) = inr (no_rule front t list escape repeat fails)

  by_repeat : (ClosesEmptyEnum front t → ⊥) → ((bad : BadEscape) → HasBadEscape front t bad → ⊥) → ((first : TextToken) × IsLastRepeat front first t) ⊎ IsNoRepeat front t → Breaks
  by_repeat list escape (inl r) = inl (DuplicateAnnotations (key_of r.0 r.1) (span_of r.0.loc) (span_of t.loc), (refl, refl, (r.0, r.1, refl)))
  by_repeat list escape (inr new) = by_reserved list escape new (reserved_or_not new)

  by_bad_escape : (ClosesEmptyEnum front t → ⊥) → ((first : TextToken) × IsLastRepeat front first t) ⊎ IsNoRepeat front t → Escapes → Breaks
  by_bad_escape list repeat (inl bad) = inl (StringEscape (span_of t.loc) bad.0, (bad.1, refl))
  by_bad_escape list repeat (inr fails) = by_repeat list fails repeat

  by_list : ClosesEmptyEnum front t ⊎ (ClosesEmptyEnum front t → ⊥) → ((first : TextToken) × IsLastRepeat front first t) ⊎ IsNoRepeat front t → Breaks
  by_list (inl closes) repeat = inl (EmptyList (span_of t.loc), (closes, refl))
  by_list (inr fails) repeat = by_bad_escape fails repeat escapes_or_not

-- the token of a lexeme behind those of others
pub breaks_or_not : (source : List ℕ) (front : List Lexeme) (token : Lexeme) → Breaks (map (lexeme_token source) front) (lexeme_token source token)
breaks_or_not source front token = by_list (map (lexeme_token source) front) (lexeme_token source token) (closes_or_not source token front) (repeated_or_new source token front)
