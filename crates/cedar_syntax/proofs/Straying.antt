-- SPDX-License-Identifier: Apache-2.0
-- What a token that strays says of the whole text.
use Rattle.std.proofs.Common.{◌≡◌, ℕ, zero, suc, ◌+◌, ◌-◌, List, ◌∷◌, ◌++◌, length, map, take, get_or, Result, Err, IfOk, refl, ap, sym, ◌∙◌, subst, ◌<◌, arith}
use Rattle.std.proofs.lemmas.List.{take-map, take_at, get_or-map, get_or_at, length-map, length-append}
use Rattle.cedar_tokens.specs.Lexemes.{TextToken, lexeme_token}
use Rattle.cedar_tokens.specs.declared.lexeme.Lexeme.{Lexeme}
use Rattle.cedar_tree.specs.declared.parse_error.ParseErrorKind.{ParseErrorKind}
use Rattle.cedar_tree.specs.declared.parse_error.ParseErrorKind.TheVariants.{InvalidToken, UnrecognizedEof, UnrecognizedToken, ExtraToken, User, TooDeep}
use Rattle.cedar_grammar.specs.Grammar.{OpensAtMost}
use Rattle.cedar_grammar.specs.Stops.{Finds, IsFirstStray}
use Rattle.cedar_syntax.specs.Causes.{Cause, StraysAs}
use Rattle.cedar_syntax.specs.Texts.{HasTokens, open_at_most}
use Rattle.cedar_syntax.proofs.Rules.{if_ok_follows}

-- the first token that strays is a cause
stray_cause : (text : List ℕ) (ts front : List TextToken) (t : TextToken) (rest : List TextToken) → HasTokens text ts → OpensAtMost open_at_most ts → IsFirstStray ts front t rest
    → (kind : ParseErrorKind) → StraysAs front t kind → Cause text kind
stray_cause text ts front t rest lexed brackets first (InvalidToken location) by = absurd by
stray_cause text ts front t rest lexed brackets first (UnrecognizedEof location) by = absurd by
stray_cause text ts front t rest lexed brackets first (UnrecognizedToken span token) by =
    record { tokens = ts; lexed = lexed; brackets = brackets; front = front; stray = t; rest = rest; first = first; by = by }
stray_cause text ts front t rest lexed brackets first (ExtraToken span token) by = absurd by
stray_cause text ts front t rest lexed brackets first (User error) by =
    record { tokens = ts; lexed = lexed; brackets = brackets; front = front; stray = t; rest = rest; first = first; by = by }
stray_cause text ts front t rest lexed brackets first (TooDeep span) by = absurd by

module _ (source : List ℕ) (lexemes : List Lexeme) (d : Lexeme) where
  -- the lexemes before a token, and its own
  parted : (front : List TextToken) (t : TextToken) (rest : List TextToken) (left : ℕ) → map (lexeme_token source) lexemes ≡ front ++ t ∷ rest → left ≡ suc (length rest)
      → (map (lexeme_token source) (take (length lexemes - left) lexemes) ≡ front) × (lexeme_token source (get_or lexemes (length lexemes - left) d) ≡ t)
  parted front t rest left is count =
      let all : length lexemes ≡ length front + suc (length rest) = sym (length-map lexemes (lexeme_token source)) ∙ ap length is ∙ length-append front (t ∷ rest) in
      let at : length front ≡ length lexemes - left = omega arith in
      let within : length lexemes - left < length lexemes = omega arith in (
        sym (take-map (lexeme_token source) (length lexemes - left) lexemes) ∙ ap (take (length lexemes - left)) is ∙ take_at front (t ∷ rest) (length lexemes - left) at,
        sym (get_or-map (lexeme_token source) lexemes (length lexemes - left) d t within) ∙ ap (λ (ts : List TextToken). get_or ts (length lexemes - left) t) is ∙ get_or_at front t rest t (length lexemes - left) at,
      )

  -- what is said of the token at which so many are left is a cause
  pub stop_cause : {E : Type 0} (left : ℕ) (result : Result ParseErrorKind E) → HasTokens source (map (lexeme_token source) lexemes) → OpensAtMost open_at_most (map (lexeme_token source) lexemes)
      → (left ≡ 0 → ⊥) → Finds (map (lexeme_token source) lexemes) (Err left)
      → IfOk result (StraysAs (map (lexeme_token source) (take (length lexemes - left) lexemes)) (lexeme_token source (get_or lexemes (length lexemes - left) d)))
      → IfOk result (Cause source)
  stop_cause zero result lexed brackets some stops strays = absurd (some refl)
  stop_cause (suc n) result lexed brackets some stops strays =
      let parts = parted stops.0 stops.1 stops.2 (suc n) stops.3.is (ap suc (sym stops.4)) in
      let at_front = subst (λ ts. IfOk result (StraysAs ts (lexeme_token source (get_or lexemes (length lexemes - suc n) d)))) parts.0 strays in
      let at_token = subst (λ t. IfOk result (StraysAs stops.0 t)) parts.1 at_front in
      if_ok_follows result (StraysAs stops.0 stops.1) (Cause source) (stray_cause source (map (lexeme_token source) lexemes) stops.0 stops.1 stops.2 lexed brackets stops.3) at_token
