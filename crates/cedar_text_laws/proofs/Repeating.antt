-- SPDX-License-Identifier: Apache-2.0
-- A word repeats a key of the annotations before it, or it doesn't.
use Rattle.std.proofs.Common.{◌≡◌, ◌⊎◌, inl, inr, IsTrue, List, [], ◌∷◌, ◌++◌, ◌<◌, ℕ, length, map, codes, Option, Some, None, refl, ap, sym, ◌∙◌, arith, subst}
use Rattle.std.proofs.lemmas.List.{length-append, same_from_push}
use Rattle.cedar_text.specs.Words.{is_word}
use Rattle.cedar_tokens.specs.Lexemes.{TextToken, lexeme_token}
use Rattle.cedar_tokens.specs.declared.lexeme.Lexeme.{Lexeme}
use Rattle.cedar_grammar.specs.Grammar.{is_mark_token, is_word_kind}
use Rattle.cedar_syntax.specs.Causes.{IsLastRepeat, IsNoRepeat, IsRepeatedKey}
use Rattle.cedar_syntax.specs.Marks.{bare}
use Rattle.cedar_syntax.specs.Repeats.{key_in}
use Rattle.cedar_syntax.proofs.Completing.{lexemes_push}
use Rattle.cedar_syntax.proofs.GoingBack.{tells_repeat}
use Rattle.cedar_text_laws.proofs.Endings.{HasLast, empty_or_last, passed_or_not}

module _ (source : List ℕ) (token : Lexeme) where
  abbrev Judged : List Lexeme → Type 0
  Judged front =
      ((first : TextToken) × IsLastRepeat (map (lexeme_token source) front) first (lexeme_token source token)) ⊎ IsNoRepeat (map (lexeme_token source) front) (lexeme_token source token)

  -- some tokens stand before it
  some_before : (front : List TextToken) (first : TextToken) → IsRepeatedKey front first (lexeme_token source token) → 0 < length front
  some_before front first r = omega (arith, ap length r.is, length-append (r.outside ++ (r.at ∷ first ∷ r.after)) (r.again ∷ []))

  -- the last of them is an `@`
  begins : (front before : List Lexeme) (last : Lexeme) → front ≡ before ++ last ∷ [] → (first : TextToken) → IsRepeatedKey (map (lexeme_token source) front) first (lexeme_token source token)
      → IsTrue (is_mark_token (codes "@") (bare last))
  begins front before last is first r =
      let same =
      (same_from_push (map (lexeme_token source) before) (r.outside ++ (r.at ∷ first ∷ r.after)) (lexeme_token source last) r.again (sym (lexemes_push source front before last is) ∙ r.is)).1 in
      subst (λ t. IsTrue (is_mark_token (codes "@") t)) (sym same) r.begins_again

  by_key : (front before : List Lexeme) (last : Lexeme) → front ≡ before ++ last ∷ [] → IsTrue (is_mark_token (codes "@") (bare last)) → IsTrue (is_word_kind token.kind) → IsTrue (is_word token.text.now)
      → (found : Option Lexeme) → found ≡ key_in token.text.now before → Judged front
  by_key front before last is at key word None found = inr (tells_repeat source front before last token None is at key word found)
  by_key front before last is at key word (Some k) found = inl (lexeme_token source k, tells_repeat source front before last token (Some k) is at key word found)

  by_tests : (front before : List Lexeme) (last : Lexeme) → front ≡ before ++ last ∷ [] → IsTrue (is_mark_token (codes "@") (bare last)) ⊎ (IsTrue (is_mark_token (codes "@") (bare last)) → ⊥)
      → IsTrue (is_word_kind token.kind) ⊎ (IsTrue (is_word_kind token.kind) → ⊥) → IsTrue (is_word token.text.now) ⊎ (IsTrue (is_word token.text.now) → ⊥) → Judged front
  by_tests front before last is (inl at) (inl key) (inl word) = by_key front before last is at key word (key_in token.text.now before) refl
  by_tests front before last is (inr fails) key word = inr (λ first r. fails (begins front before last is first r))
  by_tests front before last is (inl at) (inr fails) word = inr (λ first r. fails r.key)
  by_tests front before last is (inl at) (inl key) (inr fails) = inr (λ first r. fails r.word)

  by_last : (front : List Lexeme) → (front ≡ []) ⊎ HasLast front → Judged front
  by_last front (inl none) = inr (λ first r. absurd (omega (arith, some_before (map (lexeme_token source) front) first r, ap (λ (ls : List Lexeme). length (map (lexeme_token source) ls)) none)))
  by_last front (inr l) =
      by_tests front l.before l.last l.is (passed_or_not (is_mark_token (codes "@") (bare l.last))) (passed_or_not (is_word_kind token.kind)) (passed_or_not (is_word token.text.now))

  -- there is a last key that the token repeats, or none
  pub repeated_or_new : (front : List Lexeme) → Judged front
  repeated_or_new front = by_last front (empty_or_last front)
