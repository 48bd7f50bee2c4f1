-- SPDX-License-Identifier: Apache-2.0
-- A list is empty or has a last member, and whether tokens end in the beginning of an empty `enum`.
use Rattle.std.proofs.Common.{◌≡◌, ◌⊎◌, inl, inr, Bool, true, false, IsTrue, List, [], ◌∷◌, ◌++◌, length, map, codes, ℕ, ◌<◌, refl, ap, arith}
use Rattle.std.proofs.lemmas.List.{length-append, length-map}
use Rattle.cedar_tokens.specs.Lexemes.{lexeme_token}
use Rattle.cedar_tokens.specs.declared.lexeme.Lexeme.{Lexeme}
use Rattle.cedar_grammar.specs.Grammar.{is_keyword, is_mark_token}
use Rattle.cedar_syntax.specs.Causes.{ClosesEmptyEnum}
use Rattle.cedar_syntax.specs.Marks.{bare}
use Rattle.cedar_syntax.proofs.Rules.{closes_by, not_true, opening_is, word_is}

-- it has a last member
pub record HasLast {A : Type 0} (xs : List A) : Type 0 where
  pub before : List A
  pub last : A
  pub is : xs ≡ before ++ last ∷ []

behind_one : {A : Type 0} (x : A) (xs : List A) → (xs ≡ []) ⊎ HasLast xs → HasLast (x ∷ xs)
behind_one {A} x xs (inl none) = record { before = []; last = x; is = ap (λ (ys : List A). x ∷ ys) none }
behind_one {A} x xs (inr l) = record { before = x ∷ l.before; last = l.last; is = ap (λ (ys : List A). x ∷ ys) l.is }

pub empty_or_last : {A : Type 0} (xs : List A) → (xs ≡ []) ⊎ HasLast xs
empty_or_last [] = inl refl
empty_or_last (x ∷ xs) = inr (behind_one x xs (empty_or_last xs))

-- a test is passed, or it isn't
pub passed_or_not : (b : Bool) → IsTrue b ⊎ (IsTrue b → ⊥)
passed_or_not true = inl refl
passed_or_not false = inr (not_true false refl)

module _ (source : List ℕ) (token : Lexeme) where
  abbrev Closes : List Lexeme → Type 0
  Closes front = ClosesEmptyEnum (map (lexeme_token source) front) (lexeme_token source token)

  -- two tokens stand before it at least
  two_before : (front : List Lexeme) → Closes front → 1 < length front
  two_before front c = omega (arith, ap length c.is, length-append c.before (c.enum ∷ c.opening ∷ []), length-map front (lexeme_token source))

  by_tests : (front before behind : List Lexeme) (word opening : Lexeme) → front ≡ behind ++ opening ∷ [] → behind ≡ before ++ word ∷ []
      → IsTrue (is_keyword (codes "enum") (bare word)) ⊎ (IsTrue (is_keyword (codes "enum") (bare word)) → ⊥)
      → IsTrue (is_mark_token (codes "[") (bare opening)) ⊎ (IsTrue (is_mark_token (codes "[") (bare opening)) → ⊥)
      → IsTrue (is_mark_token (codes "]") (bare token)) ⊎ (IsTrue (is_mark_token (codes "]") (bare token)) → ⊥)
      → Closes front ⊎ (Closes front → ⊥)
  by_tests front before behind word opening last second (inl names) (inl opens) (inl closes) = inl (closes_by source front before behind word opening token last second names opens closes)
  by_tests front before behind word opening last second (inr fails) opens closes = inr (λ c. fails (word_is source front before behind word opening token last second c))
  by_tests front before behind word opening last second (inl names) (inr fails) closes = inr (λ c. fails (opening_is source front behind opening token last c))
  by_tests front before behind word opening last second (inl names) (inl opens) (inr fails) = inr (λ c. fails c.closes)

  by_second : (front behind : List Lexeme) (opening : Lexeme) → front ≡ behind ++ opening ∷ [] → (behind ≡ []) ⊎ HasLast behind → Closes front ⊎ (Closes front → ⊥)
  by_second front behind opening last (inl none) = inr (λ c. absurd (omega (arith, two_before front c, ap length last, length-append behind (opening ∷ []), ap length none)))
  by_second front behind opening last (inr l) =
      by_tests front l.before behind l.last opening last l.is (passed_or_not (is_keyword (codes "enum") (bare l.last))) (passed_or_not (is_mark_token (codes "[") (bare opening)))
      (passed_or_not (is_mark_token (codes "]") (bare token)))

  by_last : (front : List Lexeme) → (front ≡ []) ⊎ HasLast front → Closes front ⊎ (Closes front → ⊥)
  by_last front (inl none) = inr (λ c. absurd (omega (arith, two_before front c, ap length none)))
  by_last front (inr l) = by_second front l.before l.last l.is (empty_or_last l.before)

  -- the token closes an empty list behind `enum`, or it doesn't
  pub closes_or_not : (front : List Lexeme) → Closes front ⊎ (Closes front → ⊥)
  closes_or_not front = by_last front (empty_or_last front)
