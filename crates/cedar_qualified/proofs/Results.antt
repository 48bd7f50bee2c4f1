-- SPDX-License-Identifier: Apache-2.0
-- Answers in sequence: what a value, or a refusal, of the whole says of the parts.
use Rattle.std.proofs.Common.{◌≡◌, ◌⊎◌, inl, inr, refl, sym, ap, unwrap_or}
use Rattle.std.specs.Result.{result_err, result_ok}
use Rattle.std.specs.declared.result.Result.{Result}
use Rattle.std.specs.declared.result.Result.TheVariants.{Ok, Err}
use Rattle.cedar_written.specs.Answers.{and_then}

-- a value, and a refusal, as results of a known type
abbrev ok : {A : Type 0} (E : Type 0) → A → Result A E
ok E a = Ok a

abbrev err : {E : Type 0} (A : Type 0) → E → Result A E
err A e = Err e

module _ {A E : Type 0} where
  pub inside_ok : (a b : A) → ok E a ≡ ok E b → a ≡ b
  inside_ok a b is = ap (λ r. unwrap_or (result_ok r) a) is

  inside_err : (x e : E) → err A x ≡ err A e → x ≡ e
  inside_err x e is = ap (λ r. unwrap_or (result_err r) x) is

  pub not_both : (a : A) (e : E) → ok E a ≡ err A e → ⊥
  not_both a e is = absurd (cc)

module _ {A B E : Type 0} where
  -- a value of the whole comes of a value of the first part
  pub value_of : (r : Result A E) (f : A → Result B E) (y : B) → and_then r f ≡ Ok y → (x : A) × (r ≡ Ok x) × (f x ≡ Ok y)
  value_of (Ok x) f y is = (x, refl, is)
  value_of (Err e) f y is = absurd (not_both y e (sym is))

  -- the only part is refused as the whole is
  pub refused_of : (r : Result A E) (made : A → B) (e : E) → and_then r (λ a. Ok (made a)) ≡ Err e → r ≡ Err e
  refused_of (Ok x) made e is = absurd (not_both (made x) e is)
  refused_of (Err x) made e is = ap Err (inside_err {A = B} x e is)

-- one of two parts is refused as the whole is
pub one_refused : {A B C E : Type 0} (r : Result A E) (s : Result B E) (made : A → B → C) (e : E) → and_then r (λ a. and_then s (λ b. Ok (made a b))) ≡ Err e → (r ≡ Err e) ⊎ (s ≡ Err e)
one_refused (Ok a) s made e is = inr (refused_of s (made a) e is)
one_refused {C = C} (Err x) s made e is = inl (ap Err (inside_err {A = C} x e is))
