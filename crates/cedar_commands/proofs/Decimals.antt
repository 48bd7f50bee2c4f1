-- SPDX-License-Identifier: Apache-2.0
-- The decimal digits of a number, from the last one on.
use Rattle.std.proofs.Common.{◌≡◌, ◌↔◌, ◌++◌, ◌+◌, ◌^◌, ◌<◌, ◌≤◌, ◌%◌, ◌/◌, ℕ, Bool, true, false, nat_lt, IsTrue, List, [], ◌∷◌, decimal, refl, sym, ap, ◌∙◌, arith, length, subst, ltb-true, ltb-false}
use Rattle.std.specs.Bool.{◌==◌}
use Rattle.std.proofs.lemmas.Bool.{eqb-true}
use Rattle.std.proofs.lemmas.Fmt.{decimal_digit, decimal_step}

-- two lists with one item behind each
ends-alike : (xs ys : List ℕ) (x y : ℕ) → xs ++ x ∷ [] ≡ ys ++ y ∷ [] → (xs ≡ ys) × (x ≡ y)
ends-alike [] [] x y e = (refl, cc)
ends-alike [] (b ∷ []) x y e = absurd (cc)
ends-alike [] (b ∷ c ∷ ys) x y e = absurd (cc)
ends-alike (a ∷ []) [] x y e = absurd (cc)
ends-alike (a ∷ b ∷ xs) [] x y e = absurd (cc)
ends-alike (a ∷ xs) (b ∷ ys) x y e =
    let first : a ≡ b = cc in
    let behind : xs ++ x ∷ [] ≡ ys ++ y ∷ [] = cc in
    let rest = ends-alike xs ys x y behind in
    (λ i. first i ∷ rest.0 i, rest.1)

some-end : (xs : List ℕ) (x : ℕ) → xs ++ x ∷ [] ≡ [] → ⊥
some-end [] x e = cc
some-end (a ∷ xs) x e = cc

-- the digits before the last one
record Front (n : ℕ) : Type 0 where
  pub front : List ℕ
  pub is : decimal n ≡ front ++ (48 + n % 10) ∷ []

one-digit : (n : ℕ) → n < 10 → decimal n ≡ (48 + n % 10) ∷ []
one-digit n small = decimal_digit n small ∙ ap (λ d. d ∷ []) itself
  where
    itself : 48 + n ≡ 48 + n % 10
    itself = omega arith

front-of : (n : ℕ) → n < 2 ^ 32 → Front n
front-of n small = by (nat_lt n 10) refl
  where
    by : (b : Bool) → nat_lt n 10 ≡ b → Front n
    by true few = record { front = []; is = one-digit n (ltb-true n 10 few) }
    by false many = record { front = decimal (n / 10); is = decimal_step n (ltb-false n 10 many) (omega arith) }

pub untrue : false ≡ true → ⊥
untrue t = cc

-- no digits are a number
pub digits-none : (digits : List ℕ) (n : ℕ) → n < 2 ^ 32 → length digits ≡ 0 → IsTrue false ↔ (digits ≡ decimal n)
digits-none [] n small none =
    let f = front-of n small in
    (λ t. absurd (untrue t), λ e. absurd (some-end f.front (48 + n % 10) (sym f.is ∙ sym e)))
digits-none (d ∷ ds) n small none = absurd (omega (arith, none))

module _ (digits front : List ℕ) (last n : ℕ) (small : n < 2 ^ 32) (split : digits ≡ front ++ last ∷ []) where
  -- nor are those with another last digit
  pub digits-other : (last ≡ 48 + n % 10 → ⊥) → IsTrue false ↔ (digits ≡ decimal n)
  digits-other other =
      let f = front-of n small in
      (λ t. absurd (untrue t), λ e. absurd (other (ends-alike front f.front last (48 + n % 10) (sym split ∙ e ∙ f.is)).1))

  -- those with the same one are, where the digits before it are those before it
  same-last : (b : Bool) (begin : List ℕ) → decimal n ≡ begin ++ (48 + n % 10) ∷ [] → last ≡ 48 + n % 10 → IsTrue b ↔ (front ≡ begin) → IsTrue b ↔ (digits ≡ decimal n)
  same-last b begin is same either = (
    λ t. split ∙ (λ i. either.0 t i ++ same i ∷ []) ∙ sym is,
    λ e. either.1 (ends-alike front begin last (48 + n % 10) (sym split ∙ e ∙ is)).0,
  )

  pub digits-one : (b : Bool) → n < 10 → last ≡ 48 + n % 10 → IsTrue b ↔ (front ≡ []) → IsTrue b ↔ (digits ≡ decimal n)
  digits-one b few same either = same-last b [] (one-digit n few) same either

  pub digits-more : (b : Bool) → 10 ≤ n → last ≡ 48 + n % 10 → IsTrue b ↔ (front ≡ decimal (n / 10)) → IsTrue b ↔ (digits ≡ decimal n)
  digits-more b many same either = same-last b (decimal (n / 10)) (decimal_step n many (omega arith)) same either

-- whether there are none
pub none-before : (b : Bool) (xs : List ℕ) → b ≡ (length xs == 0) → IsTrue b ↔ (xs ≡ [])
none-before b [] is = (λ t. refl, λ e. subst IsTrue (sym is) refl)
none-before b (x ∷ xs) is = (λ t. absurd (never t), λ e. absurd (cc))
  where
    never : IsTrue b → ⊥
    never t = let same : length (x ∷ xs) ≡ 0 = eqb-true (length (x ∷ xs)) 0 (sym is ∙ t) in omega (arith, same)
