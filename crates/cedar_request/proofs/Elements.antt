-- SPDX-License-Identifier: Apache-2.0
-- Elements of lists by their places.
use Rattle.std.proofs.Common.{◌≡◌, ℕ, zero, suc, ◌+◌, ◌≤◌, Bool, true, false, cond, List, [], ◌∷◌, ◌++◌, length, slice_get, Some, refl, ap, ◌∙◌, arith}
use Rattle.std.proofs.lemmas.List.Sums.{sum_by-cons}
use Rattle.std.specs.List.{count_by}

module _ {X : Type 0} where
  -- an element of the first of two lists
  pub get-left : (xs ys : List X) (i : ℕ) (x : X) → slice_get xs i ≡ Some x → slice_get (xs ++ ys) i ≡ Some x
  get-left [] ys i x is = absurd (cc)
  get-left (y ∷ xs) ys zero x is = is
  get-left (y ∷ xs) ys (suc i) x is = get-left xs ys i x is

  -- an element of the second
  pub get-right : (xs ys : List X) (i : ℕ) → slice_get (xs ++ ys) (length xs + i) ≡ slice_get ys i
  get-right [] ys i = let same : 0 + i ≡ i = omega arith in ap (slice_get ys) same
  get-right (x ∷ xs) ys i = let same : suc (length xs) + i ≡ suc (length xs + i) = omega arith in ap (slice_get (x ∷ xs ++ ys)) same ∙ get-right xs ys i

  module _ (test : X → Bool) where
    counted : (x : X) (xs : List X) (b : Bool) → test x ≡ b → count_by test (x ∷ xs) ≡ cond b 1 0 + count_by test xs
    counted x xs b is = sum_by-cons (λ y. cond (test y) 1 0) x xs ∙ ap (λ c. cond c 1 0 + count_by test xs) is

    fewer : (x : X) (xs : List X) (b : Bool) → test x ≡ b → count_by test xs ≤ count_by test (x ∷ xs)
    fewer x xs true is = omega (arith, counted x xs true is)
    fewer x xs false is = omega (arith, counted x xs false is)

    -- where an element passes, one is counted
    pub one-counted : (xs : List X) (i : ℕ) (x : X) → slice_get xs i ≡ Some x → test x ≡ true → 1 ≤ count_by test xs
    one-counted [] i x is passes = absurd (cc)
    one-counted (y ∷ xs) zero x is passes =
        let same : y ≡ x = cc in
        omega (arith, counted y xs true (ap test same ∙ passes))
    one-counted (y ∷ xs) (suc i) x is passes = omega (arith, one-counted xs i x is passes, fewer y xs (test y) refl)

    not_two : (y : X) (xs : List X) (i : ℕ) (x : X) → count_by test (y ∷ xs) ≤ 1 → slice_get xs i ≡ Some x → test y ≡ true → test x ≡ true → ⊥
    not_two y xs i x once is first passes =
        let two : 1 + 1 ≤ count_by test (y ∷ xs) = omega (arith, counted y xs true first, one-counted xs i x is passes) in
        absurd (omega (arith, two, once))

    -- where one is counted at most, elements that pass stand at one place
    pub one-place : (xs : List X) (i j : ℕ) (x y : X) → count_by test xs ≤ 1 → slice_get xs i ≡ Some x → slice_get xs j ≡ Some y → test x ≡ true → test y ≡ true → i ≡ j
    one-place [] i j x y once is also p q = absurd (cc)
    one-place (z ∷ xs) zero zero x y once is also p q = refl
    one-place (z ∷ xs) zero (suc j) x y once is also p q =
        let same : z ≡ x = cc in
        absurd (not_two z xs j y once also (ap test same ∙ p) q)
    one-place (z ∷ xs) (suc i) zero x y once is also p q =
        let same : z ≡ y = cc in
        absurd (not_two z xs i x once is (ap test same ∙ q) p)
    one-place (z ∷ xs) (suc i) (suc j) x y once is also p q =
        ap suc (one-place xs i j x y (omega (arith, once, fewer z xs (test z) refl)) is also p q)
