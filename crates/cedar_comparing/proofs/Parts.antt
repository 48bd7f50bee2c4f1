-- SPDX-License-Identifier: Apache-2.0
-- Comparisons of lists, maps, pairs of tests and texts.
use mathlib.Core.Bool.{true≢false, beq}
use Rattle.std.specs.Prelude.{ℕ, Bool, true, false, ◌&&◌, List, [], ◌∷◌, map, nat_eq, option_map, Option, Some, None}
use Rattle.std.specs.Cmp.{first_so, second_so}
use Rattle.std.specs.Cmp.Lexicographic.{pointwise, pointwise_decides, bytes_decides}
use Rattle.std.specs.Option.{option_eq}
use Rattle.std.proofs.Common.{◌≡◌, refl, sym, ap}
use Rattle.cedar_comparing.specs.Comparing.{GoesBy}

pub both : {b c : Bool} → b ≡ true → c ≡ true → (b && c) ≡ true
both p q i = p i && q i

module _ {A : Type 0} {test : A → A → Bool} {left : A → A} (g : GoesBy test left) where
  lists_itself : (xs : List A) → pointwise test xs (map left xs) ≡ true
  lists_itself [] = refl
  lists_itself (x ∷ xs) = both (g.itself x) (lists_itself xs)

  lists_alone : (xs ys : List A) → pointwise test xs ys ≡ true → map left xs ≡ map left ys
  lists_alone [] [] h = refl
  lists_alone [] (y ∷ ys) h = absurd (true≢false (sym h))
  lists_alone (x ∷ xs) [] h = absurd (true≢false (sym h))
  lists_alone (x ∷ xs) (y ∷ ys) h = λ i. g.alone x y (first_so (test x y) (pointwise test xs ys) h) i ∷ lists_alone xs ys (second_so (test x y) (pointwise test xs ys) h) i

  pub lists_go : GoesBy (pointwise test) (map left)
  lists_go = record { itself = lists_itself; alone = lists_alone }

  options_itself : (x : Option A) → option_eq test x (option_map left x) ≡ true
  options_itself None = refl
  options_itself (Some x) = g.itself x

  options_alone : (x y : Option A) → option_eq test x y ≡ true → option_map left x ≡ option_map left y
  options_alone None None h = refl
  options_alone None (Some y) h = absurd (true≢false (sym h))
  options_alone (Some x) None h = absurd (true≢false (sym h))
  options_alone (Some x) (Some y) h = ap (λ (z : A). Some z) (g.alone x y h)

  pub options_go : GoesBy (option_eq test) (option_map left)
  options_go = record { itself = options_itself; alone = options_alone }

pub texts_go : GoesBy (pointwise nat_eq) (λ (w : List ℕ). w)
texts_go = record { itself = λ w. (bytes_decides w w).1 refl; alone = λ v w h. (bytes_decides v w).0 h }

pub text_lists_go : GoesBy (pointwise (pointwise nat_eq)) (λ (ws : List (List ℕ)). ws)
text_lists_go = record { itself = λ ws. (pointwise_decides bytes_decides ws ws).1 refl; alone = λ vs ws h. (pointwise_decides bytes_decides vs ws).0 h }

-- a key and its value
pub entries_go : {K V : Type 0} {key : K → K → Bool} {of_key : K → K} {value : V → V → Bool} {of_value : V → V} → GoesBy key of_key → GoesBy value of_value
    → GoesBy (λ (p q : K × V). key p.0 q.0 && value p.1 q.1) (λ p. (of_key p.0, of_value p.1))
entries_go {key} {value} k v = record {
  itself = λ p. both (k.itself p.0) (v.itself p.1);
  alone = λ p q h i. (k.alone p.0 q.0 (first_so (key p.0 q.0) (value p.1 q.1) h) i, v.alone p.1 q.1 (second_so (key p.0 q.0) (value p.1 q.1) h) i);
}

pub bools_itself : (b : Bool) → beq b b ≡ true
bools_itself true = refl
bools_itself false = refl

pub bools_alone : (b c : Bool) → beq b c ≡ true → b ≡ c
bools_alone true true h = refl
bools_alone true false h = absurd (true≢false (sym h))
bools_alone false true h = absurd (true≢false (sym h))
bools_alone false false h = refl
