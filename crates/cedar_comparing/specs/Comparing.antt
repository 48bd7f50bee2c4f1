-- SPDX-License-Identifier: Apache-2.0
-- Comparisons that see what is left of a value alone.
use Rattle.std.specs.Prelude.{◌≡◌, Bool, IsTrue}
use Rattle.std.specs.declared.cmp.Ordering.{Ordering}

module _ {A : Type 0} where
  -- the test holds of a value and what is left of it, and what it holds of leaves the same: so it goes by what is left
  pub record GoesBy (test : A → A → Bool) (left : A → A) : Type 0 where
    pub itself : (x : A) → IsTrue (test x (left x))
    pub alone : (x y : A) → IsTrue (test x y) → left x ≡ left y

  -- two values are in the order of what is left of them
  abbrev pub OrdersBy : (A → A → Ordering) → (A → A) → Type 0
  OrdersBy cmp left = (x y : A) → cmp x y ≡ cmp (left x) (left y)

module _ {N A : Type 0} (names : N → N → Bool) where
  -- where the test of names goes by what `bare` leaves of them, this test goes by what `left bare` leaves
  abbrev pub GoesAlong : (A → A → Bool) → ((N → N) → A → A) → Type 0
  GoesAlong test left = (bare : N → N) → GoesBy names bare → GoesBy test (left bare)

  -- and so does this order
  abbrev pub OrdersAlong : (A → A → Ordering) → ((N → N) → A → A) → Type 0
  OrdersAlong cmp left = (bare : N → N) → GoesBy names bare → OrdersBy cmp (left bare)
