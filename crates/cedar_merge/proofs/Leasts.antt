-- SPDX-License-Identifier: Apache-2.0
-- The least of what passes one test or another.
use Rattle.std.proofs.Common.{◌≡◌, ◌||◌, Bool, true, false, Option, Some, None, IsTrue, refl, sym, ap, ◌∙◌, inl, inr, ◌⊎◌}
use Rattle.std.specs.Cmp.{IsTotalOrder}
use Rattle.std.specs.Ordering.{match_ordering, ordering_reverse}
use Rattle.std.specs.declared.cmp.Ordering.{Ordering}
use Rattle.std.specs.declared.cmp.Ordering.TheVariants.{Less, Equal, Greater}
use Rattle.cedar_data.specs.Firsts.{IsLeast}
use Rattle.cedar_merge.specs.Joining.{Finds, IsLeastOf, lesser}

or_false : (a b : Bool) → a ≡ false → b ≡ false → (a || b) ≡ false
or_false true b p q = absurd (cc)
or_false false b p q = q

left : (a b : Bool) → a ≡ true → (a || b) ≡ true
left true b p = refl
left false b p = absurd (cc)

right : (a b : Bool) → b ≡ true → (a || b) ≡ true
right true b p = refl
right false b p = p

which : (a b : Bool) → (a || b) ≡ true → (a ≡ true) ⊎ (b ≡ true)
which true b p = inl refl
which false b p = inr p

not_both : (a : Bool) → a ≡ true → a ≡ false → ⊥
not_both true p q = cc
not_both false p q = cc

module _ {A : Type 0} (cmp : A → A → Ordering) where
  -- of tests that answer alike
  pub least-same : (test other : A → Bool) → ((x : A) → test x ≡ other x) → (o : Option A) → IsLeastOf cmp test o → IsLeastOf cmp other o
  least-same test other same None none = λ x. sym (same x) ∙ none x
  least-same test other same (Some x) is = record { holds = sym (same x) ∙ is.holds; least = λ y h. is.least y (same y ∙ h) }

  -- the least of both is the lesser
  pub least-either : IsTotalOrder cmp → (test other : A → Bool) (o p : Option A) → IsLeastOf cmp test o → IsLeastOf cmp other p → IsLeastOf cmp (λ x. test x || other x) (lesser cmp o p)
  least-either total test other None None n m = λ x. or_false (test x) (other x) (n x) (m x)
  least-either total test other None (Some b) n m = record {
    holds = right (test b) (other b) m.holds;
    least = λ y h. by y (which (test y) (other y) h);
  }
    where
      by : (y : A) → (test y ≡ true) ⊎ (other y ≡ true) → cmp y b ≡ Less → ⊥
      by y (inl p) l = not_both (test y) p (n y)
      by y (inr p) l = m.least y p l
  least-either total test other (Some a) None n m = record {
    holds = left (test a) (other a) n.holds;
    least = λ y h. by y (which (test y) (other y) h);
  }
    where
      by : (y : A) → (test y ≡ true) ⊎ (other y ≡ true) → cmp y a ≡ Less → ⊥
      by y (inl p) l = n.least y p l
      by y (inr p) l = not_both (other y) p (m y)
  least-either total test other (Some a) (Some b) n m = by (cmp b a) refl
    where
      -- nothing is less than one that isn't greater than the least
      kept : cmp b a ≡ Equal ⊎ cmp b a ≡ Greater → (y : A) → cmp y a ≡ Less → cmp y b ≡ Less
      kept (inl same) y l = turned (cmp y b) (total.antisymm y b ∙ ap ordering_reverse (total.congr b a y same)) (ap ordering_reverse (sym (total.antisymm a y))) l
        where
          turned : (o : Ordering) → cmp y b ≡ ordering_reverse (cmp a y) → ordering_reverse (ordering_reverse (cmp y a)) ≡ ordering_reverse (cmp a y) → cmp y a ≡ Less → cmp y b ≡ Less
          turned o p q l = p ∙ sym q ∙ ap (λ o. ordering_reverse (ordering_reverse o)) l
      kept (inr greater) y l = total.trans y a b l (total.antisymm a b ∙ ap ordering_reverse greater)

      first : cmp b a ≡ Equal ⊎ cmp b a ≡ Greater → IsLeast cmp (λ x. IsTrue (test x || other x)) a
      first at = record {
        holds = left (test a) (other a) n.holds;
        least = λ y h l. pick y (which (test y) (other y) h) l;
      }
        where
          pick : (y : A) → (test y ≡ true) ⊎ (other y ≡ true) → cmp y a ≡ Less → ⊥
          pick y (inl p) l = n.least y p l
          pick y (inr p) l = m.least y p (kept at y l)

      second : cmp b a ≡ Less → IsLeast cmp (λ x. IsTrue (test x || other x)) b
      second less = record {
        holds = right (test b) (other b) m.holds;
        least = λ y h l. pick y (which (test y) (other y) h) l;
      }
        where
          pick : (y : A) → (test y ≡ true) ⊎ (other y ≡ true) → cmp y b ≡ Less → ⊥
          pick y (inl p) l = n.least y p (total.trans y b a l less)
          pick y (inr p) l = m.least y p l

      by : (o : Ordering) → cmp b a ≡ o → IsLeastOf cmp (λ x. test x || other x) (match_ordering o (Some b) (Some a) (Some a))
      by Less is = second is
      by Equal is = first (inl is)
      by Greater is = first (inr is)

  -- what is found in turn
  or_assoc : (a b c : Bool) → ((a || b) || c) ≡ (a || (b || c))
  or_assoc true b c = refl
  or_assoc false b c = refl

  pub finds-both : (test other : A → Bool) (o p q : Option A) → Finds cmp test o p → Finds cmp other p q → Finds cmp (λ x. test x || other x) o q
  finds-both test other o p q f g = record {
    finds = λ earlier least.
        least-same (λ x. (earlier x || test x) || other x) (λ x. earlier x || (test x || other x)) (λ x. or_assoc (earlier x) (test x) (other x)) q (g.finds (λ x. earlier x || test x) (f.finds earlier least));
  }

  pub finds-same : (test other : A → Bool) → ((x : A) → test x ≡ other x) → (o p : Option A) → Finds cmp test o p → Finds cmp other o p
  finds-same test other same o p f = record {
    finds = λ earlier least. least-same (λ x. earlier x || test x) (λ x. earlier x || other x) (λ x. ap (λ b. earlier x || b) (same x)) p (f.finds earlier least);
  }

  -- nothing passes
  pub finds-none : (test : A → Bool) (o : Option A) → ((x : A) → test x ≡ false) → Finds cmp test o o
  finds-none test o none = record {
    finds = λ earlier least. least-same earlier (λ x. earlier x || test x) (λ x. sym (ap (λ b. earlier x || b) (none x) ∙ or_none (earlier x))) o least;
  }
    where
      or_none : (b : Bool) → (b || false) ≡ b
      or_none true = refl
      or_none false = refl

  -- the lesser of what there was and the least of these
  pub finds-lesser : IsTotalOrder cmp → (test : A → Bool) (o p : Option A) → IsLeastOf cmp test p → Finds cmp test o (lesser cmp o p)
  finds-lesser total test o p is = record { finds = λ earlier least. least-either total earlier test o p least is }
