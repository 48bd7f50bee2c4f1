-- SPDX-License-Identifier: Apache-2.0
-- Passing and being refused exclude each other, and there is one refusal at most; so for lists where it is so for their items.
use Rattle.std.specs.Prelude.{◌≡◌, ◌++◌, Bool, true, false, List, [], ◌∷◌}
use Rattle.std.specs.List.{list_any}
use Rattle.std.proofs.Common.{refl, inl, inr, sym, ◌∙◌, ap}
use Rattle.std.specs.declared.cmp.Ordering.{Ordering}
use Rattle.std.specs.declared.cmp.Ordering.TheVariants.{Less, Equal, Greater}
use Rattle.std.specs.Ordering.{ordering_reverse}
use Rattle.cedar_data.specs.Firsts.{AllPass, FirstRefused, IsFirst, NoneAgain, FirstAgain, IsLeast}
use Rattle.cedar_data.proofs.Exact.{IsExact}

-- what is refused doesn't pass, and is refused in one way at most
pub record Judges {A E : Type 0} (Passes : A → Type 0) (Refuses : A → E → Type 0) : Type 0 where
  pub apart : (x : A) (e : E) → Passes x → Refuses x e → ⊥
  pub one : (x : A) (e e' : E) → Refuses x e → Refuses x e' → e ≡ e'

module _ {A E : Type 0} {Passes : A → Type 0} {Refuses : A → E → Type 0} (j : Judges Passes Refuses) where
  -- where all pass, none is the first refused
  pub apart_of_list : (xs : List A) (e : E) → AllPass Passes xs → FirstRefused Passes Refuses xs e → ⊥
  apart_of_list [] e p r = r
  apart_of_list (x ∷ xs) e p (inl r) = j.apart x e p.0 r
  apart_of_list (x ∷ xs) e p (inr r) = apart_of_list xs e p.1 r.1

  -- the first refused is refused in one way at most
  pub one_of_list : (xs : List A) (e e' : E) → FirstRefused Passes Refuses xs e → FirstRefused Passes Refuses xs e' → e ≡ e'
  one_of_list [] e e' r r' = absurd r
  one_of_list (x ∷ xs) e e' (inl r) (inl r') = j.one x e e' r r'
  one_of_list (x ∷ xs) e e' (inl r) (inr r') = absurd (j.apart x e r'.0 r)
  one_of_list (x ∷ xs) e e' (inr r) (inl r') = absurd (j.apart x e' r.0 r')
  one_of_list (x ∷ xs) e e' (inr r) (inr r') = one_of_list xs e e' r.1 r'.1

  -- so the lists are judged as their items are
  pub judges_lists : Judges (AllPass Passes) (FirstRefused Passes Refuses)
  judges_lists = record { apart = apart_of_list; one = one_of_list }

module _ {A : Type 0} where
  -- a list has one first item at most
  pub one_first : (xs : List A) (x y : A) → IsFirst xs x → IsFirst xs y → x ≡ y
  one_first xs x y f g =
      let p : xs ≡ x ∷ f.0 = f.1 in
      let q : xs ≡ y ∷ g.0 = g.1 in
      cc

  -- a list without items has none
  pub none_first : (xs : List A) (x : A) → xs ≡ [] → IsFirst xs x → ⊥
  none_first xs x e f =
      let p : xs ≡ x ∷ f.0 = f.1 in
      absurd (cc)

  -- where no item is one of those before it, none is the first that is
  pub again_or_not : (same : A → A → Bool) (before xs : List A) (y : A) → NoneAgain same before xs → FirstAgain same before xs y → ⊥
  again_or_not same before [] y n f = f
  again_or_not same before (x ∷ xs) y n (inl f) =
      let p : list_any (same x) before ≡ true = f.0 in
      let q : list_any (same x) before ≡ false = n.0 in
      absurd (cc)
  again_or_not same before (x ∷ xs) y n (inr f) = again_or_not same (before ++ x ∷ []) xs y n.1 f.1

  -- one item at most is the first that is one of those before it
  pub one_again : (same : A → A → Bool) (before xs : List A) (y z : A) → FirstAgain same before xs y → FirstAgain same before xs z → y ≡ z
  one_again same before [] y z f g = absurd f
  one_again same before (x ∷ xs) y z (inl f) (inl g) = f.1 ∙ sym g.1
  one_again same before (x ∷ xs) y z (inl f) (inr g) =
      let p : list_any (same x) before ≡ true = f.0 in
      let q : list_any (same x) before ≡ false = g.0 in
      absurd (cc)
  one_again same before (x ∷ xs) y z (inr f) (inl g) =
      let p : list_any (same x) before ≡ true = g.0 in
      let q : list_any (same x) before ≡ false = f.0 in
      absurd (cc)
  one_again same before (x ∷ xs) y z (inr f) (inr g) = one_again same (before ++ x ∷ []) xs y z f.1 g.1

module _ {A : Type 0} {cmp : A → A → Ordering} (order : IsExact cmp) where
  one_least_by : (P : A → Type 0) (x y : A) → IsLeast cmp P x → IsLeast cmp P y → (o : Ordering) → cmp x y ≡ o → x ≡ y
  one_least_by P x y a b Less e = absurd (b.least x a.holds e)
  one_least_by P x y a b Equal e = order.exact x y e
  one_least_by P x y a b Greater e = absurd (a.least y b.holds (order.total.antisymm y x ∙ ap ordering_reverse e))

  -- there is one least at most
  pub one_least : (P : A → Type 0) (x y : A) → IsLeast cmp P x → IsLeast cmp P y → x ≡ y
  one_least P x y a b = one_least_by P x y a b (cmp x y) refl
