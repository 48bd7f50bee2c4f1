-- SPDX-License-Identifier: Apache-2.0
-- Each item passes or is refused; so all of a list pass, or one of them is the first that is refused.
use Rattle.std.proofs.Common.{◌≡◌, ◌⊎◌, ◌++◌, inl, inr, Bool, true, false, List, [], ◌∷◌, refl}
use Rattle.std.specs.List.{list_any}
use Rattle.cedar_data.specs.Firsts.{AllPass, FirstAgain, FirstRefused, IsFirst, NoneAgain, SomePasses}

module _ {A E : Type 0} (Passes : A → Type 0) (Refuses : A → E → Type 0) where
  -- an item passes, or is refused
  abbrev pub Judged : A → Type 0
  Judged x = Passes x ⊎ ((e : E) × Refuses x e)

  -- all pass, or one is the first that is refused
  abbrev pub AllJudged : List A → Type 0
  AllJudged xs = AllPass Passes xs ⊎ ((e : E) × FirstRefused Passes Refuses xs e)

  behind : (x : A) (xs : List A) → Passes x → AllJudged xs → AllJudged (x ∷ xs)
  behind x xs p (inl all) = inl (p, all)
  behind x xs p (inr refused) = inr (refused.0, inr (p, refused.1))

  -- an item is judged, and then the others where it passes
  pub first_judged : (x : A) (xs : List A) → Judged x → (Passes x → AllJudged xs) → AllJudged (x ∷ xs)
  first_judged x xs (inl p) others = behind x xs p (others p)
  first_judged x xs (inr refused) others = inr (refused.0, inl refused.1)

  -- a list is judged whose items are
  pub all_judged : (xs : List A) → AllPass Judged xs → AllJudged xs
  all_judged [] each = inl tt
  all_judged (x ∷ xs) each = first_judged x xs each.0 (λ p. all_judged xs each.1)

module _ {A : Type 0} where
  -- a list is empty, or has a first and a rest
  pub empty_or_not : (xs : List A) → (xs ≡ []) ⊎ ((x : A) × IsFirst xs x)
  empty_or_not [] = inl refl
  empty_or_not (x ∷ xs) = inr (x, (xs, refl))

  -- no item is one of those before it, or one is the first that is
  pub again_or_none : (same : A → A → Bool) (before xs : List A) → NoneAgain same before xs ⊎ ((y : A) × FirstAgain same before xs y)
  again_or_none same before [] = inl tt
  again_or_none same before (x ∷ xs) = by (list_any (same x) before) refl (again_or_none same (before ++ x ∷ []) xs)
    where
      by : (b : Bool) → list_any (same x) before ≡ b → NoneAgain same (before ++ x ∷ []) xs ⊎ ((y : A) × FirstAgain same (before ++ x ∷ []) xs y)
          → NoneAgain same before (x ∷ xs) ⊎ ((y : A) × FirstAgain same before (x ∷ xs) y)
      by true is rest = inr (x, inl (is, refl))
      by false is (inl none) = inl (is, none)
      by false is (inr later) = inr (later.0, inr (is, later.1))

  -- what holds of each item
  pub each_item : (P : A → Type 0) → ((x : A) → P x) → (xs : List A) → AllPass P xs
  each_item P all [] = tt
  each_item P all (x ∷ xs) = (all x, each_item P all xs)

  -- what holds of some item
  pub some_weaker : (P Q : A → Type 0) → ((x : A) → P x → Q x) → (xs : List A) → SomePasses P xs → SomePasses Q xs
  some_weaker P Q f [] none = none
  some_weaker P Q f (x ∷ xs) (inl p) = inl (f x p)
  some_weaker P Q f (x ∷ xs) (inr some) = inr (some_weaker P Q f xs some)

  pub from_some : (P : A → Type 0) (Q : Type 0) → ((x : A) → P x → Q) → (xs : List A) → SomePasses P xs → Q
  from_some P Q f [] none = absurd none
  from_some P Q f (x ∷ xs) (inl p) = f x p
  from_some P Q f (x ∷ xs) (inr some) = from_some P Q f xs some

  pub some_front : (P : A → Type 0) (xs ys : List A) → SomePasses P xs → SomePasses P (xs ++ ys)
  some_front P [] ys none = absurd none
  some_front P (x ∷ xs) ys (inl p) = inl p
  some_front P (x ∷ xs) ys (inr some) = inr (some_front P xs ys some)

  pub some_back : (P : A → Type 0) (xs ys : List A) → SomePasses P ys → SomePasses P (xs ++ ys)
  some_back P [] ys some = some
  some_back P (x ∷ xs) ys some = inr (some_back P xs ys some)
