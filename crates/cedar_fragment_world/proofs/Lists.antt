-- SPDX-License-Identifier: Apache-2.0
-- Lists and sets that are seen through functions.
use Rattle.std.proofs.Common.{◌≡◌, Bool, true, false, cond, List, [], ◌∷◌, ◌++◌, map, Option, Some, None, option_map, refl, sym, ap, ◌∙◌}
use Rattle.std.specs.List.{filter, flat_map}
use Rattle.std.specs.declared.cmp.Ordering.{Ordering}
use Rattle.cedar_data.specs.Sets.{set_of}
use Rattle.cedar_namespace_definitions.proofs.OrderedSets.{seen_set}

module _ {A B C : Type 0} where
  -- items seen twice
  pub seen_twice : (f : B → C) (g : A → B) (h : A → C) → ((x : A) → f (g x) ≡ h x) → (xs : List A) → map f (map g xs) ≡ map h xs
  seen_twice f g h same [] = refl
  seen_twice f g h same (x ∷ xs) = λ i. same x i ∷ seen_twice f g h same xs i

  -- the lists of items that are seen
  pub seen_lists : (f : A → List C) (g : B → List C) (see : A → B) → ((x : A) → f x ≡ g (see x)) → (xs : List A) → flat_map f xs ≡ flat_map g (map see xs)
  seen_lists f g see same [] = refl
  seen_lists f g see same (x ∷ xs) = λ i. same x i ++ seen_lists f g see same xs i

  -- what is told of those that pass
  pub seen_passing : (f : A → C) (g : B → C) (passes : B → Bool) (see : A → B) → ((x : A) → f x ≡ g (see x)) → (xs : List A) → map f (filter (λ x. passes (see x)) xs) ≡ map g (filter passes (map see xs))
  seen_passing f g passes see same [] = refl
  seen_passing f g passes see same (x ∷ xs) = by (passes (see x)) (seen_passing f g passes see same xs)
    where
      by : (b : Bool) → map f (filter (λ x. passes (see x)) xs) ≡ map g (filter passes (map see xs))
          → map f (cond b (x ∷ filter (λ x. passes (see x)) xs) (filter (λ x. passes (see x)) xs)) ≡ map g (cond b (see x ∷ filter passes (map see xs)) (filter passes (map see xs)))
      by true others = λ i. same x i ∷ others i
      by false others = others

-- items seen in two ways
pub seen_both : {A B C D : Type 0} (f : B → C) (g : A → B) (h : D → C) (k : A → D) → ((x : A) → f (g x) ≡ h (k x)) → (xs : List A) → map f (map g xs) ≡ map h (map k xs)
seen_both f g h k same [] = refl
seen_both f g h k same (x ∷ xs) = λ i. same x i ∷ seen_both f g h k same xs i

pub option_both : {A B C D : Type 0} (f : B → C) (g : A → B) (h : D → C) (k : A → D) → ((x : A) → f (g x) ≡ h (k x)) → (o : Option A) → option_map f (option_map g o) ≡ option_map h (option_map k o)
option_both f g h k same None = refl
option_both f g h k same (Some x) = ap Some (same x)

-- a set seen through another in the same order
pub sets_alike : {A B C D : Type 0} (order : A → A → Ordering) (cmp : B → B → Ordering) (cmp' : C → C → Ordering) (f : A → B) (see : A → D) (g : D → C) (h : B → C)
    → ((x y : A) → order x y ≡ cmp (f x) (f y)) → ((x y : A) → order x y ≡ cmp' (g (see x)) (g (see y))) → ((x : A) → h (f x) ≡ g (see x)) → (xs : List A)
    → map h (set_of cmp (map f xs)) ≡ set_of cmp' (map g (map see xs))
sets_alike order cmp cmp' f see g h first second same xs =
    ap (map h) (sym (seen_set order cmp f first xs)) ∙ seen_twice h f (λ x. g (see x)) same (set_of order xs) ∙ seen_set order cmp' (λ x. g (see x)) second xs
    ∙ ap (set_of cmp') (sym (seen_twice g see (λ x. g (see x)) (λ x. refl) xs))
