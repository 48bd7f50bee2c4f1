-- SPDX-License-Identifier: Apache-2.0
-- Lists seen through a function: what parts give, put together.
use Rattle.std.proofs.Common.{◌≡◌, ◌++◌, Bool, true, false, List, [], ◌∷◌, Some, cond, map, option_to_list, refl, sym, ap, ◌∙◌}
use Rattle.std.proofs.lemmas.List.{map-append}
use Rattle.std.proofs.lemmas.List.Elements.{filter-append}
use Rattle.std.specs.List.{filter, find, flat_map}
use Rattle.cedar_missing.specs.Undeclared as code
use Rattle.cedar_world.specs.Missing as world

module _ {A B : Type 0} (f : A → B) where
  -- the first that passes, alone
  pub found_first : (p : A → Bool) (q : B → Bool) → ((x : A) → p x ≡ q (f x)) → (xs : List A) → map f (option_to_list (find p xs)) ≡ world.first_alone (filter q (map f xs))
  found_first p q same [] = refl
  found_first p q same (x ∷ xs) = by (p x) (found_first p q same xs) ∙ ap (λ b. world.first_alone (cond b (f x ∷ filter q (map f xs)) (filter q (map f xs)))) (same x)
    where
      by : (b : Bool) → map f (option_to_list (find p xs)) ≡ world.first_alone (filter q (map f xs))
          → map f (option_to_list (cond b (Some x) (find p xs))) ≡ world.first_alone (cond b (f x ∷ filter q (map f xs)) (filter q (map f xs)))
      by true rest = refl
      by false rest = rest

  -- the first list that isn't empty
  pub or_else_seen : (xs ys : List A) → map f (code.or_else xs ys) ≡ world.or_else (map f xs) (map f ys)
  or_else_seen [] ys = refl
  or_else_seen (x ∷ xs) ys = refl

  module _ {C D : Type 0} (k : C → D) (g : C → List A) (h : List D → List B)
      (nothing : h [] ≡ []) (splits : (y : D) (ys : List D) → h (y ∷ ys) ≡ h (y ∷ []) ++ h ys) (same : (x : C) → map f (g x) ≡ h (k x ∷ [])) where
    -- what each gives, where the whole gives what each alone gives
    pub one_by_one : (xs : List C) → map f (flat_map g xs) ≡ h (map k xs)
    one_by_one [] = sym nothing
    one_by_one (x ∷ xs) =
        map-append f (g x) (flat_map g xs) ∙ ap (λ l. l ++ map f (flat_map g xs)) (same x) ∙ ap (λ l. h (k x ∷ []) ++ l) (one_by_one xs) ∙ sym (splits (k x) (map k xs))

  module _ {C D : Type 0} (k : C → D) (g : C → List A) (h : D → List B) (same : (x : C) → map f (g x) ≡ h (k x)) where
    -- what each gives
    pub all_seen : (xs : List C) → map f (flat_map g xs) ≡ flat_map h (map k xs)
    all_seen [] = refl
    all_seen (x ∷ xs) = map-append f (g x) (flat_map g xs) ∙ ap (λ l. l ++ map f (flat_map g xs)) (same x) ∙ ap (λ l. h (k x) ++ l) (all_seen xs)

  module _ {C D : Type 0} (p : B → Bool) (k : C → D) (g : C → List A) (h : D → List B) (same : (x : C) → map f (g x) ≡ filter p (h (k x))) where
    -- what passes of what each gives
    pub passing_seen : (xs : List C) → map f (flat_map g xs) ≡ filter p (flat_map h (map k xs))
    passing_seen [] = refl
    passing_seen (x ∷ xs) =
        map-append f (g x) (flat_map g xs)
        ∙ ap (λ l. l ++ map f (flat_map g xs)) (same x)
        ∙ ap (λ l. filter p (h (k x)) ++ l) (passing_seen xs)
        ∙ sym (filter-append p (h (k x)) (flat_map h (map k xs)))

-- the same lists, given by others
pub same_given : {B C D : Type 0} (g : C → List B) (k : C → D) (h : D → List B) → ((x : C) → g x ≡ h (k x)) → (xs : List C) → flat_map g xs ≡ flat_map h (map k xs)
same_given g k h same [] = refl
same_given g k h same (x ∷ xs) = ap (λ l. l ++ flat_map g xs) (same x) ∙ ap (λ l. h (k x) ++ l) (same_given g k h same xs)

-- where each gives nothing
pub nothing_given : {A C : Type 0} (g : C → List A) → ((x : C) → g x ≡ []) → (xs : List C) → flat_map g xs ≡ []
nothing_given g none [] = refl
nothing_given g none (x ∷ xs) = ap (λ l. l ++ flat_map g xs) (none x) ∙ nothing_given g none xs
