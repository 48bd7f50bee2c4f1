-- SPDX-License-Identifier: Apache-2.0
-- Lists whose items a function changes, seen through others.
use Rattle.std.proofs.Common.{◌≡◌, ◌↔◌, Bool, true, false, cond, if◌then◌else◌, List, [], ◌∷◌, ◌++◌, map, flat_map, filter, Option, Some, None, option_map, option_to_list, refl, sym, ap, ◌∙◌, subst}
use Rattle.std.specs.List.{AllByRecursion}
use Rattle.cedar_text.proofs.Members.{map-append}

module _ {A B : Type 0} (u : A → B) where
  -- what f sees of the changed items is what g sees of the items, changed by w
  pub moved : {C D : Type 0} (f : B → D) (g : A → C) (w : C → D) → ((x : A) → f (u x) ≡ w (g x)) → (xs : List A) → map f (map u xs) ≡ map w (map g xs)
  moved f g w same [] = refl
  moved f g w same (x ∷ xs) = λ i. same x i ∷ moved f g w same xs i

  pub moved_option : {C D : Type 0} (f : B → D) (g : A → C) (w : C → D) → ((x : A) → f (u x) ≡ w (g x)) → (o : Option A) → option_map f (option_map u o) ≡ option_map w (option_map g o)
  moved_option f g w same None = refl
  moved_option f g w same (Some x) = ap Some (same x)

  pub moved_lists : {C D : Type 0} (f : B → List D) (g : A → List C) (w : C → D) → ((x : A) → f (u x) ≡ map w (g x)) → (xs : List A) → flat_map f (map u xs) ≡ map w (flat_map g xs)
  moved_lists f g w same [] = refl
  moved_lists f g w same (x ∷ xs) = (λ i. same x i ++ moved_lists f g w same xs i) ∙ sym (map-append w (g x) (flat_map g xs))

  -- where f sees of the changed items what g sees of the items
  pub kept : {D : Type 0} (f : B → D) (g : A → D) → ((x : A) → f (u x) ≡ g x) → (xs : List A) → map f (map u xs) ≡ map g xs
  kept f g same [] = refl
  kept f g same (x ∷ xs) = λ i. same x i ∷ kept f g same xs i

  pub kept_option : {D : Type 0} (f : B → D) (g : A → D) → ((x : A) → f (u x) ≡ g x) → (o : Option A) → option_map f (option_map u o) ≡ option_map g o
  kept_option f g same None = refl
  kept_option f g same (Some x) = ap Some (same x)

  pub kept_lists : {D : Type 0} (f : B → List D) (g : A → List D) → ((x : A) → f (u x) ≡ g x) → (xs : List A) → flat_map f (map u xs) ≡ flat_map g xs
  kept_lists f g same [] = refl
  kept_lists f g same (x ∷ xs) = λ i. same x i ++ kept_lists f g same xs i

  -- items that pass before and after
  pub moved_filter : (p : B → Bool) (q : A → Bool) → ((x : A) → p (u x) ≡ q x) → (xs : List A) → filter p (map u xs) ≡ map u (filter q xs)
  moved_filter p q same [] = refl
  moved_filter p q same (x ∷ xs) =
      ap (λ b. if b then (u x ∷ filter p (map u xs)) else filter p (map u xs)) (same x) ∙ by (q x) (moved_filter p q same xs)
    where
      by : (b : Bool) → filter p (map u xs) ≡ map u (filter q xs) → ◌≡◌ {A = List B} (if b then (u x ∷ filter p (map u xs)) else filter p (map u xs)) (map u (if b then (x ∷ filter q xs) else filter q xs))
      by true is = ap (λ l. u x ∷ l) is
      by false is = is

  pub moved_some : (o : Option A) → option_to_list (option_map u o) ≡ map u (option_to_list o)
  moved_some None = refl
  moved_some (Some x) = refl

  pub moved_cond : (b : Bool) (xs : List A) → ◌≡◌ {A = List B} (cond b (map u xs) []) (map u (cond b xs []))
  moved_cond true xs = refl
  moved_cond false xs = refl

  -- what holds of all changed items, where it holds of one exactly where Q holds of the item
  pub all_same : (P : B → Type 0) (Q : A → Type 0) → ((x : A) → P (u x) ↔ Q x) → (xs : List A) → AllByRecursion P (map u xs) ↔ AllByRecursion Q xs
  all_same P Q same [] = ((λ a. tt), (λ a. tt))
  all_same P Q same (x ∷ xs) =
      let here = same x in
      let others = all_same P Q same xs in
      ((λ a. (here.0 a.0, others.0 a.1)), (λ a. (here.1 a.0, others.1 a.1)))

-- what holds of equal things
pub at_equal : {A : Type 0} (P : A → Type 0) (x y : A) → x ≡ y → P x ↔ P y
at_equal P x y is = (subst P is, subst P (sym is))

pub both : {P Q P' Q' : Type 0} → P ↔ P' → Q ↔ Q' → (P × Q) ↔ (P' × Q')
both p q = ((λ a. (p.0 a.0, q.0 a.1)), (λ a. (p.1 a.0, q.1 a.1)))

pub after : {P Q R : Type 0} → P ↔ Q → Q ↔ R → P ↔ R
after p q = ((λ a. q.0 (p.0 a)), (λ a. p.1 (q.1 a)))

pub itself : (P : Type 0) → P ↔ P
itself P = ((λ p. p), (λ p. p))
