-- SPDX-License-Identifier: Apache-2.0
-- What was picked in one pass is the least of those that pass the test.
use Rattle.std.proofs.Common.{◌≡◌, ◌⊎◌, ◌&&◌, inl, inr, Bool, true, false, cond, List, [], ◌∷◌, Option, Some, None, refl, sym, ap, ◌∙◌, subst}
use Rattle.std.proofs.lemmas.Cmp.{tied_itself}
use Rattle.std.specs.Cmp.{IsTotalOrder}
use Rattle.std.specs.Ordering.{is_lt}
use Rattle.std.specs.declared.cmp.Ordering.{Ordering}
use Rattle.std.specs.declared.cmp.Ordering.TheVariants.{Less, Equal, Greater}
use Rattle.cedar_data.specs.Firsts.{SomePasses}
use Rattle.cedar_declared.specs.Alone.{pick, pick_all}

-- it stands in the list
abbrev pub Stands : {A : Type 0} → List A → A → Type 0
Stands xs x = SomePasses (λ y. x ≡ y) xs

module _ {A : Type 0} (passes : A → Bool) (cmp : A → A → Ordering) where
  -- it is the least that was seen and that passes, or there is none
  abbrev pub IsBest : (A → Type 0) → Option A → Type 0
  IsBest Seen None = (x : A) → Seen x → passes x ≡ false
  IsBest Seen (Some best) = Seen best × (passes best ≡ true) × ((x : A) → Seen x → passes x ≡ true → cmp x best ≡ Less → ⊥)

  -- what was seen may be said in another way
  IsBest-same : (S T : A → Type 0) → ((x : A) → S x → T x) → ((x : A) → T x → S x) → (best : Option A) → IsBest S best → IsBest T best
  IsBest-same S T to back None is = λ x t. is x (back x t)
  IsBest-same S T to back (Some best) is = (to best is.0, is.1, λ x t. is.2 x (back x t))

  module _ (total : IsTotalOrder cmp) (Seen : A → Type 0) where
    not_before_itself : (x : A) → cmp x x ≡ Less → ⊥
    not_before_itself x less = let e : cmp x x ≡ Equal = tied_itself total x in let p : Less ≡ Equal = sym less ∙ e in absurd (cc)

    first_one : (n x : A) (b : Bool) → passes n ≡ b → x ≡ n → passes x ≡ b
    first_one n x b is same = ap passes same ∙ is

    step_none : (n : A) (b : Bool) → passes n ≡ b → IsBest Seen None → IsBest (λ x. Seen x ⊎ (x ≡ n)) (cond (b && true) (Some n) None)
    step_none n false is none = either
      where
        either : (x : A) → (Seen x ⊎ (x ≡ n)) → passes x ≡ false
        either x (inl seen) = none x seen
        either x (inr same) = first_one n x false is same
    step_none n true is none = (inr refl, is, either)
      where
        either : (x : A) → (Seen x ⊎ (x ≡ n)) → passes x ≡ true → cmp x n ≡ Less → ⊥
        either x (inl seen) passed less = let p : true ≡ false = sym passed ∙ none x seen in absurd (cc)
        either x (inr same) passed less = not_before_itself n (subst (λ y. cmp y n ≡ Less) same less)

    step_some : (n best : A) (b : Bool) (o : Ordering) → passes n ≡ b → cmp n best ≡ o → IsBest Seen (Some best) → IsBest (λ x. Seen x ⊎ (x ≡ n)) (cond (b && is_lt o) (Some n) (Some best))
    step_some n best false o is at sofar = (inl sofar.0, sofar.1, either)
      where
        either : (x : A) → (Seen x ⊎ (x ≡ n)) → passes x ≡ true → cmp x best ≡ Less → ⊥
        either x (inl seen) passed less = sofar.2 x seen passed less
        either x (inr same) passed less = let p : true ≡ false = sym passed ∙ first_one n x false is same in absurd (cc)
    step_some n best true Less is at sofar = (inr refl, is, either)
      where
        either : (x : A) → (Seen x ⊎ (x ≡ n)) → passes x ≡ true → cmp x n ≡ Less → ⊥
        either x (inl seen) passed less = sofar.2 x seen passed (total.trans x n best less at)
        either x (inr same) passed less = not_before_itself n (subst (λ y. cmp y n ≡ Less) same less)
    step_some n best true Equal is at sofar = (inl sofar.0, sofar.1, either)
      where
        either : (x : A) → (Seen x ⊎ (x ≡ n)) → passes x ≡ true → cmp x best ≡ Less → ⊥
        either x (inl seen) passed less = sofar.2 x seen passed less
        either x (inr same) passed less = let p : Less ≡ Equal = sym less ∙ ap (λ y. cmp y best) same ∙ at in absurd (cc)
    step_some n best true Greater is at sofar = (inl sofar.0, sofar.1, either)
      where
        either : (x : A) → (Seen x ⊎ (x ≡ n)) → passes x ≡ true → cmp x best ≡ Less → ⊥
        either x (inl seen) passed less = sofar.2 x seen passed less
        either x (inr same) passed less = let p : Less ≡ Greater = sym less ∙ ap (λ y. cmp y best) same ∙ at in absurd (cc)

    -- one more
    step : (best : Option A) (n : A) → IsBest Seen best → IsBest (λ x. Seen x ⊎ (x ≡ n)) (pick passes cmp best n)
    step None n sofar = step_none n (passes n) refl sofar
    step (Some best) n sofar = step_some n best (passes n) (cmp n best) refl refl sofar

  -- all of a list
  pub best_of : IsTotalOrder cmp → (Seen : A → Type 0) (best : Option A) (xs : List A) → IsBest Seen best → IsBest (λ x. Seen x ⊎ Stands xs x) (pick_all passes cmp best xs)
  best_of total Seen best [] sofar = IsBest-same Seen (λ x. Seen x ⊎ ⊥) (λ x s. inl s) back best sofar
    where
      back : (x : A) → (Seen x ⊎ ⊥) → Seen x
      back x (inl s) = s
      back x (inr e) = absurd (e)
  best_of total Seen best (n ∷ xs) sofar =
      IsBest-same (λ x. (Seen x ⊎ (x ≡ n)) ⊎ Stands xs x) (λ x. Seen x ⊎ Stands (n ∷ xs) x) to back (pick_all passes cmp (pick passes cmp best n) xs)
      (best_of total (λ x. Seen x ⊎ (x ≡ n)) (pick passes cmp best n) xs (step total Seen best n sofar))
    where
      to : (x : A) → ((Seen x ⊎ (x ≡ n)) ⊎ Stands xs x) → Seen x ⊎ Stands (n ∷ xs) x
      to x (inl (inl s)) = inl s
      to x (inl (inr e)) = inr (inl e)
      to x (inr s) = inr (inr s)

      back : (x : A) → (Seen x ⊎ Stands (n ∷ xs) x) → (Seen x ⊎ (x ≡ n)) ⊎ Stands xs x
      back x (inl s) = inl (inl s)
      back x (inr (inl e)) = inl (inr e)
      back x (inr (inr s)) = inr s
