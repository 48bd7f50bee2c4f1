-- SPDX-License-Identifier: Apache-2.0
-- What is left to a loop stands in the list that it goes over.
use Rattle.std.proofs.Common.{◌≡◌, inl, inr, List, [], ◌∷◌, refl, sym, subst}
use Rattle.cedar_data.specs.Firsts.{SomePasses}

-- each of those that are left is one of the whole list
pub record StandsIn {A : Type 0} (whole left : List A) : Type 0 where
  pub stands : (x : A) → SomePasses (λ y. x ≡ y) left → SomePasses (λ y. x ≡ y) whole

module _ {A : Type 0} where
  pub StandsIn-start : (whole left : List A) → left ≡ whole → StandsIn whole left
  StandsIn-start whole left all = record { stands = λ x some. subst (SomePasses (λ y. x ≡ y)) all some }

  pub StandsIn-next : {whole left rest : List A} {x : A} → StandsIn whole left → left ≡ x ∷ rest → StandsIn whole rest
  StandsIn-next sofar at_left = record { stands = λ y some. sofar.stands y (subst (SomePasses (λ z. y ≡ z)) (sym at_left) (inr some)) }

  -- so is the next one
  pub StandsIn-here : {whole left rest : List A} {x : A} → StandsIn whole left → left ≡ x ∷ rest → SomePasses (λ y. x ≡ y) whole
  StandsIn-here {x = x} sofar at_left = sofar.stands x (subst (SomePasses (λ y. x ≡ y)) (sym at_left) (inl refl))

pub some-weaker : {A : Type 0} {P Q : A → Type 0} (xs : List A) → ((x : A) → P x → Q x) → SomePasses P xs → SomePasses Q xs
some-weaker [] f some = absurd some
some-weaker (x ∷ xs) f (inl is) = inl (f x is)
some-weaker (x ∷ xs) f (inr some) = inr (some-weaker xs f some)
