-- SPDX-License-Identifier: Apache-2.0
-- Items that are among others.
use Rattle.std.proofs.Common.{◌⊎◌, ◌++◌, List, [], ◌∷◌, map, inl, inr, refl, ap}
use Rattle.cedar_data.proofs.Passing.{AllPass-map}
use Rattle.cedar_data.specs.Firsts.{AllPass}
use Rattle.cedar_schema_error.specs.KeptDeclarations.{IsAmong}

module _ {A : Type 0} where
  -- each item is among all
  pub each_among : (xs : List A) → AllPass (IsAmong xs) xs
  each_among [] = tt
  each_among (x ∷ xs) = (inl refl, AllPass-map (λ y among. inr among) xs (each_among xs))

  -- what is among the first is among both, and so is what is among the second; and there is nothing else
  pub among_left : (xs ys : List A) (x : A) → IsAmong xs x → IsAmong (xs ++ ys) x
  among_left [] ys x among = absurd among
  among_left (y ∷ xs) ys x (inl here) = inl here
  among_left (y ∷ xs) ys x (inr there) = inr (among_left xs ys x there)

  pub among_right : (xs ys : List A) (x : A) → IsAmong ys x → IsAmong (xs ++ ys) x
  among_right [] ys x among = among
  among_right (y ∷ xs) ys x among = inr (among_right xs ys x among)

  pub among_either : (xs ys : List A) (x : A) → IsAmong (xs ++ ys) x → IsAmong xs x ⊎ IsAmong ys x
  among_either [] ys x among = inr among
  among_either (y ∷ xs) ys x (inl here) = inl (inl here)
  among_either (y ∷ xs) ys x (inr there) = further (among_either xs ys x there)
    where
      further : IsAmong xs x ⊎ IsAmong ys x → IsAmong (y ∷ xs) x ⊎ IsAmong ys x
      further (inl first) = inl (inr first)
      further (inr second) = inr second

module _ {A B : Type 0} (f : A → B) where
  -- what is among others is so when all are seen through a function
  pub among_map : (xs : List A) (x : A) → IsAmong xs x → IsAmong (map f xs) (f x)
  among_map [] x among = absurd among
  among_map (y ∷ xs) x (inl here) = inl (ap f here)
  among_map (y ∷ xs) x (inr there) = inr (among_map xs x there)

  pub each_seen : (xs : List A) → AllPass (λ x. IsAmong (map f xs) (f x)) xs
  each_seen xs = AllPass-map (among_map xs) xs (each_among xs)
