-- SPDX-License-Identifier: Apache-2.0
-- Lists that are alike, item by item.
use Rattle.std.proofs.Common.{◌≡◌, List, [], ◌∷◌, ◌++◌, inl, inr, sym}
use Rattle.std.specs.List.{AllZip}
use Rattle.cedar_data.specs.Firsts.{AllPass, SomePasses, FirstRefused}

pub AllZip-append : {A B : Type 0} (R : A → B → Type 0) (xs xs' : List A) (ys ys' : List B) → AllZip R xs ys → AllZip R xs' ys' → AllZip R (xs ++ xs') (ys ++ ys')
AllZip-append R [] xs' [] ys' h k = k
AllZip-append R [] xs' (y ∷ ys) ys' h k = absurd h
AllZip-append R (x ∷ xs) xs' [] ys' h k = absurd h
AllZip-append R (x ∷ xs) xs' (y ∷ ys) ys' h k = (h.0, AllZip-append R xs xs' ys ys' h.1 k)

pub AllZip-flip : {A B : Type 0} (R : A → B → Type 0) (xs : List A) (ys : List B) → AllZip R xs ys → AllZip (λ b a. R a b) ys xs
AllZip-flip R [] [] h = tt
AllZip-flip R [] (y ∷ ys) h = absurd h
AllZip-flip R (x ∷ xs) [] h = absurd h
AllZip-flip R (x ∷ xs) (y ∷ ys) h = (h.0, AllZip-flip R xs ys h.1)

-- lists that are alike item by item pass and are refused alike
module _ {A B E : Type 0} (R : A → B → Type 0) (P : A → Type 0) (P' : B → Type 0) (F : A → E → Type 0) (F' : B → E → Type 0)
    (passes : (a : A) (b : B) → R a b → P a → P' b) (refuses : (a : A) (b : B) (e : E) → R a b → F a e → F' b e) where
  pub first_refused_alike : (xs : List A) (ys : List B) (e : E) → AllZip R xs ys → FirstRefused P F xs e → FirstRefused P' F' ys e
  first_refused_alike [] [] e z h = h
  first_refused_alike [] (y ∷ ys) e z h = absurd z
  first_refused_alike (x ∷ xs) [] e z h = absurd z
  first_refused_alike (x ∷ xs) (y ∷ ys) e z (inl h) = inl (refuses x y e z.0 h)
  first_refused_alike (x ∷ xs) (y ∷ ys) e z (inr h) = inr (passes x y z.0 h.0, first_refused_alike xs ys e z.1 h.1)

module _ {A B : Type 0} (R : A → B → Type 0) (P : A → Type 0) (P' : B → Type 0) (passes : (a : A) (b : B) → R a b → P a → P' b) where
  pub all_pass_alike : (xs : List A) (ys : List B) → AllZip R xs ys → AllPass P xs → AllPass P' ys
  all_pass_alike [] [] z h = tt
  all_pass_alike [] (y ∷ ys) z h = absurd z
  all_pass_alike (x ∷ xs) [] z h = absurd z
  all_pass_alike (x ∷ xs) (y ∷ ys) z h = (passes x y z.0 h.0, all_pass_alike xs ys z.1 h.1)

  pub some_passes_alike : (xs : List A) (ys : List B) → AllZip R xs ys → SomePasses P xs → SomePasses P' ys
  some_passes_alike [] [] z h = absurd h
  some_passes_alike [] (y ∷ ys) z h = absurd z
  some_passes_alike (x ∷ xs) [] z h = absurd z
  some_passes_alike (x ∷ xs) (y ∷ ys) z (inl h) = inl (passes x y z.0 h)
  some_passes_alike (x ∷ xs) (y ∷ ys) z (inr h) = inr (some_passes_alike xs ys z.1 h)

pub turned : {K A B : Type 0} (Q : A → B → Type 0) (xs : List (K × A)) (ys : List (K × B)) → AllZip (λ a b. (b.0 ≡ a.0) × Q a.1 b.1) xs ys → AllZip (λ b a. (a.0 ≡ b.0) × Q a.1 b.1) ys xs
turned Q [] [] h = tt
turned Q [] (y ∷ ys) h = absurd h
turned Q (x ∷ xs) [] h = absurd h
turned Q (x ∷ xs) (y ∷ ys) h = ((sym h.0.0, h.0.1), turned Q xs ys h.1)
