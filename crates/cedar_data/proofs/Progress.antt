-- SPDX-License-Identifier: Apache-2.0
-- Loops over a list: what they have done and what is left make the whole.
use Rattle.std.proofs.Common.{◌≡◌, List, [], ◌∷◌, ◌++◌, refl, sym, ap, ◌∙◌, subst, append_assoc}
use Rattle.std.proofs.lemmas.List.{append-nil}
use Rattle.std.specs.List.{AllZip}

-- a loop over `whole` that has `left` before it has done the items before, of which P holds
pub record Has {A : Type 0} (P : List A → Type 0) (whole left : List A) : Type 0 where
  pub done : List A
  pub split : done ++ left ≡ whole
  pub holds : P done

module _ {A : Type 0} where
  -- before the first item
  pub Has-start : (P : List A → Type 0) (whole left : List A) → left ≡ whole → P [] → Has P whole left
  Has-start P whole left all none = record { done = []; split = all; holds = none }

  -- one item more
  pub Has-next : {P Q : List A → Type 0} {whole left rest : List A} {x : A}
      → Has P whole left → left ≡ x ∷ rest → ((done : List A) → P done → Q (done ++ x ∷ [])) → Has Q whole rest
  Has-next {rest = rest} {x = x} sofar first more = record {
    done = sofar.done ++ x ∷ [];
    split = append_assoc sofar.done (x ∷ []) rest ∙ ap (λ l. sofar.done ++ l) (sym first) ∙ sofar.split;
    holds = more sofar.done sofar.holds;
  }

  -- after the last
  pub Has-end : {P : List A → Type 0} {whole left : List A} → Has P whole left → left ≡ [] → P whole
  Has-end {P} {whole} {left} sofar none =
      subst P (sym (append-nil sofar.done) ∙ ap (λ l. sofar.done ++ l) (sym none) ∙ sofar.split) sofar.holds

module _ {A B : Type 0} (R : A → B → Type 0) where
  -- one pair more
  pub AllZip-more : (xs : List A) (ys : List B) (x : A) (y : B) → AllZip R xs ys → R x y → AllZip R (xs ++ x ∷ []) (ys ++ y ∷ [])
  AllZip-more [] [] x y each r = (r, tt)
  AllZip-more [] (_ ∷ ys) x y each r = absurd each
  AllZip-more (_ ∷ xs) [] x y each r = absurd each
  AllZip-more (_ ∷ xs) (_ ∷ ys) x y each r = (each.0, AllZip-more xs ys x y each.1 r)

  -- each of the items that are done has the one that is made of it
  abbrev pub Aligned : List A → List A → List B → Type 0
  Aligned whole left made = Has (λ done. AllZip R done made) whole left

  pub Aligned-start : (whole left : List A) (made : List B) → left ≡ whole → made ≡ [] → Aligned whole left made
  Aligned-start whole left made all none = Has-start (λ done. AllZip R done made) whole left all (subst (λ (l : List B). AllZip R [] l) (sym none) tt)

  pub Aligned-next : {whole left rest : List A} {made more : List B} (x : A) (y : B)
      → Aligned whole left made → left ≡ x ∷ rest → R x y → more ≡ made ++ y ∷ [] → Aligned whole rest more
  Aligned-next {made = made} {more = more} x y sofar first r put =
      Has-next sofar first (λ done each. subst (λ (l : List B). AllZip R (done ++ x ∷ []) l) (sym put) (AllZip-more done made x y each r))

  pub Aligned-end : {whole left : List A} {made : List B} → Aligned whole left made → left ≡ [] → AllZip R whole made
  Aligned-end sofar none = Has-end sofar none

-- one list at most is made item by item, where one item is
pub one_zip : {A B : Type 0} (R : A → B → Type 0) → ((x : A) (y z : B) → R x y → R x z → y ≡ z) → (xs : List A) (ys zs : List B) → AllZip R xs ys → AllZip R xs zs → ys ≡ zs
one_zip R one [] [] [] h k = refl
one_zip R one [] (y ∷ ys) zs h k = absurd h
one_zip R one [] [] (z ∷ zs) h k = absurd k
one_zip R one (x ∷ xs) [] zs h k = absurd h
one_zip R one (x ∷ xs) (y ∷ ys) [] h k = absurd k
one_zip R one (x ∷ xs) (y ∷ ys) (z ∷ zs) h k =
    let first : y ≡ z = one x y z h.0 k.0 in
    let rest : ys ≡ zs = one_zip R one xs ys zs h.1 k.1 in
    λ i. first i ∷ rest i
