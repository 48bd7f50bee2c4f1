-- SPDX-License-Identifier: Apache-2.0
-- A loop that gathers what items give, and stops at the first that is refused.
use Rattle.std.proofs.Common.{◌≡◌, List, map, [], ◌∷◌, ◌++◌, inl, inr, refl, sym, ap, subst, append_assoc}
use Rattle.std.proofs.lemmas.List.{append-nil}
use Rattle.std.specs.List.{AllZip}
use Rattle.std.specs.Map.{keys_of}
use Rattle.cedar_data.specs.Firsts.{AllPass, FirstRefused}

module _ {A B E : Type 0} (Gives : A → B → Type 0) (Passes : A → Type 0) (Refuses : A → E → Type 0) where
  -- what is left decides the whole
  pub record Gathering (whole left : List A) (made : List B) : Type 0 where
    pub fits : (bs : List B) → AllZip Gives left bs → AllZip Gives whole (made ++ bs)
    pub refused : (e : E) → FirstRefused Passes Refuses left e → FirstRefused Passes Refuses whole e

  pub Gathering-start : (whole : List A) → Gathering whole whole []
  Gathering-start whole = record { fits = λ bs z. z; refused = λ e r. r }

  module _ {whole left : List A} {made : List B} (g : Gathering whole left made) where
    pub Gathering-next : (a : A) (rest : List A) (b : B) (made' : List B) → left ≡ a ∷ rest → made' ≡ made ++ b ∷ [] → Gives a b → Passes a → Gathering whole rest made'
    Gathering-next a rest b made' first pushed gives passes = subst (Gathering whole rest) (sym pushed) (record {
      fits = λ bs z. subst (AllZip Gives whole) (sym (append_assoc made (b ∷ []) bs)) (g.fits (b ∷ bs) (subst (λ l. AllZip Gives l (b ∷ bs)) (sym first) (gives, z)));
      refused = λ e r. g.refused e (subst (λ l. FirstRefused Passes Refuses l e) (sym first) (inr (passes, r)));
    })

    pub Gathering-end : left ≡ [] → AllZip Gives whole made
    Gathering-end ended = subst (AllZip Gives whole) (append-nil made) (g.fits [] (subst (λ l. AllZip Gives l []) (sym ended) tt))

    pub Gathering-stop : (a : A) (rest : List A) (e : E) → left ≡ a ∷ rest → Refuses a e → FirstRefused Passes Refuses whole e
    Gathering-stop a rest e first refuses = g.refused e (subst (λ l. FirstRefused Passes Refuses l e) (sym first) (inl refuses))

-- what holds of each pair holds of more
pub zip-map : {A B : Type 0} {R S : A → B → Type 0} → ((a : A) (b : B) → R a b → S a b) → (xs : List A) (ys : List B) → AllZip R xs ys → AllZip S xs ys
zip-map f [] [] z = tt
zip-map f [] (y ∷ ys) z = absurd z
zip-map f (x ∷ xs) [] z = absurd z
zip-map f (x ∷ xs) (y ∷ ys) z = (f x y z.0, zip-map f xs ys z.1)

-- and of each first
pub zip-pass : {A B : Type 0} {R : A → B → Type 0} {P : A → Type 0} → ((a : A) (b : B) → R a b → P a) → (xs : List A) (ys : List B) → AllZip R xs ys → AllPass P xs
zip-pass f [] [] z = tt
zip-pass f [] (y ∷ ys) z = absurd z
zip-pass f (x ∷ xs) [] z = absurd z
zip-pass f (x ∷ xs) (y ∷ ys) z = (f x y z.0, zip-pass f xs ys z.1)

-- the keys and the entries of a map, after one was put behind the others
pub keys-push : {K V : Type 0} (made : List (K × V)) (key : K) (v : V) → keys_of (made ++ (key, v) ∷ []) ≡ keys_of made ++ key ∷ []
keys-push [] key v = refl
keys-push (e ∷ es) key v = ap (λ ks. e.0 ∷ ks) (keys-push es key v)

pub map-push : {K J V W : Type 0} (f : K → J) (g : V → W) (made : List (K × V)) (key : K) (v : V) → map {B = J × W} (λ e. (f e.0, g e.1)) (made ++ (key, v) ∷ []) ≡ map {B = J × W} (λ e. (f e.0, g e.1)) made ++ (f key, g v) ∷ []
map-push f g [] key v = refl
map-push {J = J} {W = W} f g (e ∷ es) key v = ap (λ (l : List (J × W)). (f e.0, g e.1) ∷ l) (map-push f g es key v)
