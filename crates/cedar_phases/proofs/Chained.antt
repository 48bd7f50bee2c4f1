-- SPDX-License-Identifier: Apache-2.0
-- Chains, sets and lists of pairs, seen through what their members are.
use Rattle.std.proofs.Common.{◌≡◌, Bool, cond, true, false, List, [], ◌∷◌, Option, Some, None, map, refl}
use Rattle.std.specs.List.{AllZip}
use Rattle.std.specs.Map.{lookup}
use Rattle.std.specs.Option.{option_map}
use Rattle.std.specs.declared.cmp.Ordering.{Ordering}
use Rattle.cedar_types.specs.of_closure.Chains.{Reaches, one, more}
use Rattle.cedar_data.specs.Firsts.{AllPass}
use Rattle.cedar_data.specs.Sets.{IsSetOf}

-- a chain of steps is one of others, where each step is
pub chain_there : {A : Type 0} {R S : A → A → Type 0} → ((x y : A) → R x y → S x y) → (x y : A) → Reaches R x y → Reaches S x y
chain_there f x y (one s) = one (f x y s)
chain_there f x y (more {b = m} s rest) = more (f x m s) (chain_there f m y rest)

-- a set of what has one property is that of what has another, where both say the same
pub set_there : {K : Type 0} (cmp : K → K → Ordering) (P Q : K → Type 0) → ((k : K) → P k → Q k) → ((k : K) → Q k → P k) → (ks : List K) → IsSetOf cmp P ks → IsSetOf cmp Q ks
set_there cmp P Q f g ks s = record { ascends = s.ascends; members = λ k. ((λ h. f k ((s.members k).0 h)), (λ h. (s.members k).1 (g k h))) }

-- what is found among changed values
pub lookup_through : {K J V W : Type 0} (p : J → Bool) (key : K → J) (f : V → W) (es : List (K × V)) → lookup p (map (λ e. (key e.0, f e.1)) es) ≡ option_map f (lookup (λ k. p (key k)) es)
lookup_through p key f [] = refl
lookup_through p key f (e ∷ es) = by (p (key e.0)) (lookup_through p key f es)
  where
    by : (b : Bool) → lookup p (map (λ e. (key e.0, f e.1)) es) ≡ option_map f (lookup (λ k. p (key k)) es)
        → cond b (Some (f e.1)) (lookup p (map (λ e. (key e.0, f e.1)) es)) ≡ option_map f (cond b (Some e.1) (lookup (λ k. p (key k)) es))
    by true rest = refl
    by false rest = rest

-- what a value was changed from
pub unchanged : {V W : Type 0} (f : V → W) (o : Option V) (w : W) → option_map f o ≡ Some w → (v : V) × (o ≡ Some v) × (f v ≡ w)
unchanged f None w e = absurd (cc)
unchanged f (Some v) w e = (v, refl, inside (f v) w e)
  where
    inside : {A : Type 0} (x y : A) → Some x ≡ Some y → x ≡ y
    inside x y e = cc

-- three lists, item by item: the first and the second tell the same, each of the second passes, and the third is made of the first
pub zip_through : {A B C T D : Type 0} (f : A → T) (g : B → T) (h : C → D) (P : B → Type 0) (R : A → C → Type 0) (S : B → D → Type 0)
    → ((a : A) (b : B) (c : C) → f a ≡ g b → P b → R a c → S b (h c))
    → (as' : List A) (bs : List B) (cs : List C) → map f as' ≡ map g bs → AllPass P bs → AllZip R as' cs → AllZip S bs (map h cs)
zip_through f g h P R S step [] [] [] e p r = tt
zip_through f g h P R S step [] [] (c ∷ cs) e p r = absurd r
zip_through f g h P R S step [] (b ∷ bs) cs e p r = absurd (cc)
zip_through f g h P R S step (a ∷ as') [] cs e p r = absurd (cc)
zip_through f g h P R S step (a ∷ as') (b ∷ bs) [] e p r = absurd r
zip_through f g h P R S step (a ∷ as') (b ∷ bs) (c ∷ cs) e p r =
    let both = parts (f a) (g b) (map f as') (map g bs) e in
    (step a b c both.0 p.0 r.0, zip_through f g h P R S step as' bs cs both.1 p.1 r.1)
  where
    parts : {T : Type 0} (x y : T) (xs ys : List T) → x ∷ xs ≡ y ∷ ys → (x ≡ y) × (xs ≡ ys)
    parts x y xs ys e = (cc, cc)
