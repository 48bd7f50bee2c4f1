-- SPDX-License-Identifier: Apache-2.0
-- Lists whose items are related in turn, and maps made of them.
use Rattle.std.proofs.Common.{◌≡◌, ◌++◌, Bool, true, false, cond, List, [], ◌∷◌, fold, map, Option, Some, None, refl, sym, subst}
use Rattle.std.specs.BTreeMap.{insert_entry, is_at}
use Rattle.std.specs.List.{AllZip, flat_map}
use Rattle.std.specs.Map.{keys_of}
use Rattle.std.specs.Ordering.{match_ordering}
use Rattle.std.specs.declared.cmp.Ordering.{Ordering}
use Rattle.std.specs.declared.cmp.Ordering.TheVariants.{Less, Equal, Greater}
use Rattle.cedar_data.specs.Firsts.{AllPass}
use Rattle.cedar_data.specs.Maps.{get, map_of}
use Rattle.cedar_reread_world.specs.Rewritten.{SameKey}
use Rattle.cedar_reread_world.proofs.Tests.{inside}

-- lists one behind the other
pub zip_append : {A B : Type 0} (R : A → B → Type 0) (xs : List A) (ys : List B) (xs' : List A) (ys' : List B) → AllZip R xs ys → AllZip R xs' ys' → AllZip R (xs ++ xs') (ys ++ ys')
zip_append R [] [] xs' ys' z w = w
zip_append R [] (y ∷ ys) xs' ys' z w = absurd z
zip_append R (x ∷ xs) [] xs' ys' z w = absurd z
zip_append R (x ∷ xs) (y ∷ ys) xs' ys' z w = (z.0, zip_append R xs ys xs' ys' z.1 w)

-- what is weaker holds too
pub zip_weaker : {A B : Type 0} (R S : A → B → Type 0) → ((x : A) (y : B) → R x y → S x y) → (xs : List A) (ys : List B) → AllZip R xs ys → AllZip S xs ys
zip_weaker R S f [] [] z = tt
zip_weaker R S f [] (y ∷ ys) z = absurd z
zip_weaker R S f (x ∷ xs) [] z = absurd z
zip_weaker R S f (x ∷ xs) (y ∷ ys) z = (f x y z.0, zip_weaker R S f xs ys z.1)

-- each item to itself
pub zip_itself : {A : Type 0} (R : A → A → Type 0) → ((x : A) → R x x) → (xs : List A) → AllZip R xs xs
zip_itself R f [] = tt
zip_itself R f (x ∷ xs) = (f x, zip_itself R f xs)

-- what is given of each
pub zip_flat : {A B C D : Type 0} (R : A → B → Type 0) (S : C → D → Type 0) (f : A → List C) (g : B → List D) → ((x : A) (y : B) → R x y → AllZip S (f x) (g y))
    → (xs : List A) (ys : List B) → AllZip R xs ys → AllZip S (flat_map f xs) (flat_map g ys)
zip_flat R S f g h [] [] z = tt
zip_flat R S f g h [] (y ∷ ys) z = absurd z
zip_flat R S f g h (x ∷ xs) [] z = absurd z
zip_flat R S f g h (x ∷ xs) (y ∷ ys) z = zip_append S (f x) (g y) (flat_map f xs) (flat_map g ys) (h x y z.0) (zip_flat R S f g h xs ys z.1)

pub zip_map : {A B C D : Type 0} (R : A → B → Type 0) (S : C → D → Type 0) (f : A → C) (g : B → D) → ((x : A) (y : B) → R x y → S (f x) (g y))
    → (xs : List A) (ys : List B) → AllZip R xs ys → AllZip S (map f xs) (map g ys)
zip_map R S f g h [] [] z = tt
zip_map R S f g h [] (y ∷ ys) z = absurd z
zip_map R S f g h (x ∷ xs) [] z = absurd z
zip_map R S f g h (x ∷ xs) (y ∷ ys) z = (h x y z.0, zip_map R S f g h xs ys z.1)

-- the same is given of all, where it is of each
pub zip_same : {A B C : Type 0} (R : A → B → Type 0) (f : A → List C) (g : B → List C) → ((x : A) (y : B) → R x y → g y ≡ f x) → (xs : List A) (ys : List B) → AllZip R xs ys → flat_map g ys ≡ flat_map f xs
zip_same R f g h [] [] z = refl
zip_same R f g h [] (y ∷ ys) z = absurd z
zip_same R f g h (x ∷ xs) [] z = absurd z
zip_same R f g h (x ∷ xs) (y ∷ ys) z = λ i. h x y z.0 i ++ zip_same R f g h xs ys z.1 i

-- three lists in turn
pub zip_through : {A B C : Type 0} (R : A → B → Type 0) (Q : A → C → Type 0) (S : B → C → Type 0) → ((x : A) (y : B) (z : C) → R x y → Q x z → S y z)
    → (xs : List A) (ys : List B) (zs : List C) → AllZip R xs ys → AllZip Q xs zs → AllZip S ys zs
zip_through R Q S f [] [] [] r q = tt
zip_through R Q S f [] [] (z ∷ zs) r q = absurd q
zip_through R Q S f [] (y ∷ ys) zs r q = absurd r
zip_through R Q S f (x ∷ xs) [] zs r q = absurd r
zip_through R Q S f (x ∷ xs) (y ∷ ys) [] r q = absurd q
zip_through R Q S f (x ∷ xs) (y ∷ ys) (z ∷ zs) r q = (f x y z r.0 q.0, zip_through R Q S f xs ys zs r.1 q.1)

-- the keys are the same
pub zip_keys : {K V W : Type 0} (R : V → W → Type 0) (xs : List (K × V)) (ys : List (K × W)) → AllZip (SameKey R) xs ys → keys_of ys ≡ keys_of xs
zip_keys R [] [] z = refl
zip_keys R [] (y ∷ ys) z = absurd z
zip_keys R (x ∷ xs) [] z = absurd z
zip_keys R (x ∷ xs) (y ∷ ys) z = λ i. z.0.key i ∷ zip_keys R xs ys z.1 i

-- what is found in both: related values, or nothing
pub data Related {V W : Type 0} (R : V → W → Type 0) : Option V → Option W → Type 0 where
  neither : Related R None None
  both : {v : V} {w : W} → R v w → Related R (Some v) (Some w)

module _ {V W : Type 0} (R : V → W → Type 0) where
  -- what is found in one of them
  pub record Found (o : Option W) (v : V) : Type 0 where
    pub other : W
    pub found : o ≡ Some other
    pub related : R v other

  pub forth : (a : Option V) (b : Option W) (v : V) → Related R a b → a ≡ Some v → Found b v
  forth _ _ v neither e = absurd (cc)
  forth _ _ v (both {v = x} {w} h) e = record { other = w; found = refl; related = subst (λ x. R x w) (inside x v e) h }

module _ {K V W : Type 0} (cmp : K → K → Ordering) (R : V → W → Type 0) where
  put_in : (es : List (K × V)) (fs : List (K × W)) (k j : K) (v : V) (w : W) → j ≡ k → R v w → AllZip (SameKey R) es fs → AllZip (SameKey R) (insert_entry cmp es k v) (insert_entry cmp fs j w)
  put_in [] [] k j v w is r z = (record { key = is; value = r }, tt)
  put_in [] (f ∷ fs) k j v w is r z = absurd z
  put_in (e ∷ es) [] k j v w is r z = absurd z
  put_in (e ∷ es) (f ∷ fs) k j v w is r z =
      subst (λ (o : Ordering). AllZip (SameKey R) (insert_entry cmp (e ∷ es) k v) (match_ordering o ((j, w) ∷ f ∷ fs) ((f.0, w) ∷ fs) (f ∷ insert_entry cmp fs j w)))
      (λ i. cmp (sym is i) (sym z.0.key i)) (by (cmp k e.0) (put_in es fs k j v w is r z.1))
    where
      by : (o : Ordering) → AllZip (SameKey R) (insert_entry cmp es k v) (insert_entry cmp fs j w)
          → AllZip (SameKey R) (match_ordering o ((k, v) ∷ e ∷ es) ((e.0, v) ∷ es) (e ∷ insert_entry cmp es k v)) (match_ordering o ((j, w) ∷ f ∷ fs) ((f.0, w) ∷ fs) (f ∷ insert_entry cmp fs j w))
      by Less rest = (record { key = is; value = r }, z)
      by Equal rest = (record { key = z.0.key; value = r }, z.1)
      by Greater rest = (z.0, rest)

  put_all : (es : List (K × V)) (fs : List (K × W)) (xs : List (K × V)) (ys : List (K × W)) → AllZip (SameKey R) es fs → AllZip (SameKey R) xs ys
      → AllZip (SameKey R) (fold (λ es pair. insert_entry cmp es pair.0 pair.1) es xs) (fold (λ es pair. insert_entry cmp es pair.0 pair.1) fs ys)
  put_all es fs [] [] z w = z
  put_all es fs [] (y ∷ ys) z w = absurd w
  put_all es fs (x ∷ xs) [] z w = absurd w
  put_all es fs (x ∷ xs) (y ∷ ys) z w = put_all (insert_entry cmp es x.0 x.1) (insert_entry cmp fs y.0 y.1) xs ys (put_in es fs x.0 y.0 x.1 y.1 w.0.key w.0.value z) w.1

  -- so are the maps that pairs make
  pub zip_map_of : (xs : List (K × V)) (ys : List (K × W)) → AllZip (SameKey R) xs ys → AllZip (SameKey R) (map_of cmp xs) (map_of cmp ys)
  zip_map_of xs ys z = put_all [] [] xs ys tt z

  -- and what is found in them
  pub zip_get : (xs : List (K × V)) (ys : List (K × W)) (k : K) → AllZip (SameKey R) xs ys → Related R (get cmp xs k) (get cmp ys k)
  zip_get [] [] k z = neither
  zip_get [] (y ∷ ys) k z = absurd z
  zip_get (x ∷ xs) [] k z = absurd z
  zip_get (x ∷ xs) (y ∷ ys) k z =
      subst (λ (b : Bool). Related R (get cmp (x ∷ xs) k) (cond b (Some y.1) (get cmp ys k))) (λ i. is_at (cmp k) (sym z.0.key i)) (by (is_at (cmp k) x.0) (zip_get xs ys k z.1))
    where
      by : (b : Bool) → Related R (get cmp xs k) (get cmp ys k) → Related R (cond b (Some x.1) (get cmp xs k)) (cond b (Some y.1) (get cmp ys k))
      by true rest = both z.0.value
      by false rest = rest

-- what holds of each of the first holds of the second
pub pass_zip : {A B : Type 0} (P : A → Type 0) (Q : B → Type 0) (R : A → B → Type 0) → ((x : A) (y : B) → P x → R x y → Q y) → (xs : List A) (ys : List B) → AllPass P xs → AllZip R xs ys → AllPass Q ys
pass_zip P Q R f [] [] p z = tt
pass_zip P Q R f [] (y ∷ ys) p z = absurd z
pass_zip P Q R f (x ∷ xs) [] p z = absurd z
pass_zip P Q R f (x ∷ xs) (y ∷ ys) p z = (f x y p.0 z.0, pass_zip P Q R f xs ys p.1 z.1)

-- two that hold of each hold together
pub pass_both : {A : Type 0} (P Q : A → Type 0) → (xs : List A) → AllPass P xs → AllPass Q xs → AllPass (λ x. P x × Q x) xs
pass_both P Q [] p q = tt
pass_both P Q (x ∷ xs) p q = ((p.0, q.0), pass_both P Q xs p.1 q.1)

-- related the other way round
pub zip_turned : {A B : Type 0} (R : A → B → Type 0) (S : B → A → Type 0) → ((x : A) (y : B) → R x y → S y x) → (xs : List A) (ys : List B) → AllZip R xs ys → AllZip S ys xs
zip_turned R S f [] [] z = tt
zip_turned R S f [] (y ∷ ys) z = absurd z
zip_turned R S f (x ∷ xs) [] z = absurd z
zip_turned R S f (x ∷ xs) (y ∷ ys) z = (f x y z.0, zip_turned R S f xs ys z.1)

-- what holds of each of the first stands beside what is related to it
pub zip_beside : {A B : Type 0} (P : A → Type 0) (R : A → B → Type 0) → (xs : List A) (ys : List B) → AllPass P xs → AllZip R xs ys → AllZip (λ x y. P x × R x y) xs ys
zip_beside P R [] [] p z = tt
zip_beside P R [] (y ∷ ys) p z = absurd z
zip_beside P R (x ∷ xs) [] p z = absurd z
zip_beside P R (x ∷ xs) (y ∷ ys) p z = ((p.0, z.0), zip_beside P R xs ys p.1 z.1)
