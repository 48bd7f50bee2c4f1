-- SPDX-License-Identifier: Apache-2.0
-- What is told of each declaration is told in whatever order and whatever namespaces they stand.
use Rattle.std.proofs.Common.{◌≡◌, ◌++◌, List, [], ◌∷◌, map, refl, sym, ap, ◌∙◌, subst}
use Rattle.std.proofs.lemmas.Grind.{flat_map-append}
use Rattle.std.proofs.lemmas.List.{append_assoc, map-append}
use Rattle.std.specs.List.{flat_map}
use Rattle.std.specs.Map.{keys_of}
use Rattle.cedar_data.specs.Firsts.{AllPass}
use Rattle.cedar_resolving_laws.specs.Reordered.{DeclareAlike, Reordered, same, both}
use Rattle.cedar_resolving_laws.proofs.Reordering.{before, exchanged, flat_reordered, followed, map_reordered, pass_reordered, turned}
use Rattle.cedar_resolving_laws.proofs.OnceEach.{keys_flat}
use Rattle.cedar_world.specs.Definitions.{Namespace}

-- nothing stays nothing
pub none_there : {A : Type 0} {xs ys : List A} → Reordered xs ys → xs ≡ [] → ys ≡ []
none_there {A} {xs} {ys} r e = by ys (pass_reordered (λ x. ⊥) r (subst (AllPass (λ x. ⊥)) (sym e) tt))
  where
    by : (zs : List A) → AllPass (λ x. ⊥) zs → zs ≡ []
    by [] h = refl
    by (z ∷ zs) h = absurd (h.0)

-- lists that are written otherwise
pub renamed : {A : Type 0} {as' bs cs ds : List A} → as' ≡ bs → Reordered bs cs → cs ≡ ds → Reordered as' ds
renamed {as' = as'} {cs = cs} p r q = subst (Reordered as') q (subst (λ l. Reordered l cs) (sym p) r)

-- two lists, one behind the other
pub behind_each : {A : Type 0} {xs ys zs ws : List A} → Reordered xs ys → Reordered zs ws → Reordered (xs ++ zs) (ys ++ ws)
behind_each {ys = ys} {zs = zs} r s = both (followed zs r) (before ys s)

module _ {X B : Type 0} (f g : X → List B) where
  -- what f gives of all, and then what g gives of them
  parted : (xs : List X) → Reordered (flat_map (λ x. f x ++ g x) xs) (flat_map f xs ++ flat_map g xs)
  parted [] = same
  parted (x ∷ xs) =
      both (before (f x ++ g x) (parted xs)) (renamed (append_assoc (f x) (g x) (flat_map f xs ++ flat_map g xs))
      (before (f x) (exchanged (g x) (flat_map f xs) (flat_map g xs)))
      (sym (append_assoc (f x) (flat_map f xs) (g x ++ flat_map g xs))))

  pub told_both : (xs ys : List X) → Reordered (flat_map f xs) (flat_map f ys) → Reordered (flat_map g xs) (flat_map g ys) → Reordered (flat_map (λ x. f x ++ g x) xs) (flat_map (λ x. f x ++ g x) ys)
  told_both xs ys r s = both (parted xs) (both (behind_each r s) (turned (parted ys)))

module _ {X A : Type 0} (part : X → List A) where
  pub inner : {B : Type 0} (f : A → List B) (xs : List X) → flat_map (λ x. flat_map f (part x)) xs ≡ flat_map f (flat_map part xs)
  inner f [] = refl
  inner f (x ∷ xs) = ap (λ l. flat_map f (part x) ++ l) (inner f xs) ∙ sym (flat_map-append f (part x) (flat_map part xs))

  pub inner_map : {B : Type 0} (f : A → B) (xs : List X) → flat_map (λ x. map f (part x)) xs ≡ map f (flat_map part xs)
  inner_map f [] = refl
  inner_map f (x ∷ xs) = ap (λ l. map f (part x) ++ l) (inner_map f xs) ∙ sym (map-append f (part x) (flat_map part xs))

  module _ (xs ys : List X) (r : Reordered (flat_map part xs) (flat_map part ys)) where
    pub told : {B : Type 0} (f : A → List B) → Reordered (flat_map (λ x. flat_map f (part x)) xs) (flat_map (λ x. flat_map f (part x)) ys)
    told f = renamed (inner f xs) (flat_reordered f r) (sym (inner f ys))

    pub told_map : {B : Type 0} (f : A → B) → Reordered (flat_map (λ x. map f (part x)) xs) (flat_map (λ x. map f (part x)) ys)
    told_map f = renamed (inner_map f xs) (map_reordered f r) (sym (inner_map f ys))

-- keys of entries
pub told_keys : {X K V : Type 0} (part : X → List (K × V)) (xs ys : List X) → Reordered (flat_map part xs) (flat_map part ys) → Reordered (flat_map (λ x. keys_of (part x)) xs) (flat_map (λ x. keys_of (part x)) ys)
told_keys part xs ys r = renamed (sym (keys_flat part xs)) (map_reordered (λ e. e.0) r) (keys_flat part ys)

-- with the same namespaces behind both
pub with_more : {xs ys : List Namespace} (zs : List Namespace) → DeclareAlike xs ys → DeclareAlike (xs ++ zs) (ys ++ zs)
with_more {xs} {ys} zs r = record {
  common_types = more (λ ns. ns.common_types) r.common_types;
  entity_types = more (λ ns. ns.entity_types) r.entity_types;
  actions = more (λ ns. ns.actions) r.actions;
}
  where
    more : {A : Type 0} (part : Namespace → List A) → Reordered (flat_map part xs) (flat_map part ys) → Reordered (flat_map part (xs ++ zs)) (flat_map part (ys ++ zs))
    more part r = renamed (flat_map-append part xs zs) (followed (flat_map part zs) r) (sym (flat_map-append part ys zs))

-- namespaces in another order declare the same
pub alike_reordered : {xs ys : List Namespace} → Reordered xs ys → DeclareAlike xs ys
alike_reordered r = record {
  common_types = flat_reordered (λ ns. ns.common_types) r;
  entity_types = flat_reordered (λ ns. ns.entity_types) r;
  actions = flat_reordered (λ ns. ns.actions) r;
}
