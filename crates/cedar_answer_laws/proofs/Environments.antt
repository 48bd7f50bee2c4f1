-- SPDX-License-Identifier: Apache-2.0
-- Each environment of a schema that a text denotes stands once.
use Rattle.std.proofs.Common.{◌≡◌, ℕ, zero, suc, ◌++◌, List, [], ◌∷◌, map, slice_get, Some, refl, sym, ap, ◌∙◌, subst}
use Rattle.std.specs.Bool.{⊤}
use Rattle.std.proofs.lemmas.Cmp.{tied_itself}
use Rattle.std.specs.Cmp.{IsTotalOrder}
use Rattle.std.specs.List.{AllByRecursion, AllZip, flat_map}
use Rattle.std.specs.List.Sorted.{IsStrictlySortedBy}
use Rattle.std.specs.Map.{keys_of}
use Rattle.std.specs.declared.cmp.Ordering.{Ordering}
use Rattle.std.specs.declared.cmp.Ordering.TheVariants.{Less, Equal}
use Rattle.cedar_request.specs.Requests.{Environment, environment, environments, environments_of, environments_with}
use Rattle.cedar_schema_error.specs.FullNames.{FullName, Uid}
use Rattle.cedar_schema_error.specs.NameReferences.{ActionReference, NameReference}
use Rattle.cedar_sound.proofs.NameOrders.{names_exact, uids_exact}
use Rattle.cedar_sound.proofs.SortedMaps.{sorted-map_of}
use Rattle.cedar_world.specs.Definitions.{ActionDefinition}
use Rattle.cedar_world.specs.Denotes.{Denotes, DenotesAction}
use Rattle.cedar_world.specs.Schemas.{Schema, SchemaAction}
use Rattle.cedar_world.specs.Worlds.{World, actions, all_namespaces}

-- ---- items whose keys differ

all_append : {A : Type 0} (P : A → Type 0) (xs ys : List A) → AllByRecursion P xs → AllByRecursion P ys → AllByRecursion P (xs ++ ys)
all_append P [] ys p q = q
all_append P (x ∷ xs) ys p q = (p.0, all_append P xs ys p.1 q)

module _ {X K : Type 0} (key : X → K) where
  -- no item has the key
  abbrev pub Lacks : K → List X → Type 0
  Lacks k xs = AllByRecursion (λ y. key y ≡ k → ⊥) xs

  -- no two have one key
  abbrev pub Apart : List X → Type 0
  Apart [] = ⊤
  Apart (x ∷ xs) = Lacks (key x) xs × Apart xs

  lacking : (k : K) (xs : List X) (i : ℕ) (x : X) → Lacks k xs → slice_get xs i ≡ Some x → key x ≡ k → ⊥
  lacking k [] i x lacks is same = absurd (cc)
  lacking k (y ∷ xs) zero x lacks is same = let here : y ≡ x = cc in lacks.0 (ap key here ∙ same)
  lacking k (y ∷ xs) (suc i) x lacks is same = lacking k xs i x lacks.1 is same

  -- items with one key stand at one place
  pub at_one_place : (xs : List X) (i j : ℕ) (x y : X) → Apart xs → slice_get xs i ≡ Some x → slice_get xs j ≡ Some y → key x ≡ key y → i ≡ j
  at_one_place [] i j x y apart is also same = absurd (cc)
  at_one_place (z ∷ xs) zero zero x y apart is also same = refl
  at_one_place (z ∷ xs) zero (suc j) x y apart is also same =
      let here : z ≡ x = cc in
      absurd (lacking (key z) xs j y apart.0 also (sym same ∙ sym (ap key here)))
  at_one_place (z ∷ xs) (suc i) zero x y apart is also same =
      let here : z ≡ y = cc in
      absurd (lacking (key z) xs i x apart.0 is (same ∙ sym (ap key here)))
  at_one_place (z ∷ xs) (suc i) (suc j) x y apart is also same = ap suc (at_one_place xs i j x y apart.1 is also same)

  apart_append : (xs ys : List X) → Apart xs → Apart ys → AllByRecursion (λ x. Lacks (key x) ys) xs → Apart (xs ++ ys)
  apart_append [] ys p q beside = q
  apart_append (x ∷ xs) ys p q beside = (all_append (λ y. key y ≡ key x → ⊥) xs ys p.0 beside.0, apart_append xs ys p.1 q beside.1)

-- keys that ascend differ
module _ {K : Type 0} {cmp : K → K → Ordering} (total : IsTotalOrder cmp) where
  lacks_less : (k : K) (ks : List K) → AllByRecursion (λ y. cmp k y ≡ Less) ks → Lacks (λ x. x) k ks
  lacks_less k [] less = tt
  lacks_less k (x ∷ ks) less = (λ same. not_less (sym (ap (cmp k) same) ∙ less.0), lacks_less k ks less.1)
    where
      not_less : cmp k k ≡ Less → ⊥
      not_less is = let tied : cmp k k ≡ Equal = tied_itself total k in absurd (cc)

  ascending_apart : (ks : List K) → IsStrictlySortedBy cmp ks → Apart (λ x. x) ks
  unfolding IsStrictlySortedBy
  ascending_apart [] sorted = tt
  ascending_apart (k ∷ ks) sorted = (lacks_less k ks sorted.0, ascending_apart ks sorted.1)

module _ {X K : Type 0} (key : X → K) where
  lacks_key : (k : K) (xs : List X) → Lacks (λ x. x) k (map key xs) → Lacks key k xs
  lacks_key k [] lacks = tt
  lacks_key k (x ∷ xs) lacks = (lacks.0, lacks_key k xs lacks.1)

  -- items whose keys differ
  apart_keys : (xs : List X) → Apart (λ x. x) (map key xs) → Apart key xs
  apart_keys [] apart = tt
  apart_keys (x ∷ xs) apart = (lacks_key (key x) xs apart.0, apart_keys xs apart.1)

-- lists of items, where the tag of each item is told by its key
module _ {A X K T : Type 0} (key : X → K) (tag_of : K → T) (tag : A → T) (items : A → List X) (tagged : (a : A) → AllByRecursion (λ x. tag_of (key x) ≡ tag a) (items a)) where
  untagged : (t : T) (a : A) (xs : List X) → (tag a ≡ t → ⊥) → AllByRecursion (λ x. tag_of (key x) ≡ tag a) xs → AllByRecursion (λ x. tag_of (key x) ≡ t → ⊥) xs
  untagged t a [] differ each = tt
  untagged t a (x ∷ xs) differ each = (λ same. differ (sym each.0 ∙ same), untagged t a xs differ each.1)

  others : (t : T) (made : List A) → Lacks tag t made → AllByRecursion (λ x. tag_of (key x) ≡ t → ⊥) (flat_map items made)
  others t [] lacks = tt
  others t (a ∷ made) lacks = all_append (λ x. tag_of (key x) ≡ t → ⊥) (items a) (flat_map items made) (untagged t a (items a) lacks.0 (tagged a)) (others t made lacks.1)

  lacks_tagged : (a : A) (x : X) → tag_of (key x) ≡ tag a → (ys : List X) → AllByRecursion (λ y. tag_of (key y) ≡ tag a → ⊥) ys → Lacks key (key x) ys
  lacks_tagged a x is [] each = tt
  lacks_tagged a x is (y ∷ ys) each = (λ same. each.0 (ap tag_of same ∙ is), lacks_tagged a x is ys each.1)

  beside : (a : A) (xs ys : List X) → AllByRecursion (λ x. tag_of (key x) ≡ tag a) xs → AllByRecursion (λ y. tag_of (key y) ≡ tag a → ⊥) ys → AllByRecursion (λ x. Lacks key (key x) ys) xs
  beside a [] ys each away = tt
  beside a (x ∷ xs) ys each away = (lacks_tagged a x each.0 ys away, beside a xs ys each.1 away)

  apart_each : (made : List A) → Apart tag made → AllByRecursion (λ a. Apart key (items a)) made → Apart key (flat_map items made)
  apart_each [] apart each = tt
  apart_each (a ∷ made) apart each =
      apart_append key (items a) (flat_map items made) each.0 (apart_each made apart.1 each.1) (beside a (items a) (flat_map items made) (tagged a) (others (tag a) made apart.0))

-- ---- environments

-- whose they are
abbrev pub Parties : Type 0
Parties = FullName × Uid × FullName

abbrev pub parties : Environment → Parties
parties env = (env.principal, env.action, env.resource)

abbrev principal_in : Parties → FullName
principal_in k = k.0

abbrev action_in : Parties → Uid
action_in k = k.1

abbrev resource_in : Parties → FullName
resource_in k = k.2

abbrev id_of : Uid × SchemaAction → Uid
id_of a = a.0

module _ (a : Uid × SchemaAction) (principal : FullName) where
  lacks_resource : (r : FullName) (rs : List FullName) → Lacks (λ x. x) r rs → Lacks parties (parties (environment a principal r)) (map (environment a principal) rs)
  lacks_resource r [] lacks = tt
  lacks_resource r (s ∷ rs) lacks = (λ same. lacks.0 (ap resource_in same), lacks_resource r rs lacks.1)

  resources_apart : (rs : List FullName) → Apart (λ x. x) rs → Apart parties (map (environment a principal) rs)
  resources_apart [] apart = tt
  resources_apart (r ∷ rs) apart = (lacks_resource r rs apart.0, resources_apart rs apart.1)

  of_principal : (rs : List FullName) → AllByRecursion (λ env. principal_in (parties env) ≡ principal) (map (environment a principal) rs)
  of_principal [] = tt
  of_principal (r ∷ rs) = (refl, of_principal rs)

  of_action : (rs : List FullName) → AllByRecursion (λ env. action_in (parties env) ≡ id_of a) (map (environment a principal) rs)
  of_action [] = tt
  of_action (r ∷ rs) = (refl, of_action rs)

module _ (a : Uid × SchemaAction) where
  all_of_action : (ps : List FullName) → AllByRecursion (λ env. action_in (parties env) ≡ id_of a) (flat_map (environments_with a) ps)
  all_of_action [] = tt
  all_of_action (p ∷ ps) = all_append (λ env. action_in (parties env) ≡ id_of a) (environments_with a p) (flat_map (environments_with a) ps) (of_action a p a.1.resources) (all_of_action ps)

  each_apart : (ps : List FullName) → Apart (λ x. x) a.1.resources → AllByRecursion (λ p. Apart parties (environments_with a p)) ps
  each_apart [] apart = tt
  each_apart (p ∷ ps) apart = (resources_apart a p a.1.resources apart, each_apart ps apart)

  action_apart : Apart (λ x. x) a.1.principals → Apart (λ x. x) a.1.resources → Apart parties (environments_of a)
  action_apart principals resources =
      apart_each parties principal_in (λ (p : FullName). p) (environments_with a) (λ p. of_principal a p a.1.resources) a.1.principals principals (each_apart a.1.principals resources)

-- ---- of a schema that a world denotes

-- an action under its id, as it is declared
abbrev DeclaredAction : Type 0
DeclaredAction = Uid × ActionDefinition NameReference ActionReference

module _ (W : World) where
  same_ids : (ds : List DeclaredAction) (made : List (Uid × SchemaAction)) → AllZip (DenotesAction W) ds made → keys_of made ≡ keys_of ds
  same_ids [] [] all = refl
  same_ids [] (a ∷ made) all = absurd all
  same_ids (d ∷ ds) [] all = absurd all
  same_ids (d ∷ ds) (a ∷ made) all = λ i. all.0.named i ∷ same_ids ds made all.1 i

  actions_apart : (ds : List DeclaredAction) (made : List (Uid × SchemaAction)) → AllZip (DenotesAction W) ds made → AllByRecursion (λ a. Apart parties (environments_of a)) made
  actions_apart [] [] all = tt
  actions_apart [] (a ∷ made) all = absurd all
  actions_apart (d ∷ ds) [] all = tt
  actions_apart (d ∷ ds) (a ∷ made) all =
      (action_apart a (ascending_apart names_exact.total a.1.principals all.0.principals.ascends) (ascending_apart names_exact.total a.1.resources all.0.resources.ascends), actions_apart ds made all.1)

  -- no two environments are of one principal, action and resource
  pub environments_apart : (S : Schema) → Denotes W S → Apart parties (environments S)
  environments_apart S denotes =
      let sorted = sorted-map_of uids_exact.total (flat_map (λ ns. ns.actions) (all_namespaces W)) in
      let ids = subst (λ (ks : List Uid). Apart (λ (x : Uid). x) ks) (sym (same_ids (actions W) S.actions denotes.actions)) (ascending_apart uids_exact.total (keys_of (actions W)) sorted) in
      apart_each parties action_in id_of environments_of (λ a. all_of_action a a.1.principals) S.actions (apart_keys id_of S.actions ids) (actions_apart (actions W) S.actions denotes.actions)
