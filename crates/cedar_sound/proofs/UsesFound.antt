-- SPDX-License-Identifier: Apache-2.0
-- The uses of an entity type and of an action, found by their places.
use Rattle.std.proofs.Common.{◌≡◌, ◌++◌, Bool, true, false, cond, List, [], ◌∷◌, Some, None, map, refl, ap, ◌∙◌}
use Rattle.std.specs.BTreeMap.{is_at}
use Rattle.std.specs.Cmp.{IsTotalOrder}
use Rattle.std.specs.List.{AllByRecursion, flat_map}
use Rattle.std.specs.List.Sorted.{IsStrictlySortedBy}
use Rattle.std.specs.Map.{keys_of}
use Rattle.std.specs.Ordering.{is_eq}
use Rattle.std.specs.declared.cmp.Ordering.{Ordering}
use Rattle.std.specs.declared.cmp.Ordering.TheVariants.{Less, Equal, Greater}
use Rattle.cedar_data.specs.Maps.{IsSortedMap, get}
use Rattle.cedar_names.specs.Order.{words_cmp}
use Rattle.cedar_names.specs.OrderLaws.{words-total}
use Rattle.cedar_sound.specs.Uses.{at_place, same_place}
use Rattle.cedar_sound.proofs.SortedMaps.{absent}
use Rattle.cedar_duplicates.specs.of_schema_error.FullNames.{FullName, Uid, uid_cmp}
use Rattle.cedar_duplicates.specs.of_schema_error.NameReferences.{ActionReference, NameReference}
use Rattle.cedar_duplicates.specs.of_schema_error.Refusals.{Context, Shape, Tags, UsePlace}
use Rattle.cedar_world.specs.of_unfold.Written.{Written}
use Rattle.cedar_world.specs.Definitions.{ActionDefinition, EntityDefinition, shape_of, tags_of}
use Rattle.cedar_world.specs.Worlds.{uses_by}

from_eq : (o : Ordering) → is_eq o ≡ true → o ≡ Equal
from_eq Less e = absurd (cc)
from_eq Equal e = refl
from_eq Greater e = absurd (cc)

abbrev pub Types : Type 0
Types = List (FullName × EntityDefinition NameReference)

abbrev pub Actions : Type 0
Actions = List (Uid × ActionDefinition NameReference ActionReference)

abbrev pub WrittenUses : Type 0
WrittenUses = List (UsePlace × Written NameReference)

-- a list where nothing is found, before another
skip-left : (place : UsePlace) (xs ys : WrittenUses) → at_place place xs ≡ None → at_place place (xs ++ ys) ≡ at_place place ys
skip-left place [] ys none = refl
skip-left place (x ∷ xs) ys none = by (same_place place x.0) none (skip-left place xs ys)
  where
    by : (t : Bool) → cond t (Some x.1) (at_place place xs) ≡ None → (at_place place xs ≡ None → at_place place (xs ++ ys) ≡ at_place place ys)
        → cond t (Some x.1) (at_place place (xs ++ ys)) ≡ at_place place ys
    by true none rest = absurd (cc)
    by false none rest = rest none

-- what is found in the first list is found in both
stay-left : (place : UsePlace) (xs ys : WrittenUses) (t : Written NameReference) → at_place place xs ≡ Some t → at_place place (xs ++ ys) ≡ Some t
stay-left place [] ys t found = absurd (cc)
stay-left place (x ∷ xs) ys t found = by (same_place place x.0) found (stay-left place xs ys t)
  where
    by : (b : Bool) → cond b (Some x.1) (at_place place xs) ≡ Some t → (at_place place xs ≡ Some t → at_place place (xs ++ ys) ≡ Some t) → cond b (Some x.1) (at_place place (xs ++ ys)) ≡ Some t
    by true found rest = found
    by false found rest = rest found

-- the uses that f gives of entity types, at the places that p gives
abbrev pub by_types : (FullName → UsePlace) → (EntityDefinition NameReference → List (Written NameReference)) → Types → WrittenUses
by_types p f types = flat_map (λ e. map (λ t. (p e.0, t)) (f e.1)) types

module _ (p : FullName → UsePlace) (f : EntityDefinition NameReference → List (Written NameReference)) where
  -- none at another place
  apart : (place : UsePlace) → ((n : FullName) → same_place place (p n) ≡ false) → (n : FullName) (ts : List (Written NameReference)) (ys : WrittenUses) → at_place place (map (λ t. (p n, t)) ts ++ ys) ≡ at_place place ys
  apart place other n [] ys = refl
  apart place other n (t ∷ ts) ys = ap (λ b. cond b (Some t) (at_place place (map (λ t. (p n, t)) ts ++ ys))) (other n) ∙ apart place other n ts ys

  none-elsewhere : (place : UsePlace) → ((n : FullName) → same_place place (p n) ≡ false) → (types : Types) → at_place place (by_types p f types) ≡ None
  none-elsewhere place other [] = refl
  none-elsewhere place other (e ∷ types) = apart place other e.0 (f e.1) (by_types p f types) ∙ none-elsewhere place other types

  module _ (same : (a b : FullName) → same_place (p a) (p b) ≡ is_at (words_cmp a) b) where
    -- those of a name that isn't that of the entity type
    past : (n m : FullName) → is_at (words_cmp n) m ≡ false → (ts : List (Written NameReference)) (ys : WrittenUses) → at_place (p n) (map (λ t. (p m, t)) ts ++ ys) ≡ at_place (p n) ys
    past n m differ [] ys = refl
    past n m differ (t ∷ ts) ys = ap (λ b. cond b (Some t) (at_place (p n) (map (λ t. (p m, t)) ts ++ ys))) (same n m ∙ differ) ∙ past n m differ ts ys

    -- what f gives of an entity type is found
    pub here : (types : Types) (n : FullName) (d : EntityDefinition NameReference) (t : Written NameReference) → get words_cmp types n ≡ Some d → f d ≡ t ∷ [] → at_place (p n) (by_types p f types) ≡ Some t
    here [] n d t found is = absurd (cc)
    here (e ∷ types) n d t found is = by (is_at (words_cmp n) e.0) refl found (here types n d t)
      where
        by : (b : Bool) → is_at (words_cmp n) e.0 ≡ b → cond b (Some e.1) (get words_cmp types n) ≡ Some d → (get words_cmp types n ≡ Some d → f d ≡ t ∷ [] → at_place (p n) (by_types p f types) ≡ Some t)
            → at_place (p n) (map (λ t. (p e.0, t)) (f e.1) ++ by_types p f types) ≡ Some t
        by true at found rest =
            let one : e.1 ≡ d = cc in
            ap (λ ts. at_place (p n) (map (λ t. (p e.0, t)) ts ++ by_types p f types)) (ap f one ∙ is)
            ∙ ap (λ b. cond b (Some t) (at_place (p n) (by_types p f types))) (same n e.0 ∙ at)
        by false differ found rest = past n e.0 differ (f e.1) (by_types p f types) ∙ rest found is

    -- nothing is found of a name that no entity type has
    unfound : (types : Types) (n : FullName) → get words_cmp types n ≡ None → at_place (p n) (by_types p f types) ≡ None
    unfound [] n none = refl
    unfound (e ∷ types) n none = by (is_at (words_cmp n) e.0) refl none (unfound types n)
      where
        by : (b : Bool) → is_at (words_cmp n) e.0 ≡ b → cond b (Some e.1) (get words_cmp types n) ≡ None → (get words_cmp types n ≡ None → at_place (p n) (by_types p f types) ≡ None)
            → at_place (p n) (map (λ t. (p e.0, t)) (f e.1) ++ by_types p f types) ≡ None
        by true at none rest = absurd (cc)
        by false differ none rest = past n e.0 differ (f e.1) (by_types p f types) ∙ rest none

    equal-absent : (types : Types) (n m : FullName) → is_at (words_cmp n) m ≡ true → AllByRecursion (λ j. words_cmp m j ≡ Less) (keys_of types) → get words_cmp types n ≡ None
    equal-absent types n m at all = absent total n types (all-equal (keys_of types) all)
      where
        total : IsTotalOrder words_cmp
        total = words-total (λ (n : FullName). n)

        all-equal : (ks : List FullName) → AllByRecursion (λ j. words_cmp m j ≡ Less) ks → AllByRecursion (λ j. words_cmp n j ≡ Less) ks
        all-equal [] all = tt
        all-equal (k ∷ ks) all = (total.congr n m k (from_eq (words_cmp n m) at) ∙ all.0, all-equal ks all.1)

    -- where f gives nothing of an entity type, nothing is found
    pub nothing : (types : Types) (n : FullName) (d : EntityDefinition NameReference) → IsSortedMap words_cmp types → get words_cmp types n ≡ Some d → f d ≡ [] → at_place (p n) (by_types p f types) ≡ None
    unfolding IsStrictlySortedBy
    nothing [] n d sorted found is = absurd (cc)
    nothing (e ∷ types) n d sorted found is = by (is_at (words_cmp n) e.0) refl found (nothing types n d sorted.1)
      where
        by : (b : Bool) → is_at (words_cmp n) e.0 ≡ b → cond b (Some e.1) (get words_cmp types n) ≡ Some d → (get words_cmp types n ≡ Some d → f d ≡ [] → at_place (p n) (by_types p f types) ≡ None)
            → at_place (p n) (map (λ t. (p e.0, t)) (f e.1) ++ by_types p f types) ≡ None
        by true at found rest =
            let one : e.1 ≡ d = cc in
            ap (λ ts. at_place (p n) (map (λ t. (p e.0, t)) ts ++ by_types p f types)) (ap f one ∙ is)
            ∙ unfound types n (equal-absent types n e.0 at sorted.0)
        by false differ found rest = past n e.0 differ (f e.1) (by_types p f types) ∙ rest found is

-- the contexts of actions
abbrev pub by_actions : Actions → WrittenUses
by_actions actions = map (λ a. (Context a.0, a.1.context)) actions

no_context : (place : UsePlace) → ((u : Uid) → same_place place (Context u) ≡ false) → (actions : Actions) → at_place place (by_actions actions) ≡ None
no_context place other [] = refl
no_context place other (a ∷ actions) = ap (λ b. cond b (Some a.1.context) (at_place place (by_actions actions))) (other a.0) ∙ no_context place other actions

context_here : (actions : Actions) (u : Uid) (a : ActionDefinition NameReference ActionReference) → get uid_cmp actions u ≡ Some a → at_place (Context u) (by_actions actions) ≡ Some a.context
context_here [] u a found = absurd (cc)
context_here (x ∷ actions) u a found = by (is_at (uid_cmp u) x.0) found (context_here actions u a)
  where
    by : (b : Bool) → cond b (Some x.1) (get uid_cmp actions u) ≡ Some a → (get uid_cmp actions u ≡ Some a → at_place (Context u) (by_actions actions) ≡ Some a.context)
        → cond b (Some x.1.context) (at_place (Context u) (by_actions actions)) ≡ Some a.context
    by true found rest = let one : x.1 ≡ a = cc in ap (λ a. Some a.context) one
    by false found rest = rest found

module _ (types : Types) (actions : Actions) where
  abbrev pub shapes : WrittenUses
  shapes = by_types Shape shape_of types

  abbrev pub tags : WrittenUses
  tags = by_types Tags tags_of types

  -- the shape of an entity type
  pub shape_found : (n : FullName) (d : EntityDefinition NameReference) (t : Written NameReference) → get words_cmp types n ≡ Some d → shape_of d ≡ t ∷ [] → at_place (Shape n) (uses_by types actions) ≡ Some t
  shape_found n d t found is =
      stay-left (Shape n) (shapes ++ tags) (by_actions actions) t
      (stay-left (Shape n) shapes tags t (here Shape shape_of (λ a b. refl) types n d t found is))

  -- its tags
  pub tags_found : (n : FullName) (d : EntityDefinition NameReference) (t : Written NameReference) → get words_cmp types n ≡ Some d → tags_of d ≡ t ∷ [] → at_place (Tags n) (uses_by types actions) ≡ Some t
  tags_found n d t found is =
      stay-left (Tags n) (shapes ++ tags) (by_actions actions) t
      (skip-left (Tags n) shapes tags (none-elsewhere Shape shape_of (Tags n) (λ m. refl) types) ∙ here Tags tags_of (λ a b. refl) types n d t found is)

  -- none, where it has none
  pub no_tags_found : (n : FullName) (d : EntityDefinition NameReference) → IsSortedMap words_cmp types → get words_cmp types n ≡ Some d → tags_of d ≡ [] → at_place (Tags n) (uses_by types actions) ≡ None
  no_tags_found n d sorted found is =
      skip-left (Tags n) (shapes ++ tags) (by_actions actions)
      (skip-left (Tags n) shapes tags (none-elsewhere Shape shape_of (Tags n) (λ m. refl) types) ∙ nothing Tags tags_of (λ a b. refl) types n d sorted found is)
      ∙ no_context (Tags n) (λ u. refl) actions

  -- the context of an action
  pub context_found : (u : Uid) (a : ActionDefinition NameReference ActionReference) → get uid_cmp actions u ≡ Some a → at_place (Context u) (uses_by types actions) ≡ Some a.context
  context_found u a found =
      skip-left (Context u) (shapes ++ tags) (by_actions actions)
      (skip-left (Context u) shapes tags (none-elsewhere Shape shape_of (Context u) (λ m. refl) types) ∙ none-elsewhere Tags tags_of (Context u) (λ m. refl) types)
      ∙ context_here actions u a found
