-- SPDX-License-Identifier: Apache-2.0
-- Uses of types stand in the order of their places.
use Rattle.std.proofs.Common.{◌≡◌, List, [], ◌∷◌, ◌++◌, map, Option, Some, None, refl, sym, ap, ◌∙◌, subst}
use Rattle.std.specs.Prelude.{option_to_list}
use Rattle.std.specs.List.{AllByRecursion, flat_map}
use Rattle.std.specs.List.Sorted.{IsStrictlySortedBy}
use Rattle.std.specs.Map.{keys_of}
use Rattle.std.specs.declared.cmp.Ordering.{Ordering}
use Rattle.std.specs.declared.cmp.Ordering.TheVariants.{Less}
use Rattle.cedar_data.specs.Maps.{IsSortedMap}
use Rattle.cedar_declared.specs.Gathering.{action_cmp}
use Rattle.cedar_names.specs.Names.{entity_cmp}
use Rattle.cedar_names.specs.declared.entity_uid.EntityUID.{EntityUID}
use Rattle.cedar_names.specs.declared.name.EntityType.{EntityType}
use Rattle.cedar_meaning.specs.of_schema_error.declared.use_place.UsePlace.TheVariants.{Shape, Tags, Context}
use Rattle.cedar_tables.specs.Declarations.{Action, PlacedEntity}
use Rattle.cedar_tables.specs.Splits.{Use, all_uses, context_use, fragment_shape, fragment_tags, shape_use, tags_use, use_cmp}

module _ {X : Type 0} where
  -- what holds of every item holds of these
  all_of : {P : X → Type 0} → ((x : X) → P x) → (xs : List X) → AllByRecursion P xs
  all_of holds [] = tt
  all_of holds (x ∷ xs) = (holds x, all_of holds xs)

  all_follow : {P Q : X → Type 0} → ((x : X) → P x → Q x) → (xs : List X) → AllByRecursion P xs → AllByRecursion Q xs
  all_follow follows [] all = tt
  all_follow follows (x ∷ xs) all = (follows x all.0, all_follow follows xs all.1)

  all_append : (P : X → Type 0) (xs ys : List X) → AllByRecursion P xs → AllByRecursion P ys → AllByRecursion P (xs ++ ys)
  all_append P [] ys first others = others
  all_append P (x ∷ xs) ys first others = (first.0, all_append P xs ys first.1 others)

-- each of the first is less than each of the second
abbrev AllBelow : {K : Type 0} → (K → K → Ordering) → List K → List K → Type 0
AllBelow cmp xs ys = AllByRecursion (λ x. AllByRecursion (λ y. cmp x y ≡ Less) ys) xs

-- keys that ascend, and behind them keys that ascend and are greater
sorted_append : {K : Type 0} (cmp : K → K → Ordering) (xs ys : List K) → IsStrictlySortedBy cmp xs → IsStrictlySortedBy cmp ys → AllBelow cmp xs ys → IsStrictlySortedBy cmp (xs ++ ys)
unfolding IsStrictlySortedBy
sorted_append cmp [] ys first second below = second
sorted_append cmp (x ∷ xs) ys first second below = (all_append (λ y. cmp x y ≡ Less) xs ys first.0 below.0, sorted_append cmp xs ys first.1 second below.1)

keys_append : {K V : Type 0} (xs ys : List (K × V)) → keys_of (xs ++ ys) ≡ keys_of xs ++ keys_of ys
keys_append [] ys = refl
keys_append (x ∷ xs) ys = ap (λ ks. x.0 ∷ ks) (keys_append xs ys)

-- entries with keys that ascend, and behind them entries with greater ones
map_append : {K V : Type 0} (cmp : K → K → Ordering) (xs ys : List (K × V)) → IsSortedMap cmp xs → IsSortedMap cmp ys → AllBelow cmp (keys_of xs) (keys_of ys) → IsSortedMap cmp (xs ++ ys)
map_append cmp xs ys first second below = subst (λ ks. IsStrictlySortedBy cmp ks) (sym (keys_append xs ys)) (sorted_append cmp (keys_of xs) (keys_of ys) first second below)

-- at most one entry for each entry, whose key is put there
module _ {K P V T : Type 0} (put : K → P) (part : V → Option T) where
  abbrev put_at : K × V → List (P × T)
  put_at e = map (λ t. (put e.0, t)) (option_to_list (part e.1))

  -- what holds of all keys that are put there
  all_put : (Q : P → Type 0) → ((k : K) → Q (put k)) → (es : List (K × V)) → AllByRecursion Q (keys_of (flat_map put_at es))
  all_put Q holds [] = tt
  all_put Q holds (e ∷ es) = one (part e.1) (all_put Q holds es)
    where
      one : (o : Option T) → AllByRecursion Q (keys_of (flat_map put_at es)) → AllByRecursion Q (keys_of (map (λ t. (put e.0, t)) (option_to_list o) ++ flat_map put_at es))
      one None others = others
      one (Some t) others = (holds e.0, others)

  module _ (cmp : K → K → Ordering) (cmp' : P → P → Ordering) (same : (a b : K) → cmp' (put a) (put b) ≡ cmp a b) where
    above_put : (k : K) (es : List (K × V)) → AllByRecursion (λ b. cmp k b ≡ Less) (keys_of es) → AllByRecursion (λ p. cmp' (put k) p ≡ Less) (keys_of (flat_map put_at es))
    above_put k [] less = tt
    above_put k (e ∷ es) less = one (part e.1) (above_put k es less.1)
      where
        one : (o : Option T) → AllByRecursion (λ p. cmp' (put k) p ≡ Less) (keys_of (flat_map put_at es))
            → AllByRecursion (λ p. cmp' (put k) p ≡ Less) (keys_of (map (λ t. (put e.0, t)) (option_to_list o) ++ flat_map put_at es))
        one None others = others
        one (Some t) others = (same k e.0 ∙ less.0, others)

    sorted_first : (e : K × V) (o : Option T) (es : List (K × V)) → AllByRecursion (λ b. cmp e.0 b ≡ Less) (keys_of es) → IsSortedMap cmp' (flat_map put_at es)
        → IsSortedMap cmp' (map (λ t. (put e.0, t)) (option_to_list o) ++ flat_map put_at es)
    unfolding IsStrictlySortedBy
    sorted_first e None es less sorted = sorted
    sorted_first e (Some t) es less sorted = (above_put e.0 es less, sorted)

    -- where keys ascend, those that are put there do
    sorted_put : (es : List (K × V)) → IsSortedMap cmp es → IsSortedMap cmp' (flat_map put_at es)
    unfolding IsStrictlySortedBy
    sorted_put [] sorted = tt
    sorted_put (e ∷ es) sorted = sorted_first e (part e.1) es sorted.0 (sorted_put es sorted.1)

-- one entry for each entry
module _ {K P V T : Type 0} (put : K → P) (part : V → T) where
  abbrev put_each : K × V → P × T
  put_each e = (put e.0, part e.1)

  all_each : (Q : P → Type 0) → ((k : K) → Q (put k)) → (es : List (K × V)) → AllByRecursion Q (keys_of (map put_each es))
  all_each Q holds [] = tt
  all_each Q holds (e ∷ es) = (holds e.0, all_each Q holds es)

  module _ (cmp : K → K → Ordering) (cmp' : P → P → Ordering) (same : (a b : K) → cmp' (put a) (put b) ≡ cmp a b) where
    above_each : (k : K) (es : List (K × V)) → AllByRecursion (λ b. cmp k b ≡ Less) (keys_of es) → AllByRecursion (λ p. cmp' (put k) p ≡ Less) (keys_of (map put_each es))
    above_each k [] less = tt
    above_each k (e ∷ es) less = (same k e.0 ∙ less.0, above_each k es less.1)

    sorted_each : (es : List (K × V)) → IsSortedMap cmp es → IsSortedMap cmp' (map put_each es)
    unfolding IsStrictlySortedBy
    sorted_each [] sorted = tt
    sorted_each (e ∷ es) sorted = (above_each e.0 es sorted.0, sorted_each es sorted.1)

module _ (types : List (EntityType × PlacedEntity)) (actions : List (EntityUID × Action)) where
  abbrev shapes : List Use
  shapes = flat_map shape_use types

  abbrev tags : List Use
  tags = flat_map tags_use types

  abbrev contexts : List Use
  contexts = map context_use actions

  -- shapes, then types of tags, then contexts ascend, where entity types and actions do
  pub uses_ordered : IsSortedMap entity_cmp types → IsSortedMap action_cmp actions → IsSortedMap use_cmp (all_uses types actions)
  uses_ordered types_ordered actions_ordered =
      map_append use_cmp (shapes ++ tags) contexts
      (map_append use_cmp shapes tags
      (sorted_put Shape (λ e. fragment_shape e.fragment) entity_cmp use_cmp (λ a b. refl) types types_ordered)
      (sorted_put Tags (λ e. fragment_tags e.fragment) entity_cmp use_cmp (λ a b. refl) types types_ordered)
      shapes_below)
      (sorted_each Context (λ a. a.context) action_cmp use_cmp (λ a b. refl) actions actions_ordered)
      (subst (λ ks. AllBelow use_cmp ks (keys_of contexts)) (sym (keys_append shapes tags))
      (all_append (λ p. AllByRecursion (λ q. use_cmp p q ≡ Less) (keys_of contexts)) (keys_of shapes) (keys_of tags) shapes_first tags_first))
    where
      shapes_below : AllBelow use_cmp (keys_of shapes) (keys_of tags)
      shapes_below = all_put Shape (λ e. fragment_shape e.fragment) (λ p. AllByRecursion (λ q. use_cmp p q ≡ Less) (keys_of tags))
          (λ a. all_put Tags (λ e. fragment_tags e.fragment) (λ q. use_cmp (Shape a) q ≡ Less) (λ b. refl) types) types

      shapes_first : AllBelow use_cmp (keys_of shapes) (keys_of contexts)
      shapes_first = all_put Shape (λ e. fragment_shape e.fragment) (λ p. AllByRecursion (λ q. use_cmp p q ≡ Less) (keys_of contexts))
          (λ a. all_each Context (λ c. c.context) (λ q. use_cmp (Shape a) q ≡ Less) (λ b. refl) actions) types

      tags_first : AllBelow use_cmp (keys_of tags) (keys_of contexts)
      tags_first = all_put Tags (λ e. fragment_tags e.fragment) (λ p. AllByRecursion (λ q. use_cmp p q ≡ Less) (keys_of contexts))
          (λ a. all_each Context (λ c. c.context) (λ q. use_cmp (Tags a) q ≡ Less) (λ b. refl) actions) types

  -- so do they under other names
  pub parts_ordered : {shapes' tags' contexts' : List Use} → shapes' ≡ shapes → tags' ≡ tags → contexts' ≡ contexts → IsSortedMap entity_cmp types → IsSortedMap action_cmp actions → IsSortedMap use_cmp ((shapes' ++ tags') ++ contexts')
  parts_ordered shapes_are tags_are contexts_are types_ordered actions_ordered =
      subst (λ us. IsSortedMap use_cmp us) (λ i. (sym shapes_are i ++ sym tags_are i) ++ sym contexts_are i) (uses_ordered types_ordered actions_ordered)
