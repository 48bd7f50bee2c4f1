-- SPDX-License-Identifier: Apache-2.0
-- Maps of entries that are in the order of their keys already.
use Rattle.std.proofs.Common.{◌≡◌, List, [], ◌∷◌, ◌++◌, Option, Some, None, fold, refl, sym, ap, ◌∙◌, subst, append_assoc}
use Rattle.std.proofs.lemmas.List.{append-nil}
use Rattle.std.specs.BTreeMap.{insert_entry}
use Rattle.std.specs.Cmp.{IsTotalOrder}
use Rattle.std.specs.List.{AllByRecursion, flat_map}
use Rattle.std.specs.List.Sorted.{IsStrictlySortedBy}
use Rattle.std.specs.Map.{keys_of}
use Rattle.std.specs.declared.cmp.Ordering.{Ordering}
use Rattle.std.specs.declared.cmp.Ordering.TheVariants.{Less}
use Rattle.cedar_data.proofs.Rebuild.{insert_entry-last}
use Rattle.cedar_data.specs.Maps.{IsSortedMap, map_of}
use Rattle.cedar_namespace_definitions.specs.Definitions.{entry_of}

-- the first keys of keys that ascend
module _ {K : Type 0} where
  front_at : (P : K → Type 0) (ks rest : List K) (k : K) → AllByRecursion P (ks ++ k ∷ rest) → AllByRecursion P (ks ++ k ∷ [])
  front_at P [] rest k all = (all.0, tt)
  front_at P (_ ∷ ks) rest k all = (all.0, front_at P ks rest k all.1)

module _ {K : Type 0} (cmp : K → K → Ordering) where
  front : (ks rest : List K) (k : K) → IsStrictlySortedBy cmp (ks ++ k ∷ rest) → IsStrictlySortedBy cmp (ks ++ k ∷ [])
  unfolding IsStrictlySortedBy
  front [] rest k sorted = (tt, tt)
  front (x ∷ ks) rest k sorted = (front_at (λ y. cmp x y ≡ Less) ks rest k sorted.0, front ks rest k sorted.1)

module _ {K V : Type 0} {cmp : K → K → Ordering} (total : IsTotalOrder cmp) where
  keys-push : (es : List (K × V)) (e : K × V) → keys_of (es ++ e ∷ []) ≡ keys_of es ++ e.0 ∷ []
  keys-push [] e = refl
  keys-push (x ∷ es) e = ap (λ ks. x.0 ∷ ks) (keys-push es e)

  from : (done left : List (K × V)) → IsStrictlySortedBy cmp (keys_of done ++ keys_of left) → fold (λ es e. insert_entry cmp es e.0 e.1) done left ≡ done ++ left
  from done [] sorted = sym (append-nil done)
  from done (e ∷ left) sorted =
      ap (λ es. fold (λ es e. insert_entry cmp es e.0 e.1) es left) (insert_entry-last total done e.0 e.1 (front cmp (keys_of done) (keys_of left) e.0 sorted))
      ∙ from (done ++ e ∷ []) left (subst (IsStrictlySortedBy cmp) (sym (ap (λ ks. ks ++ keys_of left) (keys-push done e) ∙ append_assoc (keys_of done) (e.0 ∷ []) (keys_of left))) sorted)
      ∙ append_assoc done (e ∷ []) left

  -- the map of entries that are in order is these entries
  pub map_of-sorted : (es : List (K × V)) → IsSortedMap cmp es → map_of cmp es ≡ es
  map_of-sorted es sorted = from [] es sorted

module _ {E J W : Type 0} (cmp : J → J → Ordering) (key : E → J) (value : E → Option W) where
  -- an item, as the entry that it gives
  abbrev pub entry : E → List (J × W)
  entry e = entry_of (key e) (value e)

  below : (k : J) (es : List E) → AllByRecursion (λ e. cmp k (key e) ≡ Less) es → AllByRecursion (λ y. cmp k y ≡ Less) (keys_of (flat_map entry es))
  below k [] all = tt
  below k (e ∷ es) all = by (value e) (below k es all.1)
    where
      by : (v : Option W) → AllByRecursion (λ y. cmp k y ≡ Less) (keys_of (flat_map entry es)) → AllByRecursion (λ y. cmp k y ≡ Less) (keys_of (entry_of (key e) v ++ flat_map entry es))
      by None rest = rest
      by (Some w) rest = (all.0, rest)

  -- where the keys of items ascend, so do those of the entries
  ascending : (es : List E) → IsStrictlySortedBy (λ x y. cmp (key x) (key y)) es → IsSortedMap cmp (flat_map entry es)
  unfolding IsStrictlySortedBy
  ascending [] sorted = tt
  ascending (e ∷ es) sorted = by (value e) (ascending es sorted.1)
    where
      by : (v : Option W) → IsSortedMap cmp (flat_map entry es) → IsSortedMap cmp (entry_of (key e) v ++ flat_map entry es)
      by None rest = rest
      by (Some w) rest = (below (key e) es sorted.0, rest)

module _ {K V : Type 0} (cmp : K → K → Ordering) (other : (K × V) → (K × V) → Ordering) (same : (x y : K × V) → other x y ≡ cmp x.0 y.0) where
  after : (x : K × V) (es : List (K × V)) → AllByRecursion (λ k. cmp x.0 k ≡ Less) (keys_of es) → AllByRecursion (λ e. other x e ≡ Less) es
  after x [] all = tt
  after x (e ∷ es) all = (same x e ∙ all.0, after x es all.1)

  -- the entries of a map ascend in each order that is that of their keys
  ascend : (es : List (K × V)) → IsSortedMap cmp es → IsStrictlySortedBy other es
  unfolding IsStrictlySortedBy
  ascend [] sorted = tt
  ascend (e ∷ es) sorted = (after e es sorted.0, ascend es sorted.1)

-- the map of the entries that those of a map give, in the same order, is these entries
pub map_of-entries : {K V J W : Type 0} {cmp : J → J → Ordering} → IsTotalOrder cmp → (order : K → K → Ordering) (key : K × V → J) (value : K × V → Option W)
    → ((x y : K × V) → cmp (key x) (key y) ≡ order x.0 y.0) → (es : List (K × V)) → IsSortedMap order es → map_of cmp (flat_map (entry cmp key value) es) ≡ flat_map (entry cmp key value) es
map_of-entries {cmp = cmp} total order key value same es sorted =
    map_of-sorted total (flat_map (entry cmp key value) es) (ascending cmp key value es (ascend order (λ x y. cmp (key x) (key y)) same es sorted))
