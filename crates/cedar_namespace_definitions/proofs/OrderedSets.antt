-- SPDX-License-Identifier: Apache-2.0
-- Sets of keys: of keys that are in order, of few, of those of a set, and seen through a function that keeps their order.
use native.Mathlib.Omega.{arith}
use Rattle.std.proofs.Common.{◌≡◌, ◌<◌, List, [], ◌∷◌, ◌++◌, length, map, fold, refl, sym, ap, ◌∙◌, subst, append_assoc}
use Rattle.std.proofs.lemmas.List.{append-nil}
use Rattle.std.specs.BTreeMap.{insert_entry}
use Rattle.std.specs.BTreeSet.{insert_key}
use Rattle.std.specs.Cmp.{IsTotalOrder}
use Rattle.std.specs.List.Sorted.{IsStrictlySortedBy}
use Rattle.std.specs.Map.{keys_of}
use Rattle.std.specs.Ordering.{match_ordering}
use Rattle.std.specs.declared.cmp.Ordering.{Ordering}
use Rattle.std.specs.declared.cmp.Ordering.TheVariants.{Less, Equal, Greater}
use Rattle.cedar_data.proofs.Rebuild.{insert_key-last, sorted_next_key}
use Rattle.cedar_data.proofs.SetKeys.{keys_of-insert_entry}
use Rattle.cedar_data.proofs.Splitting.{insert_entry-sorted}
use Rattle.cedar_data.specs.Sets.{set_of}

-- keys as entries without values
module _ {K : Type 0} where
  abbrev bare : List K → List (K × Unit {0})
  bare ks = map (λ k. (k, tt)) ks

  keys_of-bare : (ks : List K) → keys_of (bare ks) ≡ ks
  keys_of-bare [] = refl
  keys_of-bare (k ∷ ks) = ap (λ l. k ∷ l) (keys_of-bare ks)

module _ {K : Type 0} {cmp : K → K → Ordering} (total : IsTotalOrder cmp) where
  -- a set with one key more is in order
  with_key : (ks : List K) (k : K) → IsStrictlySortedBy cmp ks → IsStrictlySortedBy cmp (insert_key cmp ks k)
  with_key ks k sorted =
      subst (IsStrictlySortedBy cmp) (keys_of-insert_entry cmp (bare ks) k tt ∙ ap (λ l. insert_key cmp l k) (keys_of-bare ks))
      (insert_entry-sorted total k (bare ks) tt (subst (IsStrictlySortedBy cmp) (sym (keys_of-bare ks)) sorted))

  with_keys : (made ks : List K) → IsStrictlySortedBy cmp made → IsStrictlySortedBy cmp (fold (insert_key cmp) made ks)
  with_keys made [] sorted = sorted
  with_keys made (k ∷ ks) sorted = with_keys (insert_key cmp made k) ks (with_key made k sorted)

  -- a set is in order
  pub set_of-ordered : (ks : List K) → IsStrictlySortedBy cmp (set_of cmp ks)
  unfolding IsStrictlySortedBy
  set_of-ordered ks = with_keys [] ks tt

  behind : (done left : List K) → IsStrictlySortedBy cmp (done ++ left) → fold (insert_key cmp) done left ≡ done ++ left
  behind done [] sorted = sym (append-nil done)
  behind done (k ∷ left) sorted =
      let assoc : (done ++ k ∷ []) ++ left ≡ done ++ k ∷ left = append_assoc done (k ∷ []) left in
      ap (λ l. fold (insert_key cmp) l left) (insert_key-last total done k (sorted_next_key cmp done refl refl refl sorted))
      ∙ behind (done ++ k ∷ []) left (subst (IsStrictlySortedBy cmp) (sym assoc) sorted) ∙ assoc

  -- the set of keys that are in order is these keys
  pub set_of-sorted : (ks : List K) → IsStrictlySortedBy cmp ks → set_of cmp ks ≡ ks
  set_of-sorted ks sorted = behind [] ks sorted

  -- the set of the keys of a set is this set
  pub set_of-again : (ks : List K) → set_of cmp (set_of cmp ks) ≡ set_of cmp ks
  set_of-again ks = set_of-sorted (set_of cmp ks) (set_of-ordered ks)

module _ {K : Type 0} (cmp : K → K → Ordering) where
  -- the set of at most one key
  pub set_of-few : (ks : List K) → length ks < 2 → ks ≡ set_of cmp ks
  set_of-few [] few = refl
  set_of-few (k ∷ []) few = refl
  set_of-few (k ∷ next ∷ ks) few = absurd (omega (arith, few))

  -- one key more as an entry
  pub set_of-next : (es : List (K × Unit {0})) (ks : List K) {more : List (K × Unit {0})} {left rest : List K} {k : K} → fold (insert_key cmp) (keys_of es) left ≡ set_of cmp ks → left ≡ k ∷ rest
      → more ≡ insert_entry cmp es k tt → fold (insert_key cmp) (keys_of more) rest ≡ set_of cmp ks
  set_of-next es ks {rest = rest} {k = k} sofar first put =
      ap (λ es. fold (insert_key cmp) (keys_of es) rest) put ∙ ap (λ l. fold (insert_key cmp) l rest) (keys_of-insert_entry cmp es k tt) ∙ ap (fold (insert_key cmp) (keys_of es)) (sym first) ∙ sofar

module _ {A B : Type 0} (order : A → A → Ordering) (cmp : B → B → Ordering) (see : A → B) (same : (x y : A) → order x y ≡ cmp (see x) (see y)) where
  -- a set seen in the same order, with one key more
  seen_insert : (ks : List A) (k : A) → map see (insert_key order ks k) ≡ insert_key cmp (map see ks) (see k)
  seen_insert [] k = refl
  seen_insert (x ∷ ks) k =
      by (order k x) (seen_insert ks k) ∙ ap (λ o. match_ordering o (see k ∷ see x ∷ map see ks) (see x ∷ map see ks) (see x ∷ insert_key cmp (map see ks) (see k))) (same k x)
    where
      by : (o : Ordering) → map see (insert_key order ks k) ≡ insert_key cmp (map see ks) (see k)
          → map see (match_ordering o (k ∷ x ∷ ks) (x ∷ ks) (x ∷ insert_key order ks k)) ≡ match_ordering o (see k ∷ see x ∷ map see ks) (see x ∷ map see ks) (see x ∷ insert_key cmp (map see ks) (see k))
      by Less others = refl
      by Equal others = refl
      by Greater others = ap (λ l. see x ∷ l) others

  from : (made ks : List A) → map see (fold (insert_key order) made ks) ≡ fold (insert_key cmp) (map see made) (map see ks)
  from made [] = refl
  from made (k ∷ ks) = from (insert_key order made k) ks ∙ ap (λ l. fold (insert_key cmp) l (map see ks)) (seen_insert made k)

  -- the set of keys, seen in the same order
  pub seen_set : (ks : List A) → map see (set_of order ks) ≡ set_of cmp (map see ks)
  seen_set ks = from [] ks

  -- it is the same whether of equal keys the first alone is seen, or each
  pub seen_once : IsTotalOrder order → (ks : List A) → set_of cmp (map see (set_of order ks)) ≡ set_of cmp (map see ks)
  seen_once total ks = sym (seen_set (set_of order ks)) ∙ ap (map see) (set_of-again total ks) ∙ seen_set ks
