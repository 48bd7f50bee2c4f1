-- SPDX-License-Identifier: Apache-2.0
-- What descends from an item, where each item has parents that are references: they are a set of listed items.
use Rattle.std.proofs.Common.{◌≡◌, ◌↔◌, inl, inr, Bool, true, false, ◌||◌, if◌then◌else◌, IsTrue, List, [], ◌∷◌, fold, Option, Some, None, refl, sym, ap, ◌∙◌, subst, ⊎_elim}
use Rattle.std.specs.BTreeMap.{is_at}
use Rattle.std.specs.BTreeSet.{insert_key}
use Rattle.std.specs.List.{filter, list_any}
use Rattle.std.specs.List.Sorted.{IsStrictlySortedBy}
use Rattle.std.specs.Map.{keys_of}
use Rattle.std.specs.declared.cmp.Ordering.{Ordering}
use Rattle.cedar_types.specs.of_closure.Chains.{Reaches, one, more}
use Rattle.cedar_data.proofs.Exact.{IsExact}
use Rattle.cedar_data.specs.Firsts.{SomePasses}
use Rattle.cedar_data.specs.Maps.{IsSortedMap, get}
use Rattle.cedar_data.specs.Sets.{IsSetOf, contains, set_of}
use Rattle.cedar_data.proofs.SetKeys.{keys_of-insert_entry}
use Rattle.cedar_declared.proofs.Looked.{any_insert_key}
use Rattle.cedar_sound.proofs.SortedMaps.{sorted-insert}
use Rattle.cedar_sound.proofs.Chains.{Among, at-same, either_true, filtered_set, first_true, reached, same-at, second_true, via}

module _ {A D R : Type 0} {cmp : A → A → Ordering} (order : IsExact cmp) (es : List (A × D)) (parents : D → List R) (target : R → Option A) where
  -- whether a target is this item
  abbrev is_target : A → Option A → Bool
  is_target b None = false
  is_target b (Some t) = is_at (cmp b) t

  -- whether what is found has a parent that means this item
  abbrev has_parent : A → Option D → Bool
  has_parent b None = false
  has_parent b (Some d) = list_any (λ r. is_target b (target r)) (parents d)

  abbrev step : A → A → Bool
  step a b = has_parent b (get cmp es a)

  is-target : (b : A) (o : Option A) → is_target b o ≡ true → o ≡ Some b
  is-target b None is = absurd (cc)
  is-target b (Some t) is = ap Some (at-same order b t is)

  target-is : (b : A) (o : Option A) → o ≡ Some b → is_target b o ≡ true
  target-is b o is = ap (is_target b) is ∙ same-at order b b refl

  some-parent : (b : A) (rs : List R) → list_any (λ r. is_target b (target r)) rs ≡ true → SomePasses (λ r. target r ≡ Some b) rs
  some-parent b [] is = absurd (cc)
  some-parent b (r ∷ rs) is = ⊎_elim (λ h. inl (is-target b (target r) h)) (λ h. inr (some-parent b rs h)) (either_true (is_target b (target r)) (list_any (λ r. is_target b (target r)) rs) is)

  parent-some : (b : A) (rs : List R) → SomePasses (λ r. target r ≡ Some b) rs → list_any (λ r. is_target b (target r)) rs ≡ true
  parent-some b [] none = absurd none
  parent-some b (r ∷ rs) (inl is) = first_true (is_target b (target r)) (list_any (λ r. is_target b (target r)) rs) (target-is b (target r) is)
  parent-some b (r ∷ rs) (inr some) = second_true (is_target b (target r)) (list_any (λ r. is_target b (target r)) rs) (parent-some b rs some)

  -- an item that is found is among the keys
  found-key : (a : A) (d : D) (xs : List (A × D)) → get cmp xs a ≡ Some d → Among (keys_of xs) a
  found-key a d [] is = absurd (cc)
  found-key a d (x ∷ xs) is = by (is_at (cmp a) x.0) refl is (found-key a d xs)
    where
      by : (b : Bool) → is_at (cmp a) x.0 ≡ b → (if b then Some x.1 else get cmp xs a) ≡ Some d → (get cmp xs a ≡ Some d → Among (keys_of xs) a) → Among (keys_of (x ∷ xs)) a
      by true at found later = inl (at-same order a x.0 at)
      by false at found later = inr (later found)

  module _ (Step : A → A → Type 0) (parts : (a b : A) → Step a b → (d : D) × (get cmp es a ≡ Some d) × SomePasses (λ r. target r ≡ Some b) (parents d))
      (made : (a b : A) (d : D) → get cmp es a ≡ Some d → SomePasses (λ r. target r ≡ Some b) (parents d) → Step a b) where
    makes-step : (a b : A) (o : Option D) → get cmp es a ≡ o → has_parent b o ≡ true → Step a b
    makes-step a b None found is = absurd (cc)
    makes-step a b (Some d) found is = made a b d found (some-parent b (parents d) is)

    pub decides-step : (a b : A) → IsTrue (step a b) ↔ Step a b
    decides-step a b = (
      makes-step a b (get cmp es a) refl,
      λ s. let p = parts a b s in ap (has_parent b) p.1 ∙ parent-some b (parents p.0) p.2,
    )

    has-source : (a b : A) → Step a b → Among (keys_of es) a
    has-source a b s = let p = parts a b s in found-key a p.0 es p.1

    -- the listed items from which a chain leads to this one
    abbrev pub below : A → List A
    below high = filter (λ low. via Step step decides-step (keys_of es) low high) (keys_of es)

    source-of : {a b : A} → Reaches Step a b → Among (keys_of es) a
    source-of (one s) = has-source _ _ s
    source-of (more s r) = has-source _ _ s

    pub below-set : IsSortedMap cmp es → (high : A) → IsSetOf cmp (λ low. Reaches Step low high) (below high)
    below-set sorted high =
        filtered_set order (λ low. via Step step decides-step (keys_of es) low high) (λ low. Reaches Step low high)
        (λ low. reached Step step decides-step (keys_of es) has-source low high) (keys_of es) sorted (λ low r. source-of r)

-- ---- targets

module _ {K : Type 0} {cmp : K → K → Ordering} (order : IsExact cmp) where
  moved : (a b c : Bool) → ((a || b) || c) ≡ (b || (a || c))
  moved true true c = refl
  moved true false c = refl
  moved false true c = refl
  moved false false c = refl

  put-in : (made ks : List K) (q : K) → contains cmp (fold (insert_key cmp) made ks) q ≡ (contains cmp made q || contains cmp ks q)
  put-in made [] q = without (contains cmp made q)
    where
      without : (b : Bool) → b ≡ (b || false)
      without true = refl
      without false = refl
  put-in made (k ∷ ks) q =
      put-in (insert_key cmp made k) ks q
      ∙ ap (λ b. b || contains cmp ks q) (any_insert_key order.total q k made)
      ∙ moved (is_at (cmp q) k) (contains cmp made q) (contains cmp ks q)

  -- a set has the keys of which it is made
  pub set-has : (ks : List K) (q : K) → contains cmp (set_of cmp ks) q ≡ contains cmp ks q
  set-has ks q = put-in [] ks q

  abbrev bare : List K → List (K × Unit {0})
  bare [] = []
  bare (k ∷ ks) = (k, tt) ∷ bare ks

  keys-bare : (ks : List K) → keys_of (bare ks) ≡ ks
  keys-bare [] = refl
  keys-bare (k ∷ ks) = ap (λ l. k ∷ l) (keys-bare ks)

  with-key : (ks : List K) (k : K) → IsStrictlySortedBy cmp ks → IsStrictlySortedBy cmp (insert_key cmp ks k)
  with-key ks k sorted =
      subst (IsStrictlySortedBy cmp) (keys_of-insert_entry cmp (bare ks) k tt ∙ ap (λ l. insert_key cmp l k) (keys-bare ks))
      (sorted-insert order.total (bare ks) k tt (subst (IsStrictlySortedBy cmp) (sym (keys-bare ks)) sorted))

  with-keys : (made ks : List K) → IsStrictlySortedBy cmp made → IsStrictlySortedBy cmp (fold (insert_key cmp) made ks)
  with-keys made [] sorted = sorted
  with-keys made (k ∷ ks) sorted = with-keys (insert_key cmp made k) ks (with-key made k sorted)

  set-ascends : (ks : List K) → IsStrictlySortedBy cmp (set_of cmp ks)
  unfolding IsStrictlySortedBy
  set-ascends ks = with-keys [] ks tt

  -- the set of keys is the set of those that are among them
  pub set-of-those : (ks : List K) → IsSetOf cmp (λ q. IsTrue (contains cmp ks q)) (set_of cmp ks)
  set-of-those ks = record {
    ascends = set-ascends ks;
    members = λ q. (λ is. sym (set-has ks q) ∙ is, λ is. set-has ks q ∙ is);
  }
