-- SPDX-License-Identifier: Apache-2.0
-- In a map or a set each key stands once.
use Rattle.std.proofs.Common.{◌≡◌, ℕ, ◌+◌, Bool, true, false, cond, List, [], ◌∷◌, Option, Some, None, filter, refl, sym, ap, ◌∙◌, ◌||◌, zero-add, add-zero}
use Rattle.std.proofs.lemmas.List.Sums.{sum_by-cons}
use Rattle.std.specs.BTreeMap.{is_at}
use Rattle.std.specs.Cmp.{IsTotalOrder}
use Rattle.std.specs.List.{AllByRecursion, sum_by}
use Rattle.std.specs.List.Sorted.{IsStrictlySortedBy}
use Rattle.std.specs.Map.{keys_of, lookup}
use Rattle.std.specs.Ordering.{is_eq}
use Rattle.std.specs.declared.cmp.Ordering.{Ordering}
use Rattle.std.specs.declared.cmp.Ordering.TheVariants.{Less, Equal, Greater}
use Rattle.cedar_data.specs.Maps.{IsSortedMap}
use Rattle.cedar_data.specs.Sets.{contains}
use Rattle.cedar_resolved.specs.Queries.{passes}

equal_from : (o : Ordering) → is_eq o ≡ true → o ≡ Equal
equal_from Less h = cc
equal_from Equal h = refl
equal_from Greater h = cc

-- the number of the value, or none
abbrev pub number_at : {V : Type 0} → (V → ℕ) → Option V → ℕ
number_at value None = 0
number_at value (Some v) = value v

module _ {K : Type 0} {cmp : K → K → Ordering} (total : IsTotalOrder cmp) where
  -- a key above one that is equal to q isn't equal to it
  pub not_above : (q k above : K) → is_at (cmp q) k ≡ true → cmp k above ≡ Less → is_at (cmp q) above ≡ false
  not_above q k above same less = ap is_eq (total.congr q k above (equal_from (cmp q k) same) ∙ less)

  -- of keys above one that is equal to q none is in the sum
  none_above : (q k : K) (n : ℕ) (f : K → ℕ) → ((x : K) → f x ≡ cond (is_at (cmp q) x) n 0) → is_at (cmp q) k ≡ true → (ks : List K) → AllByRecursion (λ x. cmp k x ≡ Less) ks → sum_by f ks ≡ 0
  none_above q k n f each same [] all = refl
  none_above q k n f each same (x ∷ ks) all =
      sum_by-cons f x ks
      ∙ ap (λ m. m + sum_by f ks) (each x ∙ ap (λ b. cond b n 0) (not_above q k x same all.0))
      ∙ zero-add (sum_by f ks)
      ∙ none_above q k n f each same ks all.1

  -- a number that counts at the keys equal to q alone counts once, if one is there
  pub once_in_set : (q : K) (n : ℕ) (f : K → ℕ) → ((x : K) → f x ≡ cond (is_at (cmp q) x) n 0) → (ks : List K) → IsStrictlySortedBy cmp ks → sum_by f ks ≡ cond (contains cmp ks q) n 0
  unfolding IsStrictlySortedBy
  once_in_set q n f each [] sorted = refl
  once_in_set q n f each (x ∷ ks) sorted = sum_by-cons f x ks ∙ at (once_in_set q n f each ks sorted.1) (is_at (cmp q) x) refl
    where
      at : sum_by f ks ≡ cond (contains cmp ks q) n 0 → (b : Bool) → is_at (cmp q) x ≡ b → f x + sum_by f ks ≡ cond (contains cmp (x ∷ ks) q) n 0
      at rest true same =
          (λ i. (each x ∙ ap (λ b. cond b n 0) same) i + none_above q x n f each same ks sorted.0 i)
          ∙ add-zero n
          ∙ ap (λ b. cond (b || contains cmp ks q) n 0) (sym same)
      at rest false apart =
          (λ i. (each x ∙ ap (λ b. cond b n 0) apart) i + rest i)
          ∙ zero-add (cond (contains cmp ks q) n 0)
          ∙ ap (λ b. cond (b || contains cmp ks q) n 0) (sym apart)

module _ {K V : Type 0} {cmp : K → K → Ordering} (total : IsTotalOrder cmp) where
  -- of entries above a key that is equal to q none is found
  none_found : (q k : K) → is_at (cmp q) k ≡ true → (es : List (K × V)) → AllByRecursion (λ x. cmp k x ≡ Less) (keys_of es) → lookup (is_at (cmp q)) es ≡ None
  none_found q k same [] all = refl
  none_found q k same (e ∷ es) all =
      ap (λ b. cond b (Some e.1) (lookup (is_at (cmp q)) es)) (not_above total q k e.0 same all.0) ∙ none_found q k same es all.1

  -- a number that counts at the key equal to q alone is that of its value
  pub once_in_map : (q : K) (value : V → ℕ) (f : K × V → ℕ) → (es : List (K × V)) → AllByRecursion (λ e. f e ≡ cond (is_at (cmp q) e.0) (value e.1) 0) es → IsSortedMap cmp es → sum_by f es ≡ number_at value (lookup (is_at (cmp q)) es)
  unfolding IsStrictlySortedBy
  once_in_map q value f [] each sorted = refl
  once_in_map q value f (e ∷ es) each sorted = sum_by-cons f e es ∙ at (once_in_map q value f es each.1 sorted.1) (is_at (cmp q) e.0) refl
    where
      at : sum_by f es ≡ number_at value (lookup (is_at (cmp q)) es) → (b : Bool) → is_at (cmp q) e.0 ≡ b → f e + sum_by f es ≡ number_at value (lookup (is_at (cmp q)) (e ∷ es))
      at rest true same =
          (λ i. (each.0 ∙ ap (λ b. cond b (value e.1) 0) same) i + (rest ∙ ap (number_at value) (none_found q e.0 same es sorted.0)) i)
          ∙ add-zero (value e.1)
          ∙ ap (λ b. number_at value (cond b (Some e.1) (lookup (is_at (cmp q)) es))) (sym same)
      at rest false apart =
          (λ i. (each.0 ∙ ap (λ b. cond b (value e.1) 0) apart) i + rest i)
          ∙ zero-add (number_at value (lookup (is_at (cmp q)) es))
          ∙ ap (λ b. number_at value (cond b (Some e.1) (lookup (is_at (cmp q)) es))) (sym apart)

  -- a key is among those whose values pass exactly where the value at the key passes
  pub among_passing : (test : V → Bool) (q : K) (es : List (K × V)) → IsSortedMap cmp es → contains cmp (keys_of (filter (λ e. test e.1) es)) q ≡ passes test (lookup (is_at (cmp q)) es)
  unfolding IsStrictlySortedBy
  among_passing test q [] sorted = refl
  among_passing test q (e ∷ es) sorted = at (among_passing test q es sorted.1) (is_at (cmp q) e.0) (test e.1) refl refl
    where
      at : contains cmp (keys_of (filter (λ e. test e.1) es)) q ≡ passes test (lookup (is_at (cmp q)) es) → (here yes : Bool) → is_at (cmp q) e.0 ≡ here → test e.1 ≡ yes
          → contains cmp (keys_of (cond yes (e ∷ filter (λ e. test e.1) es) (filter (λ e. test e.1) es))) q ≡ passes test (cond here (Some e.1) (lookup (is_at (cmp q)) es))
      at rest true true same is = ap (λ b. b || contains cmp (keys_of (filter (λ e. test e.1) es)) q) same ∙ sym is
      at rest true false same is = rest ∙ ap (passes test) (none_found q e.0 same es sorted.0) ∙ sym is
      at rest false true same is = ap (λ b. b || contains cmp (keys_of (filter (λ e. test e.1) es)) q) same ∙ rest
      at rest false false same is = rest
