-- SPDX-License-Identifier: Apache-2.0
-- Loops that make a map of a list of pairs, by inserting each in turn.
use Rattle.std.proofs.Common.{◌≡◌, Bool, cond, List, [], ◌∷◌, ◌++◌, Some, sym, ap, ◌∙◌, subst}
use Rattle.std.proofs.lemmas.Cmp.{eq_by_cmp_equiv}
use Rattle.std.proofs.lemmas.List.{reverse-append}
use Rattle.std.specs.declared.cmp.Ordering.{Ordering}
use Rattle.std.proofs.lemmas.List.Sums.{fold-append}
use Rattle.std.specs.BTreeMap.{is_at, insert_entry}
use Rattle.std.specs.Cmp.{IsTotalOrder}
use Rattle.std.specs.List.Sorted.{IsStrictlySortedBy}
use Rattle.std.specs.Map.{lookup}
use Rattle.cedar_data.specs.Maps.{get, map_of, last_value, IsSortedMap, Puts}

-- one pair more
pub last_value-next : {K V : Type 0} (passes : K → Bool) (pairs : List (K × V)) (key : K) (value : V) → last_value passes (pairs ++ (key, value) ∷ []) ≡ cond (passes key) (Some value) (last_value passes pairs)
last_value-next passes pairs key value = ap (lookup passes) (reverse-append pairs ((key, value) ∷ []))

-- the map `made` is that of the pairs: it has what they say of each key, where a later pair replaces an earlier one, and its keys ascend
pub record Builds {K V : Type 0} (cmp : K → K → Ordering) (pairs made : List (K × V)) : Type 0 where
  pub is : made ≡ map_of cmp pairs
  pub at : (key : K) → get cmp made key ≡ last_value (is_at (cmp key)) pairs
  pub ordered : IsSortedMap cmp made

module _ {K V : Type 0} where
  -- before the first pair
  pub Builds-start : (cmp : K → K → Ordering) (pairs made : List (K × V)) → pairs ≡ [] → made ≡ [] → Builds cmp pairs made
  unfolding IsStrictlySortedBy
  Builds-start cmp pairs made none empty = record {
    is = empty ∙ ap (map_of cmp) (sym none);
    at = λ key. ap (λ es. get cmp es key) empty ∙ sym (ap (last_value (is_at (cmp key))) none);
    ordered = subst (λ es. IsSortedMap cmp es) (sym empty) tt;
  }

  -- one pair more
  pub Builds-next : {cmp : K → K → Ordering} → IsTotalOrder cmp → {pairs more old new : List (K × V)} (key : K) (value : V) → Builds cmp pairs old → more ≡ pairs ++ (key, value) ∷ [] → new ≡ insert_entry cmp old key value → Puts cmp old new key value → IsSortedMap cmp new → Builds cmp more new
  Builds-next {cmp} total {pairs} {more} {old} {new} key value sofar one put puts sorted = record {
    is = put ∙ ap (λ es. insert_entry cmp es key value) sofar.is ∙ sym (fold-append (λ es pair. insert_entry cmp es pair.0 pair.1) [] pairs ((key, value) ∷ [])) ∙ ap (map_of cmp) (sym one);
    at = λ other. puts other
        ∙ ap (λ b. cond b (Some value) (get cmp old other)) ((eq_by_cmp_equiv total).symm key other)
        ∙ ap (λ before. cond (is_at (cmp other) key) (Some value) before) (sofar.at other)
        ∙ sym (last_value-next (is_at (cmp other)) pairs key value)
        ∙ sym (ap (last_value (is_at (cmp other))) one);
    ordered = sorted;
  }
