-- SPDX-License-Identifier: Apache-2.0
-- Loops over the entries of a map that put what each of them gives into another map.
use Rattle.std.proofs.Common.{◌≡◌, List, [], ◌∷◌, Option, Some, map, refl, sym, ap, ◌∙◌}
use Rattle.std.proofs.lemmas.Grind.{fold-append}
use Rattle.std.specs.BTreeMap.{insert_entry}
use Rattle.std.specs.Cmp.{IsTotalOrder}
use Rattle.std.specs.List.{flat_map}
use Rattle.std.specs.declared.cmp.Ordering.{Ordering}
use Rattle.cedar_data.proofs.MapsMade.{map-insert_entry}
use Rattle.cedar_data.specs.Maps.{IsSortedMap, map_of}
use Rattle.cedar_namespace_definitions.specs.Definitions.{entry_of, put_entries, with_keys}
use Rattle.cedar_namespace_definitions.proofs.Sorting.{entry, map_of-entries}

-- an item gives one entry
pub one_entry : {E J W : Type 0} (key : E → J) (value : E → W) (es : List E) → flat_map (λ e. entry_of (key e) (Some (value e))) es ≡ map (λ e. (key e, value e)) es
one_entry key value [] = refl
one_entry key value (e ∷ es) = ap (λ l. (key e, value e) ∷ l) (one_entry key value es)

-- keys that are seen as they are
pub same_keys : {K V : Type 0} (es : List (K × V)) → with_keys (λ k. k) es ≡ es
same_keys [] = refl
same_keys (e ∷ es) = ap (λ l. e ∷ l) (same_keys es)

-- of the items `whole`, those before `left` have given the entries `made`, whose keys are seen through `seen`
pub record Defines {E J W L : Type 0} (cmp : J → J → Ordering) (seen : L → J) (f : E → List (J × W)) (whole left : List E) (made : List (L × W)) : Type 0 where
  pub is : map_of cmp (flat_map f whole) ≡ put_entries cmp (with_keys seen made) (flat_map f left)

module _ {E J W L : Type 0} where
  -- before the first item
  pub Defines-start : (cmp : J → J → Ordering) (seen : L → J) (f : E → List (J × W)) (whole left : List E) (made : List (L × W)) → left ≡ whole → made ≡ [] → Defines cmp seen f whole left made
  Defines-start cmp seen f whole left made all none = record {
    is = ap (λ es. map_of cmp (flat_map f es)) (sym all) ∙ ap (λ m. put_entries cmp (with_keys seen m) (flat_map f left)) (sym none);
  }

  -- one item more
  pub Defines-next : {cmp : J → J → Ordering} {seen : L → J} {f : E → List (J × W)} {whole left rest : List E} {made more : List (L × W)} (item : E)
      → Defines cmp seen f whole left made → left ≡ item ∷ rest → with_keys seen more ≡ put_entries cmp (with_keys seen made) (f item) → Defines cmp seen f whole rest more
  Defines-next {cmp} {seen} {f} {rest = rest} {made = made} item sofar first put = record {
    is = sofar.is ∙ ap (λ es. put_entries cmp (with_keys seen made) (flat_map f es)) first
        ∙ fold-append (λ es e. insert_entry cmp es e.0 e.1) (with_keys seen made) (f item) (flat_map f rest)
        ∙ ap (λ m. put_entries cmp m (flat_map f rest)) (sym put);
  }

-- an entry put
module _ {J W L : Type 0} where
  pub put_one : (order : L → L → Ordering) (cmp : J → J → Ordering) (seen : L → J) → ((a b : L) → order a b ≡ cmp (seen a) (seen b))
      → (made : List (L × W)) (key : L) (value : W) → with_keys seen (insert_entry order made key value) ≡ insert_entry cmp (with_keys seen made) (seen key) value
  put_one order cmp seen same made key value = map-insert_entry order cmp seen (λ v. v) same made key value

-- after the last item, the map has the entries that the items give, in their order
pub Defines-end : {K V J W L : Type 0} {cmp : J → J → Ordering} → IsTotalOrder cmp → (order : K → K → Ordering) (key : K × V → J) (value : K × V → Option W) {seen : L → J} {whole left : List (K × V)} {made : List (L × W)}
    → ((x y : K × V) → cmp (key x) (key y) ≡ order x.0 y.0) → Defines cmp seen (entry cmp key value) whole left made → left ≡ [] → IsSortedMap order whole → with_keys seen made ≡ flat_map (entry cmp key value) whole
Defines-end {cmp = cmp} total order key value {seen} {whole} {made = made} same sofar none sorted =
    sym (sofar.is ∙ ap (λ es. put_entries cmp (with_keys seen made) (flat_map (entry cmp key value) es)) none) ∙ map_of-entries total order key value same whole sorted
