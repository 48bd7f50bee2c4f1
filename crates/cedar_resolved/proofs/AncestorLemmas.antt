-- SPDX-License-Identifier: Apache-2.0
-- The keys of those entries of a map that pass a test.
use Rattle.std.proofs.Common.{◌≡◌, Bool, true, false, cond, List, [], ◌∷◌, ◌++◌, filter, ap, ◌∙◌}
use Rattle.std.specs.List.{AllByRecursion}
use Rattle.std.specs.List.Sorted.{IsStrictlySortedBy}
use Rattle.std.specs.Map.{keys_of}
use Rattle.std.specs.declared.cmp.Ordering.{Ordering}
use Rattle.std.specs.declared.cmp.Ordering.TheVariants.{Less}
use Rattle.cedar_data.proofs.Rebuild.{sorted_next_key}
use Rattle.cedar_data.specs.Maps.{IsSortedMap}

module _ {K V : Type 0} where
  -- what holds of all keys holds of those that pass
  all_passing : (P : K → Type 0) (test : K × V → Bool) (es : List (K × V)) → AllByRecursion P (keys_of es) → AllByRecursion P (keys_of (filter test es))
  all_passing P test [] all = tt
  all_passing P test (e ∷ es) all =
      elim (test e) as (λ b. AllByRecursion P (keys_of (cond b (e ∷ filter test es) (filter test es))))
      [ true ↦ (all.0, all_passing P test es all.1) | false ↦ all_passing P test es all.1 ]

  -- they ascend
  pub sorted_passing : (cmp : K → K → Ordering) (test : K × V → Bool) (es : List (K × V)) → IsSortedMap cmp es → IsSortedMap cmp (filter test es)
  unfolding IsStrictlySortedBy
  sorted_passing cmp test [] sorted = tt
  sorted_passing cmp test (e ∷ es) sorted =
      elim (test e) as (λ b. IsSortedMap cmp (cond b (e ∷ filter test es) (filter test es)))
      [ true ↦ (all_passing (λ k. cmp e.0 k ≡ Less) test es sorted.0, sorted_passing cmp test es sorted.1) | false ↦ sorted_passing cmp test es sorted.1 ]

  -- on the way through a map, the keys so far and the next one that passes ascend
  pub next_passing : (cmp : K → K → Ordering) (test : K × V → Bool) (so_far : List K) (whole : List (K × V)) {left rest : List (K × V)} {key next : K} {value : V} → so_far ++ keys_of (filter test left) ≡ keys_of (filter test whole) → left ≡ (next, value) ∷ rest → test (next, value) ≡ true → key ≡ next → IsSortedMap cmp whole → IsStrictlySortedBy cmp (so_far ++ key ∷ [])
  next_passing cmp test so_far whole {left} {rest} {key} {next} {value} split first passes same sorted =
      let begins : keys_of (filter test left) ≡ next ∷ keys_of (filter test rest) =
      ap (λ es. keys_of (filter test es)) first ∙ ap (λ b. keys_of (cond b ((next, value) ∷ filter test rest) (filter test rest))) passes in
      sorted_next_key cmp so_far split begins same (sorted_passing cmp test whole sorted)
