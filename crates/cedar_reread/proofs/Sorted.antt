-- SPDX-License-Identifier: Apache-2.0
-- A map in the order of its keys is the map of its own entries, also where the first of them comes last.
use Rattle.std.proofs.Common.{◌≡◌, List, [], ◌∷◌, ◌++◌, refl, sym, ap, ◌∙◌, subst, append_assoc, append-nil, fold}
use Rattle.std.proofs.lemmas.Map.Keys.{sorted_tail}
use Rattle.std.specs.BTreeMap.{insert_entry}
use Rattle.std.specs.Cmp.{IsTotalOrder}
use Rattle.std.specs.List.Sorted.{IsStrictlySortedBy}
use Rattle.std.specs.Map.{keys_of}
use Rattle.std.specs.declared.cmp.Ordering.{Ordering}
use Rattle.cedar_data.specs.Maps.{IsSortedMap, map_of}
use Rattle.cedar_data.proofs.Rebuild.{insert_entry-first, insert_entry-last, keys_of-append, sorted_next_key}

module _ {K W : Type 0} (cmp : K → K → Ordering) (total : IsTotalOrder cmp) where
  abbrev step : List (K × W) → K × W → List (K × W)
  step es pair = insert_entry cmp es pair.0 pair.1

  front_sorted : (done : List (K × W)) (e : K × W) (es : List (K × W)) → IsStrictlySortedBy cmp (keys_of (done ++ e ∷ es)) → IsStrictlySortedBy cmp (keys_of done ++ e.0 ∷ [])
  front_sorted done e es sorted =
      sorted_next_key cmp (keys_of done) {left = e.0 ∷ keys_of es} {rest = keys_of es} {whole = keys_of (done ++ e ∷ es)} {key = e.0} {next = e.0} (sym (keys_of-append done (e ∷ es))) refl refl sorted

  fold_sorted : (done es more : List (K × W)) → IsStrictlySortedBy cmp (keys_of (done ++ es)) → fold step done (es ++ more) ≡ fold step (done ++ es) more
  fold_sorted done [] more sorted = ap (λ d. fold step d more) (sym (append-nil done))
  fold_sorted done (e ∷ es) more sorted =
      ap (λ d. fold step d (es ++ more)) (insert_entry-last total done e.0 e.1 (front_sorted done e es sorted))
      ∙ fold_sorted (done ++ e ∷ []) es more (subst (λ fs. IsStrictlySortedBy cmp (keys_of fs)) (sym (append_assoc done (e ∷ []) es)) sorted)
      ∙ ap (λ d. fold step d more) (append_assoc done (e ∷ []) es)

  pub of_itself : (es : List (K × W)) → IsSortedMap cmp es → map_of cmp es ≡ es
  of_itself es sorted = ap (map_of cmp) (sym (append-nil es)) ∙ fold_sorted [] es [] sorted

  -- the first entry comes last
  pub first_comes_last : (es : List (K × W)) (e : K × W) → IsSortedMap cmp (e ∷ es) → map_of cmp (es ++ e ∷ []) ≡ e ∷ es
  first_comes_last es e sorted =
      fold_sorted [] es (e ∷ []) (sorted_tail cmp e.0 (keys_of es) sorted)
      ∙ insert_entry-first cmp es e.0 e.1 sorted
