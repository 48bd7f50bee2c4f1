-- SPDX-License-Identifier: Apache-2.0
use Rattle.std.proofs.Common.{length, ap, ◌∙◌, arith, rules, subst}
use Rattle.std.proofs.lemmas.Fn.{always_returns_same}
use Rattle.std.specs.List.Sorted.{IsSearchInRange, IsBinarySearchResult}
use Rattle.cedar_data.specs.Maps.{IsSortedMap}
use Rattle.cedar_data.proofs.Places.{found_from_search, missing_from_search}
use Rattle.cedar_data.proofs.run.Run.place.Goals as goal

pub returns : goal.returns
returns g c =
    let cmp = g.K.Ord.cmp in
    let key = c.args.key.now in
    let answer = c.binary_search_by.result in
    let same = c.as_slice.ensures.value ∙ c.self.view_is in
    let searched = c.binary_search_by.ensures in
    let sorted = subst (λ es. IsSortedMap cmp es) c.self.view_is c.self.invariant in
    let bound = subst (λ es. IsSearchInRange answer (length es)) same searched.bound in
    let position = subst (λ es. IsBinarySearchResult (λ e. cmp e.0 key) es answer) same (searched.position (λ e. cmp e.0 key) (always_returns_same _ _ _ (search rules))) in
    record {
      found = found_from_search g.met.K.Ord.total key c.args.self.now answer sorted bound position;
      missing = missing_from_search g.met.K.Ord.total key c.args.self.now answer sorted bound position;
      counted = omega (arith, ap length same, c.as_slice.type_inv.0);
    }
