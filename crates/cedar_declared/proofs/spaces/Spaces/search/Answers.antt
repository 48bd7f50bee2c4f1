-- SPDX-License-Identifier: Apache-2.0
use Rattle.std.proofs.Common.{length, ◌∙◌, rules, subst}
use Rattle.std.proofs.lemmas.Fn.{always_returns_same}
use Rattle.std.specs.List.Sorted.{IsSearchInRange, IsBinarySearchResult}
use Rattle.cedar_data.specs.Maps.{IsSortedMap}
use Rattle.cedar_data.proofs.Places.{found_from_search, missing_from_search}
use Rattle.cedar_declared.proofs.Basenames.{spaces_total}
use Rattle.cedar_declared.specs.Basenames.{space_cmp}
use Rattle.cedar_declared.proofs.spaces.Spaces.search.Goals as goal

pub returns : goal.returns
returns c =
    let key = c.args.namespace.now in
    let answer = c.binary_search_by.result in
    let same = c.as_slice.ensures.value ∙ c.self.view_is in
    let searched = c.binary_search_by.ensures in
    let sorted = subst (λ es. IsSortedMap space_cmp es) c.self.view_is c.self.invariant in
    let bound = subst (λ es. IsSearchInRange answer (length es)) same searched.bound in
    let position = subst (λ es. IsBinarySearchResult (λ e. space_cmp e.0 key) es answer) same (searched.position (λ e. space_cmp e.0 key) (always_returns_same _ _ _ (search rules))) in
    record {
      found = found_from_search spaces_total key c.args.self.now answer sorted bound position;
      missing = missing_from_search spaces_total key c.args.self.now answer sorted bound position;
    }
