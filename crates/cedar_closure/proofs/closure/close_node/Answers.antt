-- SPDX-License-Identifier: Apache-2.0
use Rattle.std.proofs.Common.{◌≡◌, [], ℕ, ◌+◌, ◌<◌, ◌≤◌, ◌↔◌, ◌⊎◌, All, Contains, true, length, Some, sym, ◌∙◌, subst}
use Rattle.std.proofs.lemmas.List.{get_or_read}
use Rattle.std.proofs.lemmas.List.Quantifiers.{position-Some}
use Rattle.std.specs.BTreeMap.{is_at}
use Rattle.std.specs.Option.{IsSomeAnd}
use Rattle.cedar_closure.specs.Chains.{Reaches}
use Rattle.cedar_closure.specs.Marks.{Leads}
use Rattle.cedar_closure.specs.Places.{place}
use Rattle.cedar_closure.proofs.KeyChains.{some_and}
use Rattle.cedar_closure.proofs.Links.{at_some, chained_beyond, either_beyond}
use Rattle.cedar_closure.proofs.closure.close_node.Goals as goal

pub reached_beyond-requires : goal.reached_beyond-requires
reached_beyond-requires g c =
    let is : place g.K.Ord.cmp c.args.keys.now c.args.key.now ≡ Some c.in-Some.at = sym c.place_near.ensures ∙ c.in-Some.is in
    let (inside, _, _) = position-Some (is_at (g.K.Ord.cmp c.args.key.now)) c.args.keys.now c.in-Some.at c.args.key.now is in
    record {
      within = c.requires.within;
      start = subst (λ n. c.in-Some.at < n) (sym c.requires.one_each.0) inside;
      one_each = c.requires.one_each.1;
      earlier = at_some (λ at. All (λ mark. mark ≤ at) c.args.marks.now) is c.requires.earlier;
    }

pub add_edges_to-requires : goal.add_edges_to-requires
add_edges_to-requires g c = record {
  ordered = c.requires.ordered;
  ascends = c.requires.ascends;
  within = subst (λ found. All (λ at. at < length c.args.keys.now) found) (sym c.as_slice.ensures.value) (subst (λ n. All (λ at. at < n) c.in_ok-further.further.items) c.requires.one_each.0 c.in_ok-further.ensures.within);
}

pub returns-clause-leads : goal.returns-clause-leads
returns-clause-leads g c =
    let keys = c.args.keys.now in
    let rows = c.args.rows.now in
    let at = c.in-Some.at in
    λ to. either_beyond (c.in_ok-add_edges_to.ensures.leads to) (c.requires.own_row to)
    (chained_beyond rows c.as_slice.result.now at (place g.K.Ord.cmp keys c.args.key.now) (place g.K.Ord.cmp keys to) (sym c.place_near.ensures ∙ c.in-Some.is)
    (subst (λ l. (j : ℕ) → (Leads rows at j ⊎ Contains l j) ↔ Reaches (Leads rows) at j) (sym c.as_slice.ensures.value) c.in_ok-further.ensures.reached))

pub returns-clause-returns : goal.returns-clause-returns
returns-clause-returns g c =
    let rows = c.args.rows.now in
    let at = c.in-Some.at in
    let reached = c.in_ok-further.ensures.reached at in
    let own = place g.K.Ord.cmp c.args.keys.now c.args.key.now in
    let is : own ≡ Some at = sym c.place_near.ensures ∙ c.in-Some.is in
    let (inside, _, _) = position-Some (is_at (g.K.Ord.cmp c.args.key.now)) c.args.keys.now at c.args.key.now is in
    let row = get_or_read rows at c.index-rows-at.result (subst (λ n. at < n) (sym c.requires.one_each.0) inside) c.index-rows-at.is [] in
    let either : (c.either_contains.result ≡ true) ↔ (Leads rows at at ⊎ Contains c.in_ok-further.further.items at) =
    subst (λ l. (c.either_contains.result ≡ true) ↔ (Contains l at ⊎ Contains c.in_ok-further.further.items at)) (c.as_slice-2.ensures ∙ row)
    (subst (λ l. (c.either_contains.result ≡ true) ↔ (Contains c.as_slice-2.result.now at ⊎ Contains l at)) c.as_slice-3.ensures.value c.either_contains.ensures) in (
      λ h. some_and own (λ i. IsSomeAnd own (λ j. Reaches (Leads rows) i j)) at is (some_and own (λ j. Reaches (Leads rows) at j) at is (reached.0 (either.0 h))),
      λ h. either.1 (reached.1 (at_some (λ j. Reaches (Leads rows) at j) is (at_some (λ i. IsSomeAnd own (λ j. Reaches (Leads rows) i j)) is h))),
    )

pub returns-clause-latest : goal.returns-clause-latest
returns-clause-latest g c = some_and (place g.K.Ord.cmp c.args.keys.now c.args.key.now) (λ at. All (λ mark. mark ≤ at + 1) c.reached_beyond.new.marks) c.in-Some.at (sym c.place_near.ensures ∙ c.in-Some.is) c.in_ok-further.ensures.latest
