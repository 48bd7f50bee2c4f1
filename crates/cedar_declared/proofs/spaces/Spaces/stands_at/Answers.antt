-- SPDX-License-Identifier: Apache-2.0
use Rattle.std.proofs.Common.{◌<◌, length, get_or, nat_eq, ap, sym, ◌∙◌, subst}
use Rattle.std.specs.Cmp.{Equal-is}
use Rattle.std.specs.Cmp.Lexicographic.{pointwise, lists_ties, texts_ties}
use Rattle.cedar_data.proofs.Places.{StandsAt-from_search}
use Rattle.cedar_data.specs.Maps.{IsSortedMap}
use Rattle.cedar_names.specs.Identifiers.{id_word}
use Rattle.cedar_declared.proofs.Basenames.{spaces_total}
use Rattle.cedar_declared.specs.Basenames.{id_cmp, space_cmp}
use Rattle.cedar_declared.proofs.spaces.Spaces.stands_at.Goals as goal

pub returns-in-Some : goal.returns-in-Some
returns-in-Some c equal =
    let key = c.args.namespace.now in
    let space = c.in-Some.space.now in
    let same = c.as_slice.ensures.value ∙ c.self.view_is in
    let sorted = subst (λ es. IsSortedMap space_cmp es) c.self.view_is c.self.invariant in
    let item = c.in-Some.ensures.lookup.3 in
    let ties = lists_ties id_cmp (λ a b. texts_ties (id_word a) (id_word b)) space.0 key in
    let is = ap (λ ids. pointwise (λ a b. pointwise nat_eq (id_word a) (id_word b)) ids key) (sym c.as_slice-in-Some.ensures) ∙ sym c.eq.ensures ∙ equal in
    let tied = (Equal-is (space_cmp space.0 key)).0 (sym ties ∙ is) in
    StandsAt-from_search spaces_total key c.args.self.now c.args.at sorted (subst (λ es. c.args.at < length es) same item.0)
    (λ d. ap (λ e. space_cmp e.0 key) (sym (item.1 d ∙ ap (λ es. get_or es c.args.at d) same)) ∙ tied)
