-- SPDX-License-Identifier: Apache-2.0
use Rattle.std.proofs.Common.{get_or, set, ap, sym, ◌∙◌, subst}
use Rattle.std.specs.List.{insert}
use Rattle.cedar_data.specs.Maps.{IsSortedMap}
use Rattle.cedar_data.specs.Sets.{Adds}
use Rattle.cedar_declared.proofs.Basenames.{grows_sorted, puts_found, puts_missing, stays_sorted}
use Rattle.cedar_declared.specs.Basenames.{PutsName, id_cmp, space_cmp}
use Rattle.cedar_declared.proofs.spaces.Spaces.insert.Goals as goal

pub invariant_of-self : goal.invariant_of-self
invariant_of-self c =
    let entry = c.index_mut.result.now in
    let there = c.index_mut.ensures.value ∙ ap (λ es. get_or es c.in-Ok.at entry) c.self.view_is in
    let sorted = subst (λ es. IsSortedMap space_cmp es) c.self.view_is c.self.invariant in
    subst (λ es. IsSortedMap space_cmp (set es c.in-Ok.at (entry.0, c.insert.new.self))) (sym c.self.view_is) (stays_sorted c.in-Ok.ensures.found entry c.insert.new.self there sorted)

pub returns-in_ok-insert-in-Ok : goal.returns-in_ok-insert-in-Ok
returns-in_ok-insert-in-Ok c =
    let entry = c.index_mut.result.now in
    let there = c.index_mut.ensures.value ∙ ap (λ es. get_or es c.in-Ok.at entry) c.self.view_is in
    subst (λ es. PutsName c.args.self.now (set es c.in-Ok.at (entry.0, c.insert.new.self)) c.args.name.now) (sym c.self.view_is)
    (puts_found c.in-Ok.ensures.found entry c.insert.new.self there c.args.name.now c.in_ok-basename.basename
    (c.as_slice.ensures.value ∙ c.namespace_components.ensures) (c.in_ok-basename.ensures ∙ c.basename.ensures) c.in_ok-insert-in-Ok.ensures.adds)

pub invariant_of-self-in-Err : goal.invariant_of-self-in-Err
invariant_of-self-in-Err c =
    let key_is = c.as_slice.ensures.value ∙ c.namespace_components.ensures in
    let sorted = subst (λ es. IsSortedMap space_cmp es) c.self.view_is c.self.invariant in
    let made = c.in_ok-insert-in-Err-2.ensures.items ∙ (λ i. insert (c.self.view_is i) c.in-Err.at ((c.in_ok-namespace-in-Err.ensures ∙ sym key_is) i, c.insert-in-Err.new.self)) in
    subst (λ es. IsSortedMap space_cmp es) (sym made) (grows_sorted c.in-Err.ensures.missing c.insert-in-Err.new.self sorted)

pub returns-in_ok-insert-in-Err-2 : goal.returns-in_ok-insert-in-Err-2
returns-in_ok-insert-in-Err-2 c =
    let key_is = c.as_slice.ensures.value ∙ c.namespace_components.ensures in
    let made = c.in_ok-insert-in-Err-2.ensures.items ∙ (λ i. insert (c.self.view_is i) c.in-Err.at ((c.in_ok-namespace-in-Err.ensures ∙ sym key_is) i, c.insert-in-Err.new.self)) in
    subst (λ es. PutsName c.args.self.now es c.args.name.now) (sym made)
    (puts_missing c.in-Err.ensures.missing c.insert-in-Err.new.self c.args.name.now c.in_ok-basename.basename key_is (c.in_ok-basename.ensures ∙ c.basename.ensures)
    (subst (λ none. Adds id_cmp none c.insert-in-Err.new.self c.in_ok-basename.basename) c.new-basenames.ensures c.in_ok-insert-in-Err.ensures.adds))
