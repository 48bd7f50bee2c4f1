-- SPDX-License-Identifier: Apache-2.0
use Rattle.std.proofs.Common.{Some, get_or, set, ap, sym, ◌∙◌, subst}
use Rattle.std.specs.List.{insert}
use Rattle.cedar_data.specs.Maps.{IsSortedMap}
use Rattle.cedar_data.proofs.Places.{StandsAt-get, StandsAt-insert, BelongsAt-get, BelongsAt-insert}
use Rattle.cedar_data.proofs.Splitting.{insert_entry-sorted}
use Rattle.cedar_data.proofs.run.Run.insert.Goals as goal

pub returns-in-Ok-clause-ok : goal.returns-in-Ok-clause-ok
returns-in-Ok-clause-ok g c =
    let entry = c.index_mut.result.now in
    let is = c.index_mut.ensures.value ∙ ap (λ es. get_or es c.in-Ok.at entry) c.self.view_is in
    (λ i. set (c.self.view_is i) c.in-Ok.at ((is i).0, c.replace.ensures.after i)) ∙ sym (StandsAt-insert g.met.K.Ord.total c.args.key c.in-Ok.ensures.found entry c.args.value)

pub returns-in-Ok-clause-old : goal.returns-in-Ok-clause-old
returns-in-Ok-clause-old g c =
    let entry = c.index_mut.result.now in
    let is = c.index_mut.ensures.value ∙ ap (λ es. get_or es c.in-Ok.at entry) c.self.view_is in
    ap Some (c.replace.ensures.value ∙ ap (λ e. e.1) is) ∙ sym (StandsAt-get g.met.K.Ord.total c.args.key c.in-Ok.ensures.found entry)

pub invariant_of-self : goal.invariant_of-self
invariant_of-self g c =
    let sorted = subst (λ es. IsSortedMap g.K.Ord.cmp es) c.self.view_is c.self.invariant in
    subst (λ es. IsSortedMap g.K.Ord.cmp es) (sym (returns-in-Ok-clause-ok g c)) (insert_entry-sorted g.met.K.Ord.total c.args.key c.args.self.now c.args.value sorted)

pub returns-in_ok-insert-in-Err-clause-ok : goal.returns-in_ok-insert-in-Err-clause-ok
returns-in_ok-insert-in-Err-clause-ok g c =
    c.in_ok-insert-in-Err.ensures.items ∙ ap (λ es. insert es c.in-Err.at (c.args.key, c.args.value)) (c.make_room.ensures ∙ c.self.view_is)
    ∙ sym (BelongsAt-insert g.met.K.Ord.total c.args.key c.in-Err.ensures.missing c.args.value)

pub returns-in_ok-insert-in-Err-clause-old : goal.returns-in_ok-insert-in-Err-clause-old
returns-in_ok-insert-in-Err-clause-old g c = sym (BelongsAt-get g.met.K.Ord.total c.args.key c.in-Err.ensures.missing)

pub invariant_of-self-in-Err : goal.invariant_of-self-in-Err
invariant_of-self-in-Err g c =
    let sorted = subst (λ es. IsSortedMap g.K.Ord.cmp es) c.self.view_is c.self.invariant in
    subst (λ es. IsSortedMap g.K.Ord.cmp es) (sym (returns-in_ok-insert-in-Err-clause-ok g c)) (insert_entry-sorted g.met.K.Ord.total c.args.key c.args.self.now c.args.value sorted)
