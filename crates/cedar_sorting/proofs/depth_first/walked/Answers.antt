-- SPDX-License-Identifier: Apache-2.0
use Rattle.std.proofs.Common.{◌≡◌, ℕ, ◌+◌, ◌-◌, ◌*◌, ◌<◌, ◌≤◌, [], ◌∷◌, ◌++◌, length, reverse, take, set, get_or, refl, sym, ap, ◌∙◌, subst, arith}
use Rattle.std.proofs.lemmas.List.{get_or_read, append-nil}
use Rattle.std.specs.List.{sum_by}
use Rattle.cedar_sorting.specs.Walked.{mark_at}
use Rattle.cedar_sorting.specs.declared.mark.Mark.TheVariants.{New, Open, Done}
use Rattle.cedar_sorting.proofs.WalkMeasure.{news, left_of, news-open, one_row, times-more}
use Rattle.cedar_sorting.proofs.Walks.{Walking-new, Walking-cycle, Walking-back, Walking-end, pushed-way}
use Rattle.cedar_sorting.proofs.depth_first.walked.Goals as goal

pub walk-preserved-in-New : goal.walk-preserved-in-New
walk-preserved-in-New c =
    let rows = c.args.rows.now in
    let at = c.walk.at in
    let next = c.walk.next in
    let row = c.as_slice-row.ensures ∙ get_or_read rows at c.index-rows-at.result c.walk.invariant.inside.0 c.index-rows-at.is [] in
    let to = get_or c.as_slice-row.result.now next 0 in
    let more : next < length (get_or rows at []) = subst (λ r. next < length r) row c.if-next-row.true in
    let is : to ≡ get_or (get_or rows at []) next 0 = ap (λ r. get_or r next 0) row in
    let below : to < length rows = subst (λ n. n < length rows) (sym is) (c.requires.within at [] c.walk.invariant.inside.0 next 0 more) in
    Walking-new c.walk.invariant to (reverse c.push.new.self.items) _ more is below c.in-New.is (pushed-way c.walk.path.items c.push.new.self.items (record { at = at; next = next + 1 }) c.in_ok-push-in-New.ensures.items) refl

pub walk-smaller-in-New : goal.walk-smaller-in-New
walk-smaller-in-New c =
    let rows = c.args.rows.now in
    let at = c.walk.at in
    let next = c.walk.next in
    let row = c.as_slice-row.ensures ∙ get_or_read rows at c.index-rows-at.result c.walk.invariant.inside.0 c.index-rows-at.is [] in
    let to = get_or c.as_slice-row.result.now next 0 in
    let more : next < length (get_or rows at []) = subst (λ r. next < length r) row c.if-next-row.true in
    let is : to ≡ get_or (get_or rows at []) next 0 = ap (λ r. get_or r next 0) row in
    let below : to < length rows = subst (λ n. n < length rows) (sym is) (c.requires.within at [] c.walk.invariant.inside.0 next 0 more) in
    let inside : to < length c.walk.marks = subst (λ n. to < n) (sym c.walk.invariant.sorted.long) below in
    let fewer = news-open c.walk.marks to inside c.in-New.is in
    let product = times-more (news (set c.walk.marks to Open)) (news c.walk.marks) (sum_by length rows + 2) fewer in
    let row_to = one_row rows to in
    let way = ap (left_of rows) (pushed-way c.walk.path.items c.push.new.self.items (record { at = at; next = next + 1 }) c.in_ok-push-in-New.ensures.items) in
    omega (arith, product, row_to, way, more)

pub returns-in-Open-clause-cycle : goal.returns-in-Open-clause-cycle
returns-in-Open-clause-cycle c = λ _.
    let rows = c.args.rows.now in
    let at = c.walk.at in
    let next = c.walk.next in
    let row = c.as_slice-row.ensures ∙ get_or_read rows at c.index-rows-at.result c.walk.invariant.inside.0 c.index-rows-at.is [] in
    let to = get_or c.as_slice-row.result.now next 0 in
    let more : next < length (get_or rows at []) = subst (λ r. next < length r) row c.if-next-row.true in
    let is : to ≡ get_or (get_or rows at []) next 0 = ap (λ r. get_or r next 0) row in
    (to, Walking-cycle c.walk.invariant to more is c.in-Open.is)

pub returns-in_default-clause-sorted : goal.returns-in_default-clause-sorted
returns-in_default-clause-sorted c = λ _.
    let rows = c.args.rows.now in
    let row = c.as_slice-row.ensures ∙ get_or_read rows c.walk.at c.index-rows-at.result c.walk.invariant.inside.0 c.index-rows-at.is [] in
    let over : length (get_or rows c.walk.at []) ≤ c.walk.next = subst (λ r. length r ≤ c.walk.next) row (omega arith) in
    Walking-end c.walk.invariant over _ c.push-else-next-row.new.self.items
    (ap reverse (c.in_default.ensures.items ∙ append-nil c.pop.new.self.items ∙ c.in_default.ensures.rest ∙ ap (λ n. take (n - 1) c.walk.path.items) c.in_default.ensures.cases.0)) refl c.in_ok-push.ensures.items

pub walk-preserved : goal.walk-preserved
walk-preserved c =
    let rows = c.args.rows.now in
    let row = c.as_slice-row.ensures ∙ get_or_read rows c.walk.at c.index-rows-at.result c.walk.invariant.inside.0 c.index-rows-at.is [] in
    let over : length (get_or rows c.walk.at []) ≤ c.walk.next = subst (λ r. length r ≤ c.walk.next) row (omega arith) in
    Walking-back c.walk.invariant over c.in-Some.step (reverse c.pop.new.self.items) _ c.push-else-next-row.new.self.items (pushed-way c.pop.new.self.items c.walk.path.items c.in-Some.step c.in-Some.ensures.items) refl c.in_ok-push.ensures.items
