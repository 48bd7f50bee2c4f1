-- SPDX-License-Identifier: Apache-2.0
use Rattle.std.proofs.Common.{◌≡◌, ℕ, ◌+◌, ◌-◌, ◌*◌, ◌<◌, ◌≤◌, List, [], ◌∷◌, ◌++◌, true, false, length, reverse, take, set, get_or, Contains, refl, sym, ap, ◌∙◌, subst, arith, rules}
use Rattle.std.proofs.lemmas.List.{get_or_read, append-nil}
use Rattle.std.specs.List.{sum_by}
use Rattle.cedar_sorting.specs.Searched.{Searched, seen_at, Tells, returning, merged, with_part}
use Rattle.cedar_sorting.specs.declared.least_cycle.Frame.{Frame}
use Rattle.cedar_sorting.proofs.CycleMeasure.{unseen, left_over, unseen-set}
use Rattle.cedar_sorting.proofs.WalkMeasure.{one_row, times-more}
use Rattle.cedar_sorting.proofs.Parts.{Searching, Searching-new, Searching-open, Searching-done, Searching-close, Searching-merge, Searching-end, pushed-frame}
use Rattle.cedar_sorting.proofs.least_cycle.searched.Goals as goal

pub walk-preserved-in-New : goal.walk-preserved-in-New
walk-preserved-in-New c =
    let rows = c.args.rows.now in
    let top = c.walk.top in
    let s = c.walk.invariant in
    let at_inside : top.at < length rows = subst (λ n. n < length rows) s.parts.0.stands (s.inside top.base s.parts.0.base_top) in
    let row = c.as_slice-row.ensures ∙ get_or_read rows top.at c.index-rows-top.result at_inside c.index-rows-top.is [] in
    let to = get_or c.as_slice-row.result.now top.next 0 in
    let more : top.next < length (get_or rows top.at []) = subst (λ r. top.next < length r) row c.if-top-row.true in
    let is : to ≡ get_or (get_or rows top.at []) top.next 0 = ap (λ r. get_or r top.next 0) row in
    let below : to < length rows = subst (λ n. n < length rows) (sym is) (c.requires.within top.at [] at_inside top.next 0 more) in
    let base : c.len-base.result ≡ length c.walk.stack.items = search rules in
    let next = Searching-new s to more is below c.in-New.ensures _ (set c.walk.places to c.len-base.result) c.push-in-New.new.self.items refl (ap (set c.walk.places to) base) c.in_ok-push-in-New.ensures.items in
    let frame = c.entered-top-in-New.ensures ∙ (λ i. record { at = to; next = 0; base = base i; low = base i; least = to; returns = false }) in
    let way = pushed-frame c.walk.path.items c.push-in-New-2.new.self.items (record top { next = top.next + 1 }) c.in_ok-push-in-New-2.ensures.items in
    subst (λ f. Searching rows c.args.seen.now c.args.start (set c.walk.seen to true) (set c.walk.places to c.len-base.result) c.push-in-New.new.self.items c.walk.found (f ∷ reverse c.push-in-New-2.new.self.items)) (sym frame)
    (subst (λ fs. Searching rows c.args.seen.now c.args.start (set c.walk.seen to true) (set c.walk.places to c.len-base.result) c.push-in-New.new.self.items c.walk.found (record { at = to; next = 0; base = length c.walk.stack.items; low = length c.walk.stack.items; least = to; returns = false } ∷ fs)) (sym way) next)

pub walk-preserved-in-Open : goal.walk-preserved-in-Open
walk-preserved-in-Open c =
    let rows = c.args.rows.now in
    let top = c.walk.top in
    let s = c.walk.invariant in
    let at_inside : top.at < length rows = subst (λ n. n < length rows) s.parts.0.stands (s.inside top.base s.parts.0.base_top) in
    let row = c.as_slice-row.ensures ∙ get_or_read rows top.at c.index-rows-top.result at_inside c.index-rows-top.is [] in
    let to = get_or c.as_slice-row.result.now top.next 0 in
    let more : top.next < length (get_or rows top.at []) = subst (λ r. top.next < length r) row c.if-top-row.true in
    let is : to ≡ get_or (get_or rows top.at []) top.next 0 = ap (λ r. get_or r top.next 0) row in
    let tells = subst (λ st. (c.in-Open.place < length st) × (get_or st c.in-Open.place 0 ≡ to)) c.as_slice.ensures.value c.in-Open.ensures in
    subst (λ f. Searching rows c.args.seen.now c.args.start c.walk.seen c.walk.places c.walk.stack.items c.walk.found (f ∷ reverse c.walk.path.items)) (sym c.returning-top.ensures)
    (Searching-open s to more is c.in-Open.place tells.0 tells.1)

pub walk-preserved-in-Done : goal.walk-preserved-in-Done
walk-preserved-in-Done c =
    let rows = c.args.rows.now in
    let top = c.walk.top in
    let s = c.walk.invariant in
    let at_inside : top.at < length rows = subst (λ n. n < length rows) s.parts.0.stands (s.inside top.base s.parts.0.base_top) in
    let row = c.as_slice-row.ensures ∙ get_or_read rows top.at c.index-rows-top.result at_inside c.index-rows-top.is [] in
    let to = get_or c.as_slice-row.result.now top.next 0 in
    let more : top.next < length (get_or rows top.at []) = subst (λ r. top.next < length r) row c.if-top-row.true in
    let is : to ≡ get_or (get_or rows top.at []) top.next 0 = ap (λ r. get_or r top.next 0) row in
    let tells = subst (λ st. (seen_at c.walk.seen to ≡ true) × (Contains st to → ⊥)) c.as_slice.ensures.value c.in-Done.ensures in
    Searching-done s to more is tells

pub returns-in_default-clause-searched : goal.returns-in_default-clause-searched
returns-in_default-clause-searched c =
    let rows = c.args.rows.now in
    let top = c.walk.top in
    let s = c.walk.invariant in
    let at_inside : top.at < length rows = subst (λ n. n < length rows) s.parts.0.stands (s.inside top.base s.parts.0.base_top) in
    let row = c.as_slice-row.ensures ∙ get_or_read rows top.at c.index-rows-top.result at_inside c.index-rows-top.is [] in
    let over : length (get_or rows top.at []) ≤ top.next = subst (λ r. length r ≤ top.next) row (omega arith) in
    let closes : top.low ≡ top.base = search rules in
    let none : c.walk.path.items ≡ [] = c.in_default.ensures.items ∙ append-nil c.pop.new.self.items ∙ c.in_default.ensures.rest ∙ ap (λ n. take (n - 1) c.walk.path.items) c.in_default.ensures.cases.0 in
    Searching-end (Searching-close s over closes c.truncate.new.self.items c.with_part-found.result (reverse c.walk.path.items) c.truncate.ensures.items c.with_part-found.ensures refl) (ap reverse none)

pub walk-preserved-then-top : goal.walk-preserved-then-top
walk-preserved-then-top c =
    let rows = c.args.rows.now in
    let top = c.walk.top in
    let s = c.walk.invariant in
    let at_inside : top.at < length rows = subst (λ n. n < length rows) s.parts.0.stands (s.inside top.base s.parts.0.base_top) in
    let row = c.as_slice-row.ensures ∙ get_or_read rows top.at c.index-rows-top.result at_inside c.index-rows-top.is [] in
    let over : length (get_or rows top.at []) ≤ top.next = subst (λ r. length r ≤ top.next) row (omega arith) in
    let closes : top.low ≡ top.base = search rules in
    let way = pushed-frame c.pop.new.self.items c.walk.path.items c.in-Some.before c.in-Some.ensures.items in
    Searching-close s over closes c.truncate.new.self.items c.with_part-found.result (c.in-Some.before ∷ reverse c.pop.new.self.items) c.truncate.ensures.items c.with_part-found.ensures (sym way)

pub walk-preserved : goal.walk-preserved
walk-preserved c =
    let rows = c.args.rows.now in
    let top = c.walk.top in
    let s = c.walk.invariant in
    let at_inside : top.at < length rows = subst (λ n. n < length rows) s.parts.0.stands (s.inside top.base s.parts.0.base_top) in
    let row = c.as_slice-row.ensures ∙ get_or_read rows top.at c.index-rows-top.result at_inside c.index-rows-top.is [] in
    let over : length (get_or rows top.at []) ≤ top.next = subst (λ r. length r ≤ top.next) row (omega arith) in
    let apart : top.low ≡ top.base → ⊥ = search rules in
    let below : top.low < top.base = omega (arith, apart, s.parts.0.low_base) in
    let way = pushed-frame c.pop-else-top.new.self.items c.walk.path.items c.in-Some-pop.before c.in-Some-pop.ensures.items in
    Searching-merge (subst (λ fs. Searching rows c.args.seen.now c.args.start c.walk.seen c.walk.places c.walk.stack.items c.walk.found (top ∷ fs)) way s) over below c.merged-top.result (reverse c.pop-else-top.new.self.items) c.merged-top.ensures refl

pub walk-smaller-in-New : goal.walk-smaller-in-New
walk-smaller-in-New c =
    let rows = c.args.rows.now in
    let top = c.walk.top in
    let s = c.walk.invariant in
    let at_inside : top.at < length rows = subst (λ n. n < length rows) s.parts.0.stands (s.inside top.base s.parts.0.base_top) in
    let row = c.as_slice-row.ensures ∙ get_or_read rows top.at c.index-rows-top.result at_inside c.index-rows-top.is [] in
    let to = get_or c.as_slice-row.result.now top.next 0 in
    let more : top.next < length (get_or rows top.at []) = subst (λ r. top.next < length r) row c.if-top-row.true in
    let is : to ≡ get_or (get_or rows top.at []) top.next 0 = ap (λ r. get_or r top.next 0) row in
    let below : to < length rows = subst (λ n. n < length rows) (sym is) (c.requires.within top.at [] at_inside top.next 0 more) in
    let inside : to < length c.walk.seen = subst (λ n. to < n) (sym s.long) below in
    let fewer = unseen-set c.walk.seen to inside c.in-New.ensures in
    let product = times-more (unseen (set c.walk.seen to true)) (unseen c.walk.seen) (sum_by length rows + 2) fewer in
    let row_to = one_row rows to in
    let way = ap (left_over rows) (pushed-frame c.walk.path.items c.push-in-New-2.new.self.items (record top { next = top.next + 1 }) c.in_ok-push-in-New-2.ensures.items) in
    let frame = ap (λ f. length (get_or rows f.at []) - f.next) c.entered-top-in-New.ensures in
    omega (arith, product, row_to, way, frame, more)
