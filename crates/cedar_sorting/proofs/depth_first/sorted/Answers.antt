-- SPDX-License-Identifier: Apache-2.0
use Rattle.std.proofs.Common.{◌≡◌, ◌+◌, ◌<◌, List, length, true, refl, sym, ap, ◌∙◌, subst, arith}
use Rattle.std.proofs.lemmas.List.{get_or_default}
use Rattle.cedar_sorting.specs.declared.mark.Mark.{Mark}
use Rattle.cedar_sorting.specs.declared.mark.Mark.TheVariants.{New}
use Rattle.cedar_sorting.proofs.Walks.{SortedTo, SortedTo-next, SortedTo-known}
use Rattle.cedar_sorting.proofs.depth_first.sorted.Goals as goal
use Rattle.cedar_sorting.proofs.depth_first.sorted.Goals.{in-New+in_ok-walked+else-not-branch, in_default}

pub loop-start-preserved : goal.loop-start-preserved
loop-start-preserved c =
    let rows = c.args.rows.now in
    let start = c.loop-start.start in
    let inside : start < length c.loop-start.marks = omega (arith, c.loop-start-test.true, c.loop-start.invariant.sorted.long) in
    elim c.match-marks-start.branch [
      | in-New+in_ok-walked+else-not-branch w ↦
          subst (λ o. SortedTo rows (start + 1) c.match-marks-start.marks o.items) (sym w.order-is)
          (subst (λ m. SortedTo rows (start + 1) m w.walked.new.order.items) (sym w.marks-is)
          (SortedTo-next c.loop-start.invariant (w.in_ok-walked.ensures.sorted w.if-not-branch.false)))
      | in_default w ↦
          subst (λ o. SortedTo rows (start + 1) c.match-marks-start.marks o.items) (sym w.order-is)
          (subst (λ m. SortedTo rows (start + 1) m c.loop-start.order.items) (sym w.marks-is)
          (SortedTo-known c.loop-start.invariant (λ e. w.in_default.not-New e)))
    ]
