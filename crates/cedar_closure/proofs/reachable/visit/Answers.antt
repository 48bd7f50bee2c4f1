-- SPDX-License-Identifier: Apache-2.0
use Rattle.std.proofs.Common.{◌<◌, length, get_or, refl, ap, ◌∙◌, arith}
use Rattle.std.proofs.lemmas.List.{take_more}
use Rattle.cedar_closure.proofs.Visits.{Visited-same, Visited-none, Visited-again, Visited-new}
use Rattle.cedar_closure.proofs.reachable.visit.Goals as goal
use Rattle.cedar_closure.proofs.reachable.visit.Goals.{then-marks-position+in_ok-push, else-marks-position}

pub loop-position-init : goal.loop-position-init
loop-position-init c = Visited-none c.args.stamp c.args.marks.now c.args.found.now.items c.requires.told

pub loop-position-preserved : goal.loop-position-preserved
loop-position-preserved c =
    let position = get_or c.args.row.now c.loop-position.position-index 0 in
    let seen = take_more c.args.row.now c.loop-position.position-index 0 c.loop-position-test.true in
    let below : position < length c.loop-position.marks = omega (arith, c.requires.within c.loop-position.position-index 0 c.loop-position-test.true) in
    elim c.if-marks-position.branch [
      | then-marks-position+in_ok-push w ↦
          Visited-same seen refl w.marks-is (ap (λ v. v.items) w.found-is ∙ w.in_ok-push.ensures.items) (Visited-new position c.loop-position.invariant below w.if-marks-position.true)
      | else-marks-position w ↦
          Visited-same seen refl w.marks-is (ap (λ v. v.items) w.found-is) (Visited-again position c.loop-position.invariant below w.if-marks-position.false)
    ]
