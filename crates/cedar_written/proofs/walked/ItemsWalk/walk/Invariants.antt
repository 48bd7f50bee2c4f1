-- SPDX-License-Identifier: Apache-2.0
use Rattle.std.specs.Vec.Iter.{into_iter_items}
use Rattle.cedar_written.proofs.Goes.{GoesOn}
use Rattle.cedar_written.proofs.walked.ItemsWalk.walk.Given as goal

-- each item so far is taken through the step
abbrev pub invariant-loop-item : goal.invariant-loop-item
invariant-loop-item g l = GoesOn (g.T.Walk.through l.fn.step) l.fn.self (into_iter_items l.item-iterator) l.made
