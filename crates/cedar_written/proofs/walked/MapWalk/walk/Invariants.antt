-- SPDX-License-Identifier: Apache-2.0
use Rattle.cedar_written.proofs.Goes.{Goes}
use Rattle.cedar_written.proofs.walked.MapWalk.walk.Given as goal

-- each value so far is taken through the step
abbrev pub invariant-loop-key : goal.invariant-loop-key
invariant-loop-key g l = Goes (g.T.Walk.through l.fn.step) l.fn.self l.key-iterator l.made
