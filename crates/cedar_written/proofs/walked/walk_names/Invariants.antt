-- SPDX-License-Identifier: Apache-2.0
use Rattle.std.specs.Vec.Iter.{into_iter_items}
use Rattle.cedar_written.specs.Reference.{named}
use Rattle.cedar_written.proofs.Goes.{GoesOn}
use Rattle.cedar_written.proofs.walked.walk_names.Given as goal

-- each name so far is taken through the step
abbrev pub invariant-loop-name : goal.invariant-loop-name
invariant-loop-name g l = GoesOn (λ n. g.S.Step.step l.fn.step (named l.fn.kind n)) l.fn.names (into_iter_items l.name-iterator) l.made
