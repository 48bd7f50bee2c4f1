-- SPDX-License-Identifier: Apache-2.0
use Rattle.cedar_written.specs.Through.{through_attribute}
use Rattle.cedar_written.proofs.Goes.{Goes}
use Rattle.cedar_written.proofs.walk.+walk.Given as goal

-- each entry so far is taken through the step
abbrev pub invariant-walk_attributes-loop-name : goal.invariant-walk_attributes-loop-name
invariant-walk_attributes-loop-name g l = Goes (through_attribute (g.S.Step.step l.fn.step)) l.fn.attributes l.name-iterator l.made
