-- SPDX-License-Identifier: Apache-2.0
use Rattle.std.proofs.Common.{take}
use Rattle.cedar_closure.specs.Marks.{Visited}
use Rattle.cedar_closure.proofs.reachable.visit.Given as goal

-- the positions so far were visited
abbrev pub invariant-loop-position : goal.invariant-loop-position
invariant-loop-position l = Visited l.stamp (take l.position-index l.row) l.initial.marks l.initial.found.items l.marks l.found.items
