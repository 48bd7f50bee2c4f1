-- SPDX-License-Identifier: Apache-2.0
use Rattle.std.proofs.Common.{◌+◌, ◌-◌, length}
use Rattle.cedar_closure.specs.Marks.{unmarked}
use Rattle.cedar_closure.proofs.Visits.{Searched}
use Rattle.cedar_closure.proofs.reachable.reached_beyond.Given as goal

-- the rows of the positions before `next` were visited
abbrev pub invariant-loop-next : goal.invariant-loop-next
invariant-loop-next l = Searched l.rows l.stamp l.start l.initial.found.items l.next l.marks l.found.items

-- the positions that are not found yet, and those whose rows are not visited yet
abbrev pub decreases-loop-next : goal.decreases-loop-next
decreases-loop-next l = unmarked l.stamp l.marks + (length l.found.items - l.next)
