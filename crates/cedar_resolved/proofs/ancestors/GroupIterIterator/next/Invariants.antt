-- SPDX-License-Identifier: Apache-2.0
use Rattle.std.proofs.Common.{◌≡◌, length}
use Rattle.cedar_resolved.specs.Queries.{groups_left}
use Rattle.cedar_resolved.proofs.ancestors.GroupIterIterator.next.Given as goal

-- none of the actions so far has descendants
abbrev pub invariant-loop-name : goal.invariant-loop-name
invariant-loop-name l = groups_left l.self ≡ groups_left l.initial.self

abbrev pub decreases-loop-name : goal.decreases-loop-name
decreases-loop-name l = length l.self.actions
