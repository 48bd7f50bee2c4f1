-- SPDX-License-Identifier: Apache-2.0
use Rattle.std.proofs.Common.{◌+◌, length}
use Rattle.cedar_convert_warnings.proofs.Apart.{Apart}
use Rattle.cedar_convert_warnings.proofs.merging.are_apart.Given as goal

-- the names so far ascend up to the last, and none of them stands in both lists
abbrev pub invariant-loop-name : goal.invariant-loop-name
invariant-loop-name l = Apart l.ones l.others l.last l.left.ones.now l.left.others.now

abbrev pub decreases-loop-name : goal.decreases-loop-name
decreases-loop-name l = length l.left.ones.now + length l.left.others.now
