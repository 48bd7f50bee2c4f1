-- SPDX-License-Identifier: Apache-2.0
use Rattle.std.proofs.Common.{drop}
use Rattle.cedar_convert_faults.proofs.Ascending.{Ascends}
use Rattle.cedar_convert_faults.proofs.repeats.ascend.Given as goal

-- the names so far ascend up to the last
abbrev pub invariant-loop-name : goal.invariant-loop-name
invariant-loop-name l = Ascends l.names l.last (drop l.name-index l.others)
