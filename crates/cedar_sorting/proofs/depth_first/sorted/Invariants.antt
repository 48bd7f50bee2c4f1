-- SPDX-License-Identifier: Apache-2.0
use Rattle.cedar_sorting.proofs.Walks.{SortedTo}
use Rattle.cedar_sorting.proofs.depth_first.sorted.Given as goal

abbrev pub invariant-loop-start : goal.invariant-loop-start
invariant-loop-start l = SortedTo l.rows l.start l.marks l.order.items
