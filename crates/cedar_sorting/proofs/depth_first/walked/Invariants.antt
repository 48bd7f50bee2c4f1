-- SPDX-License-Identifier: Apache-2.0
use Rattle.std.proofs.Common.{◌+◌, ◌-◌, ◌*◌, length, reverse, get_or, []}
use Rattle.std.specs.List.{sum_by}
use Rattle.cedar_sorting.proofs.Walks.{Walking}
use Rattle.cedar_sorting.proofs.WalkMeasure.{news, left_of}
use Rattle.cedar_sorting.proofs.depth_first.walked.Given as goal

abbrev pub invariant-walk : goal.invariant-walk
invariant-walk l = Walking l.rows l.fn.order.items l.start l.marks l.order.items (reverse l.path.items) l.at l.next

-- the positions that are new, and what is left of the rows on the way
abbrev pub decreases-walk : goal.decreases-walk
decreases-walk l = news l.marks * (sum_by length l.rows + 2) + (left_of l.rows (reverse l.path.items) + (length (get_or l.rows l.at []) - l.next))
