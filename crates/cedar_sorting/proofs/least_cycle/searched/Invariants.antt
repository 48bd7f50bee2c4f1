-- SPDX-License-Identifier: Apache-2.0
use Rattle.std.proofs.Common.{◌+◌, ◌-◌, ◌*◌, ◌∷◌, length, reverse, get_or, []}
use Rattle.std.specs.List.{sum_by}
use Rattle.cedar_sorting.proofs.CycleMeasure.{unseen, left_over}
use Rattle.cedar_sorting.proofs.Parts.{Searching}
use Rattle.cedar_sorting.proofs.least_cycle.searched.Given as goal

-- the stack is in parts, one for each position on the way
abbrev pub invariant-walk : goal.invariant-walk
invariant-walk l = Searching l.rows l.fn.seen l.start l.seen l.places l.stack.items l.found (l.top ∷ reverse l.path.items)

-- the positions that were not seen, and what is left of the rows on the way
abbrev pub decreases-walk : goal.decreases-walk
decreases-walk l = unseen l.seen * (sum_by length l.rows + 2) + left_over l.rows (l.top ∷ reverse l.path.items)
