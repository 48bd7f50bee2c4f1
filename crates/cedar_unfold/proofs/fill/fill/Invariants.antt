-- SPDX-License-Identifier: Apache-2.0
use Rattle.std.proofs.Common.{ℕ, ◌+◌, ◌≤◌, Bool, List, drop}
use Rattle.std.specs.List.{sum_by}
use Rattle.cedar_unfold.specs.Full.{AreFaultless, nodes_at}
use Rattle.cedar_unfolding.specs.Meanings.{full_meanings}
use Rattle.cedar_unfold.specs.Tables.{by_name, tabled}
use Rattle.cedar_unfold.proofs.Filling.{Filling}
use Rattle.cedar_unfold.proofs.fill.fill.Given as goal

-- the common types so far are done, and the looks at the others are still to come
abbrev pub invariant-loop-at : goal.invariant-loop-at
invariant-loop-at g l =
    ((is_extension : List ℕ → Bool) → AreFaultless (full_meanings (by_name g.T.TypeNode.written l.defs) is_extension) → Filling (by_name g.T.TypeNode.written l.defs) is_extension l.order l.at-index (tabled l.table))
    × (l.steps + sum_by (nodes_at (by_name g.T.TypeNode.written l.defs)) (drop l.at-index l.order) ≤ l.fn.steps + sum_by (nodes_at (by_name g.T.TypeNode.written l.defs)) l.order)
