-- SPDX-License-Identifier: Apache-2.0
use Rattle.std.proofs.Common.{◌≡◌, length}
use Rattle.std.specs.Cmp.Lexicographic.{slice_cmp}
use Rattle.std.specs.Ordering.{ordering_then}
use Rattle.cedar_data.proofs.comparing.compare_entries.Given as goal

-- what is left compares as the whole does
abbrev pub invariant-loop-key : goal.invariant-loop-key
invariant-loop-key g l =
    let compared = slice_cmp (λ (p q : g.row.K.Denot × g.row.V.Denot). ordering_then (g.K.Ord.cmp p.0 q.0) (g.V.Ord.cmp p.1 q.1)) in
    compared l.left l.right ≡ compared l.initial.left l.initial.right

abbrev pub decreases-loop-key : goal.decreases-loop-key
decreases-loop-key g l = length l.left
