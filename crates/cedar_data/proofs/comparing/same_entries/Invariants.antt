-- SPDX-License-Identifier: Apache-2.0
use Rattle.std.proofs.Common.{◌≡◌, ◌&&◌, length}
use Rattle.std.specs.Cmp.Lexicographic.{pointwise}
use Rattle.cedar_data.proofs.comparing.same_entries.Given as goal

-- what is left is the same as the other's where the whole is
abbrev pub invariant-loop-key : goal.invariant-loop-key
invariant-loop-key g l =
    let same = pointwise (λ (p q : g.row.K.Denot × g.row.V.Denot). g.K.PartialEq.eq p.0 q.0 && g.V.PartialEq.eq p.1 q.1) in
    (length l.left ≡ length l.right) × (same l.left l.right ≡ same l.initial.left l.initial.right)

abbrev pub decreases-loop-key : goal.decreases-loop-key
decreases-loop-key g l = length l.left
