-- SPDX-License-Identifier: Apache-2.0
use Rattle.std.proofs.Common.{◌≡◌, ◌||◌}
use Rattle.cedar_outlines.specs.of_declared.Held.{names_of}
use Rattle.cedar_hierarchy.specs.Children.{has_parent, is_child}
use Rattle.cedar_hierarchy.proofs.gathered.gather.Given as goal

-- the first ones are under their parents, and with those that are left they are all
abbrev pub invariant-loop-key : goal.invariant-loop-key
invariant-loop-key g l =
    (parent child : g.row.K.Denot) → (has_parent g.K.Ord.cmp (g.P.HasParents.is_parent (names_of l.all_defs)) l.key-iterator parent child || is_child g.K.Ord.cmp l.children parent child)
    ≡ has_parent g.K.Ord.cmp (g.P.HasParents.is_parent (names_of l.all_defs)) l.outlines parent child
