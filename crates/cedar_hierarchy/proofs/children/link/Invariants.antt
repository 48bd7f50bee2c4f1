-- SPDX-License-Identifier: Apache-2.0
use Rattle.std.proofs.Common.{◌≡◌, ◌&&◌, ◌||◌}
use Rattle.std.specs.BTreeMap.{is_at}
use Rattle.cedar_data.specs.Sets.{contains}
use Rattle.cedar_hierarchy.specs.Children.{is_child}
use Rattle.cedar_hierarchy.proofs.children.link.Given as goal

-- the child is under the first parents, so that under those that are left too it is under all
abbrev pub invariant-loop-parent : goal.invariant-loop-parent
invariant-loop-parent g l =
    (p c : g.row.K.Denot) → ((contains g.K.Ord.cmp l.parent-iterator p && is_at (g.K.Ord.cmp l.child) c) || is_child g.K.Ord.cmp l.children p c)
    ≡ ((contains g.K.Ord.cmp l.parents p && is_at (g.K.Ord.cmp l.child) c) || is_child g.K.Ord.cmp l.initial.children p c)
