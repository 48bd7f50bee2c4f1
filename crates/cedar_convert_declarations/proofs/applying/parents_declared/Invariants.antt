-- SPDX-License-Identifier: Apache-2.0
use Rattle.std.proofs.Common.{◌≡◌, ◌++◌, map}
use Rattle.std.specs.Vec.Iter.{into_iter_items}
use Rattle.cedar_tree.specs.Meanings.{node_of, qual_tree}
use Rattle.cedar_convert_fragment.specs.Declares.{parent_of}
use Rattle.cedar_convert_fragment.specs.Views.{parent_seen}
use Rattle.cedar_convert_declarations.proofs.applying.parents_declared.Given as goal

-- the parents so far, with those of the rest, are all
abbrev pub invariant-loop-parent : goal.invariant-loop-parent
invariant-loop-parent l =
    map parent_seen l.made ++ map (λ p. parent_of p.node) (map (node_of qual_tree) (into_iter_items l.parent-iterator)) ≡ map (λ p. parent_of p.node) (map (node_of qual_tree) (into_iter_items l.initial.parent-iterator))
