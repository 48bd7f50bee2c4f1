-- SPDX-License-Identifier: Apache-2.0
use Rattle.std.proofs.Common.{◌≡◌, ◌++◌, map, flat_map}
use Rattle.std.specs.Slice.Iter.{iter_rest}
use Rattle.cedar_tree.specs.Meanings.{annotated_tree, decl_tree, node_of}
use Rattle.cedar_convert_faults.specs.Faults.{entity_faults}
use Rattle.cedar_convert_faults.proofs.declarations.entities_faults.Given as goal

-- the faults so far, with those of the rest, are all
abbrev pub invariant-loop-decl : goal.invariant-loop-decl
invariant-loop-decl l =
    l.faults.items ++ flat_map (λ d. entity_faults d.item.node) (map (annotated_tree (node_of decl_tree)) (iter_rest l.decl-iterator))
    ≡ flat_map (λ d. entity_faults d.item.node) (map (annotated_tree (node_of decl_tree)) l.decls)
