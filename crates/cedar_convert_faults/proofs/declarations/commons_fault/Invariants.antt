-- SPDX-License-Identifier: Apache-2.0
use Rattle.std.proofs.Common.{◌≡◌, map}
use Rattle.std.specs.Slice.Iter.{iter_rest}
use Rattle.cedar_tree.specs.Meanings.{annotated_tree, decl_tree, node_of}
use Rattle.cedar_convert_faults.specs.Faults.{common_faults}
use Rattle.cedar_convert_faults.specs.Lists.{first_found}
use Rattle.cedar_convert_faults.proofs.declarations.commons_fault.Given as goal

-- the first fault of the rest is that of all
abbrev pub invariant-loop-decl : goal.invariant-loop-decl
invariant-loop-decl l =
    first_found (map (λ d. common_faults d.item.node) (map (annotated_tree (node_of decl_tree)) (iter_rest l.decl-iterator)))
    ≡ first_found (map (λ d. common_faults d.item.node) (map (annotated_tree (node_of decl_tree)) l.decls))
