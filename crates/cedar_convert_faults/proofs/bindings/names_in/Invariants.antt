-- SPDX-License-Identifier: Apache-2.0
use Rattle.std.proofs.Common.{◌≡◌, ◌++◌, map}
use Rattle.std.specs.Slice.Iter.{iter_rest}
use Rattle.cedar_tree.specs.Meanings.{decl_tree, annotated_tree, node_of}
use Rattle.cedar_convert_faults.specs.Bindings.{names_of, names_in}
use Rattle.cedar_convert_faults.proofs.bindings.names_in.Given as goal

-- the names so far, with those of the rest, are all
abbrev pub invariant-loop-decl : goal.invariant-loop-decl
invariant-loop-decl l =
    l.names ++ names_in (names_of l.kind) (map (annotated_tree (node_of decl_tree)) (iter_rest l.decl-iterator)) ≡ names_in (names_of l.kind) (map (annotated_tree (node_of decl_tree)) l.decls)
