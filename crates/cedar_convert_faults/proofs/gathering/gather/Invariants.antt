-- SPDX-License-Identifier: Apache-2.0
use Rattle.std.proofs.Common.{◌≡◌, ◌++◌, map}
use Rattle.std.specs.Vec.Iter.{into_iter_items}
use Rattle.cedar_tree.specs.Meanings.{schema_tree, annotated_tree, node_of, decl_tree}
use Rattle.cedar_convert_faults.specs.Gathering.{named_namespaces, loose_declarations, gathered_tree}
use Rattle.cedar_convert_faults.proofs.gathering.gather.Given as goal

-- what is gathered so far, with what is left, is all
abbrev pub invariant-loop-namespace : goal.invariant-loop-namespace
invariant-loop-namespace l = record {
  named : map gathered_tree l.all ++ named_namespaces (schema_tree (into_iter_items l.namespace-iterator)) ≡ named_namespaces (schema_tree l.fn.schema);
  loose : map (annotated_tree (node_of decl_tree)) l.loose ++ loose_declarations (schema_tree (into_iter_items l.namespace-iterator)) ≡ loose_declarations (schema_tree l.fn.schema);
}
