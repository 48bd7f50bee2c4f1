-- SPDX-License-Identifier: Apache-2.0
use Rattle.std.proofs.Common.{◌≡◌, ◌++◌, map}
use Rattle.std.specs.Vec.Iter.{into_iter_items}
use Rattle.cedar_tree.specs.Meanings.{annotated_tree, decl_tree, node_of}
use Rattle.cedar_convert_declarations.specs.of_convert_fragment.Declares.{actions, commons, entities, given}
use Rattle.cedar_convert_declarations.specs.of_convert_fragment.Views.{actions_seen, commons_seen, entities_seen}
use Rattle.cedar_convert_namespaces.proofs.namespaces.definition_declared.Given as goal

-- what was declared so far, with what the rest declares, is all
abbrev pub invariant-loop-decl : goal.invariant-loop-decl
invariant-loop-decl l = record {
  common_types : commons_seen l.common_types.items ++ given commons (map (annotated_tree (node_of decl_tree)) (into_iter_items l.decl-iterator)) ≡ given commons (map (annotated_tree (node_of decl_tree)) l.fn.decls);
  entity_types : entities_seen l.entity_types.items ++ given entities (map (annotated_tree (node_of decl_tree)) (into_iter_items l.decl-iterator)) ≡ given entities (map (annotated_tree (node_of decl_tree)) l.fn.decls);
  actions : actions_seen l.actions.items ++ given actions (map (annotated_tree (node_of decl_tree)) (into_iter_items l.decl-iterator)) ≡ given actions (map (annotated_tree (node_of decl_tree)) l.fn.decls);
}
