-- SPDX-License-Identifier: Apache-2.0
use Rattle.cedar_hierarchy.specs.Nodes.{IsEntityNode}
use Rattle.cedar_hierarchy.proofs.Aligned.{Aligned}
use Rattle.cedar_hierarchy.proofs.entity_types.entity_nodes.Given as goal

-- the first outlines have their nodes
abbrev pub invariant-loop-name : goal.invariant-loop-name
invariant-loop-name l = Aligned (IsEntityNode l.children l.uses) l.fn.outlines l.name-iterator l.nodes
