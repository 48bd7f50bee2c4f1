-- SPDX-License-Identifier: Apache-2.0
use Rattle.cedar_outlines.specs.of_declared.Held.{names_of}
use Rattle.cedar_hierarchy.specs.Nodes.{IsActionNode}
use Rattle.cedar_hierarchy.proofs.Aligned.{Aligned}
use Rattle.cedar_hierarchy.proofs.actions.action_nodes.Given as goal

-- the first outlines have their nodes
abbrev pub invariant-loop-uid : goal.invariant-loop-uid
invariant-loop-uid l = Aligned (IsActionNode (names_of l.all_defs) l.children l.uses) l.fn.outlines l.uid-iterator l.nodes
