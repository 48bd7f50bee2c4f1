-- SPDX-License-Identifier: Apache-2.0
use Rattle.cedar_closure.proofs.Naming.{NamesSome}
use Rattle.cedar_closure.proofs.key_graph.other_targets.Given as goal

-- the edges of the nodes so far were put in
abbrev pub invariant-loop-node : goal.invariant-loop-node
invariant-loop-node g l = NamesSome g.K.Ord.cmp g.V.TcNode.edges l.nodes l.node-iterator l.others
