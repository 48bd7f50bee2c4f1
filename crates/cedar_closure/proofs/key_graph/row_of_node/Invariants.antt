-- SPDX-License-Identifier: Apache-2.0
use Rattle.cedar_closure.proofs.Naming.{FiltersSome}
use Rattle.cedar_closure.specs.Places.{place}
use Rattle.cedar_closure.proofs.key_graph.row_of_node.Given as goal

-- the row has the places of the edges so far
abbrev pub invariant-loop-edge : goal.invariant-loop-edge
invariant-loop-edge g l = FiltersSome (place g.K.Ord.cmp l.keys) (g.V.TcNode.edges l.node) l.edge-iterator l.row
