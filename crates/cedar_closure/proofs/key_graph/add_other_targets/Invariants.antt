-- SPDX-License-Identifier: Apache-2.0
use Rattle.std.specs.Map.{keys_of}
use Rattle.cedar_closure.proofs.Naming.{AddsSome}
use Rattle.cedar_closure.proofs.key_graph.add_other_targets.Given as goal

-- the edges so far were put in
abbrev pub invariant-loop-key : goal.invariant-loop-key
invariant-loop-key g l = AddsSome g.K.Ord.cmp (keys_of l.nodes) (g.V.TcNode.edges l.node) l.key-iterator l.fn.others l.others
