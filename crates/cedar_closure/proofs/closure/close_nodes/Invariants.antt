-- SPDX-License-Identifier: Apache-2.0
use Rattle.cedar_closure.proofs.Closings.{Closing}
use Rattle.cedar_closure.proofs.closure.close_nodes.Given as goal

-- the nodes so far were closed
abbrev pub invariant-loop-key : goal.invariant-loop-key
invariant-loop-key g l = Closing g.K.Ord.cmp g.V.TcNode.key g.V.TcNode.edges g.V.TcNode.rest l.fn.nodes l.keys l.enforce_dag l.key-iterator l.marks l.closed
