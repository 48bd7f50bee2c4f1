-- SPDX-License-Identifier: Apache-2.0
use Rattle.std.proofs.Common.{◌≡◌, [], All}
use Rattle.cedar_closure.proofs.closure.have_no_edges.Given as goal

-- where the nodes to come have no edges, no node has one
abbrev pub invariant-loop-node : goal.invariant-loop-node
invariant-loop-node g l = All (λ entry. g.V.TcNode.edges entry.1 ≡ []) l.node-iterator → All (λ entry. g.V.TcNode.edges entry.1 ≡ []) l.nodes
