-- SPDX-License-Identifier: Apache-2.0
use Rattle.std.proofs.Common.{◌≡◌, map, take}
use Rattle.cedar_closure.specs.Places.{row_at}
use Rattle.cedar_closure.proofs.key_graph.rows_of_nodes.Given as goal

-- the rows are those of the keys so far
abbrev pub invariant-loop-key : goal.invariant-loop-key
invariant-loop-key g l = l.rows.items ≡ map (row_at g.K.Ord.cmp g.V.TcNode.edges l.nodes l.keys) (take l.key-index l.keys)
