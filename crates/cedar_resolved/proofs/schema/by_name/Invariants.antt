-- SPDX-License-Identifier: Apache-2.0
use Rattle.std.proofs.Common.{◌≡◌, ◌++◌, map}
use Rattle.std.specs.Vec.Iter.{into_iter_items}
use Rattle.cedar_resolved.proofs.schema.by_name.Given as goal

-- the pairs so far, with those of the rest, are all
abbrev pub invariant-loop-node : goal.invariant-loop-node
invariant-loop-node g l = l.pairs.items ++ map (λ node. (g.V.TcNode.key node, node)) (into_iter_items l.node-iterator) ≡ map (λ node. (g.V.TcNode.key node, node)) (into_iter_items l.initial.node-iterator)
