-- SPDX-License-Identifier: Apache-2.0
use Rattle.std.proofs.Common.{◌++◌}
use Rattle.cedar_closure.specs.Places.{PutsInOrder}
use Rattle.cedar_closure.proofs.key_graph.in_order.Given as goal

-- the keys so far and those that are left are all, in order
abbrev pub invariant-loop-key : goal.invariant-loop-key
invariant-loop-key g l = PutsInOrder g.K.Ord.cmp l.fn.keys.items (l.sorted.items ++ l.key-iterator)
