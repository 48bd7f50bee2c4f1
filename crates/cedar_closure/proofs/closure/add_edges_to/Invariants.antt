-- SPDX-License-Identifier: Apache-2.0
use Rattle.std.proofs.Common.{◌≡◌, take}
use Rattle.std.specs.List.Sorted.{IsStrictlySortedBy}
use Rattle.cedar_closure.proofs.Links.{Linked}
use Rattle.cedar_closure.proofs.closure.add_edges_to.Given as goal

-- edges lead to the keys whose positions were passed
abbrev pub invariant-loop-at : goal.invariant-loop-at
invariant-loop-at g l = Linked g.K.Ord.cmp l.keys (take l.at-index l.found) (g.V.TcNode.edges l.fn.node) (g.V.TcNode.edges l.node)
    × IsStrictlySortedBy g.K.Ord.cmp (g.V.TcNode.edges l.node)
    × (g.V.TcNode.key l.node ≡ g.V.TcNode.key l.fn.node)
    × (g.V.TcNode.rest l.node ≡ g.V.TcNode.rest l.fn.node)
