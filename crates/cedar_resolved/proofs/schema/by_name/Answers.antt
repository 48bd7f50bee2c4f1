-- SPDX-License-Identifier: Apache-2.0
use Rattle.std.proofs.Common.{arith, ◌≡◌, ◌++◌, map, IfOk, subst}
use Rattle.std.proofs.lemmas.Grind.{common_steps}
use Rattle.cedar_data.specs.Maps.{map_of}
use Rattle.cedar_resolved.proofs.schema.by_name.Goals as goal

pub returns : goal.returns
returns g c =
    let all : c.loop-node.pairs.items ≡ map {A = g.row.V.Denot} {B = g.row.K.Denot × g.row.V.Denot} (λ node. (g.V.TcNode.key node, node)) c.args.nodes.items = grind (arith, common_steps) in
    subst (λ pairs. IfOk c.from_pairs.result (λ made. made ≡ map_of g.K.Ord.cmp pairs)) all c.from_pairs.ensures.made
