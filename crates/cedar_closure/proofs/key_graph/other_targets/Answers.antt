-- SPDX-License-Identifier: Apache-2.0
use Rattle.std.proofs.Common.{refl}
use Rattle.cedar_closure.proofs.Naming.{NamesSome-next, NamesSome-end}
use Rattle.cedar_closure.proofs.key_graph.other_targets.Goals as goal

pub loop-node-preserved : goal.loop-node-preserved
loop-node-preserved g c = NamesSome-next c.loop-node.invariant c.in-Some.ensures.steps refl c.in_ok-add_other_targets.ensures.adds c.add_other_targets.ensures.ordered

pub returns : goal.returns
returns g c = let both = NamesSome-end c.loop-node.invariant c.in-None.ensures.steps.0 in record { beside = both.0; edges_ordered = both.1 }
