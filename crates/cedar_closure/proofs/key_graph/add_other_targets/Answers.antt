-- SPDX-License-Identifier: Apache-2.0
use Rattle.std.proofs.Common.{refl}
use Rattle.cedar_closure.proofs.Naming.{AddsSome-next}
use Rattle.cedar_closure.proofs.key_graph.add_other_targets.Goals as goal

pub loop-key-preserved : goal.loop-key-preserved
loop-key-preserved g c = AddsSome-next c.loop-key.invariant c.in-Some.ensures.steps refl c.in_ok-add_other_target.ensures
