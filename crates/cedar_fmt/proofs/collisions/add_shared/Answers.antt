-- SPDX-License-Identifier: Apache-2.0
use Rattle.cedar_fmt.proofs.Gathering.{Gathers-next}
use Rattle.cedar_fmt.proofs.collisions.add_shared.Goals as goal

pub loop-id-preserved : goal.loop-id-preserved
loop-id-preserved g c = Gathers-next c.loop-id.invariant c.in-Some.ensures.steps c.in_ok-add_if_shared.ensures
