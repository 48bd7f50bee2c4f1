-- SPDX-License-Identifier: Apache-2.0
use Rattle.cedar_fmt.proofs.Gathering.{Gathers-next}
use Rattle.cedar_fmt.proofs.collisions.all_shared.Goals as goal

pub loop-path-preserved : goal.loop-path-preserved
loop-path-preserved g c = Gathers-next c.loop-path.invariant c.in-Some.ensures.steps c.in_ok-add_under.ensures
