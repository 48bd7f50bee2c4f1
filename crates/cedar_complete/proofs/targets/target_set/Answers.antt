-- SPDX-License-Identifier: Apache-2.0
use Rattle.cedar_complete.proofs.Contents.{MakesSet-next}
use Rattle.cedar_complete.proofs.targets.target_set.Goals as goal

pub loop-key-preserved : goal.loop-key-preserved
loop-key-preserved g c = MakesSet-next g.F.Ord.cmp _ c.requires.in_order c.loop-key.invariant c.in-Some.ensures.steps c.in_ok-target.ensures c.in_ok-insert.ensures.ok
