-- SPDX-License-Identifier: Apache-2.0
use Rattle.cedar_tables.proofs.Parted.{PartsEntities-next, PartsEntities-sorted}
use Rattle.cedar_tables.proofs.splits.EntitySplits.split.Goals as goal

pub push-requires : goal.push-requires
push-requires c = PartsEntities-sorted c.loop-name.invariant c.in-Some.ensures.steps c.into_entries-name-items.ensures.ordered

pub loop-name-preserved : goal.loop-name-preserved
loop-name-preserved c =
    PartsEntities-next c.loop-name.invariant c.in-Some.ensures.steps c.in_ok-push.ensures.outlines c.in_ok-push.ensures.shapes c.in_ok-push.ensures.tags
