-- SPDX-License-Identifier: Apache-2.0
use Rattle.cedar_tables.proofs.Parted.{PartsActions-next, PartsActions-sorted}
use Rattle.cedar_tables.proofs.splits.ActionSplits.split.Goals as goal

pub push-requires : goal.push-requires
push-requires c = PartsActions-sorted c.loop-uid.invariant c.in-Some.ensures.steps c.into_entries-uid-items.ensures.ordered

pub loop-uid-preserved : goal.loop-uid-preserved
loop-uid-preserved c = PartsActions-next c.loop-uid.invariant c.in-Some.ensures.steps c.in_ok-push.ensures.outlines c.in_ok-push.ensures.contexts
