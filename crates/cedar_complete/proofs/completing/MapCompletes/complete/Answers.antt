-- SPDX-License-Identifier: Apache-2.0
use Rattle.std.proofs.Common.{refl}
use Rattle.cedar_complete.proofs.Contents.{Contents-next, Contents-sorted}
use Rattle.cedar_complete.proofs.completing.MapCompletes.complete.Goals as goal

pub push_last-requires : goal.push_last-requires
push_last-requires g c = Contents-sorted g.K.Ord.cmp c.loop-key.invariant c.in-Some.ensures.steps refl c.into_entries-key-items.ensures.ordered

pub loop-key-preserved : goal.loop-key-preserved
loop-key-preserved g c = Contents-next c.loop-key.invariant c.in-Some.ensures.steps refl c.in_ok-value.ensures c.in_ok-push_last.ensures.ok
