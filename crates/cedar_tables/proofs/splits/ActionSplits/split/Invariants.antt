-- SPDX-License-Identifier: Apache-2.0
use Rattle.cedar_tables.proofs.Parted.{PartsActions}
use Rattle.cedar_tables.proofs.splits.ActionSplits.split.Given as goal

-- those that are passed are parted
abbrev pub invariant-loop-uid : goal.invariant-loop-uid
invariant-loop-uid l = PartsActions l.fn.actions l.uid-iterator l.splits.outlines l.splits.contexts.items
