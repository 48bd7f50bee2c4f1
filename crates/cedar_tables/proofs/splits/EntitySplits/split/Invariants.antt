-- SPDX-License-Identifier: Apache-2.0
use Rattle.cedar_tables.proofs.Parted.{PartsEntities}
use Rattle.cedar_tables.proofs.splits.EntitySplits.split.Given as goal

-- those that are passed are parted
abbrev pub invariant-loop-name : goal.invariant-loop-name
invariant-loop-name l = PartsEntities l.fn.entities l.name-iterator l.splits.outlines l.splits.shapes.items l.splits.tags.items
