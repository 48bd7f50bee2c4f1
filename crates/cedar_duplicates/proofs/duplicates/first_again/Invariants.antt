-- SPDX-License-Identifier: Apache-2.0
use Rattle.std.specs.Vec.Iter.{into_iter_items}
use Rattle.cedar_duplicates.proofs.Seen.{Sees}
use Rattle.cedar_duplicates.proofs.duplicates.first_again.Given as goal

-- none so far is equal to one before it
abbrev pub invariant-loop-item : goal.invariant-loop-item
invariant-loop-item g l = Sees g.K.Ord.cmp l.fn.items (into_iter_items l.item-iterator) l.seen
