-- SPDX-License-Identifier: Apache-2.0
use Rattle.std.proofs.Common.{◌≡◌, fold}
use Rattle.std.specs.BTreeSet.{insert_key}
use Rattle.std.specs.Vec.Iter.{into_iter_items}
use Rattle.cedar_resolved.proofs.sets.set_of.Given as goal

-- the set so far, with the rest put in, is the set of all
abbrev pub invariant-loop-item : goal.invariant-loop-item
invariant-loop-item g l =
    fold (insert_key g.K.Ord.cmp) l.set (into_iter_items l.item-iterator) ≡ fold (insert_key g.K.Ord.cmp) l.initial.set (into_iter_items l.initial.item-iterator)
