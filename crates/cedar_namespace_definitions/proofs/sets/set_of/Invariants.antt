-- SPDX-License-Identifier: Apache-2.0
use Rattle.std.proofs.Common.{◌≡◌, fold}
use Rattle.std.specs.BTreeSet.{insert_key}
use Rattle.std.specs.Vec.Iter.{into_iter_items}
use Rattle.cedar_data.specs.Sets.{set_of}
use Rattle.cedar_namespace_definitions.proofs.sets.set_of.Given as goal

-- the set so far, with the items that are left, is that of all
abbrev pub invariant-loop-item : goal.invariant-loop-item
invariant-loop-item g l = fold (insert_key g.K.Ord.cmp) l.set (into_iter_items l.item-iterator) ≡ set_of g.K.Ord.cmp l.fn.items
