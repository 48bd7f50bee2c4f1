-- SPDX-License-Identifier: Apache-2.0
use Rattle.std.proofs.Common.{◌≡◌, fold}
use Rattle.std.specs.BTreeSet.{insert_key}
use Rattle.std.specs.Map.{keys_of}
use Rattle.std.specs.Vec.Iter.{into_iter_items}
use Rattle.cedar_data.specs.Sets.{set_of}
use Rattle.cedar_namespace_definitions.proofs.sets.distinct.Given as goal

-- the keys so far, with the items that are left, make the set of all
abbrev pub invariant-loop-item : goal.invariant-loop-item
invariant-loop-item g l = fold (insert_key g.K.Ord.cmp) (keys_of l.kept) (into_iter_items l.item-iterator) ≡ set_of g.K.Ord.cmp l.fn.items
