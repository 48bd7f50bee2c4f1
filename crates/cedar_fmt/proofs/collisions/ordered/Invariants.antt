-- SPDX-License-Identifier: Apache-2.0
use Rattle.std.proofs.Common.{◌≡◌, fold}
use Rattle.std.specs.BTreeSet.{insert_key}
use Rattle.std.specs.Vec.Iter.{into_iter_items}
use Rattle.cedar_names.specs.Names.{internal_cmp}
use Rattle.cedar_fmt.proofs.collisions.ordered.Given as goal

-- the set so far, with the rest put in, is the set of all
abbrev pub invariant-loop-name : goal.invariant-loop-name
invariant-loop-name l =
    fold (insert_key internal_cmp) l.set (into_iter_items l.name-iterator) ≡ fold (insert_key internal_cmp) l.initial.set (into_iter_items l.initial.name-iterator)
