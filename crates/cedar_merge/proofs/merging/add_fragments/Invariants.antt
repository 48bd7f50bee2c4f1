-- SPDX-License-Identifier: Apache-2.0
use Rattle.std.specs.Vec.Iter.{into_iter_items}
use Rattle.cedar_merge.proofs.Holding.{Gathers}
use Rattle.cedar_merge.proofs.merging.add_fragments.Given as goal

-- the fragments so far are added
abbrev pub invariant-loop-fragment : goal.invariant-loop-fragment
invariant-loop-fragment l = Gathers l.fn.fragments.items (into_iter_items l.fragment-iterator) l.initial.all l.fn.found l.all l.now
