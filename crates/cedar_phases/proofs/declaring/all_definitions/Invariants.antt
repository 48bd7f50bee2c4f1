-- SPDX-License-Identifier: Apache-2.0
use Rattle.std.proofs.Common.{[]}
use Rattle.std.specs.Vec.Iter.{into_iter_items}
use Rattle.cedar_declared.specs.of_definitions.Structures.{definitions_of}
use Rattle.cedar_phases.proofs.declaring.all_definitions.Given as goal
use Rattle.cedar_hierarchy.proofs.of_outlines.Appended.{Appends}

-- the definitions so far are those of the fragments so far
abbrev pub invariant-loop-fragment : goal.invariant-loop-fragment
invariant-loop-fragment l = Appends definitions_of [] l.fn.fragments.items (into_iter_items l.fragment-iterator) l.all.items
