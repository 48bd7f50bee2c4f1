-- SPDX-License-Identifier: Apache-2.0
use Rattle.std.proofs.Common.{◌≡◌, ◌++◌, map, flat_map}
use Rattle.std.specs.Slice.Iter.{iter_rest}
use Rattle.cedar_convert_faults.specs.Bindings.{binding_of}
use Rattle.cedar_convert_faults.specs.Gathering.{gathered_tree}
use Rattle.cedar_convert_faults.proofs.bindings.binding_faults.Given as goal

-- the faults so far, with those of the rest, are all
abbrev pub invariant-loop-gathered : goal.invariant-loop-gathered
invariant-loop-gathered l = l.faults.items ++ flat_map binding_of (map gathered_tree (iter_rest l.gathered-iterator)) ≡ flat_map binding_of (map gathered_tree l.all)
