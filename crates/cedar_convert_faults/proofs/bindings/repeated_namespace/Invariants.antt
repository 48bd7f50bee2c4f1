-- SPDX-License-Identifier: Apache-2.0
use Rattle.std.proofs.Common.{◌≡◌, ◌++◌, map, flat_map}
use Rattle.std.specs.Slice.Iter.{iter_rest}
use Rattle.cedar_convert_faults.specs.Bindings.{full_names}
use Rattle.cedar_convert_faults.specs.Gathering.{gathered_tree}
use Rattle.cedar_convert_faults.proofs.bindings.repeated_namespace.Given as goal

-- the full names so far, with those of the rest, are all
abbrev pub invariant-loop-gathered : goal.invariant-loop-gathered
invariant-loop-gathered l =
    l.names ++ flat_map (λ g. full_names g.name) (map gathered_tree (iter_rest l.gathered-iterator)) ≡ flat_map (λ g. full_names g.name) (map gathered_tree l.all)
