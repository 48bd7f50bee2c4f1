-- SPDX-License-Identifier: Apache-2.0
use Rattle.std.specs.Cmp.Lexicographic.{slice_cmp}
use Rattle.std.specs.Ordering.{nat_cmp}
use Rattle.cedar_closure.proofs.of_data.Build.{Builds}
use Rattle.cedar_closure.specs.of_data.Maps.{map_values}
use Rattle.cedar_types.specs.Types.{required}
use Rattle.cedar_types.proofs.ty.Attributes.with_required_attributes.Given as goal

-- the map is that of the pairs so far
abbrev pub invariant-loop-name : goal.invariant-loop-name
invariant-loop-name l = Builds (slice_cmp nat_cmp) (map_values required l.yielded) l.map
