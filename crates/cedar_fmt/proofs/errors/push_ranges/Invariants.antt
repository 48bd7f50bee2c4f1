-- SPDX-License-Identifier: Apache-2.0
use Rattle.std.proofs.Common.{◌≡◌, ◌++◌, take}
use Rattle.std.specs.List.{flat_map}
use Rattle.cedar_names.specs.Components.{loc_of}
use Rattle.cedar_places.specs.Places.{range}
use Rattle.cedar_fmt.proofs.errors.push_ranges.Given as goal

-- the ranges of the names so far stand behind the others
abbrev pub invariant-loop-name : goal.invariant-loop-name
invariant-loop-name l =
    l.spans.items ≡ l.initial.spans.items ++ flat_map (λ n. range (loc_of n)) (take l.name-index l.names)
