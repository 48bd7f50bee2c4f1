-- SPDX-License-Identifier: Apache-2.0
use Rattle.cedar_data.proofs.Build.{Builds}
use Rattle.cedar_data.proofs.map.Map.from_pairs.Given as goal

-- the map is that of the pairs so far
abbrev pub invariant-loop-key : goal.invariant-loop-key
invariant-loop-key g l = Builds g.K.Ord.cmp l.yielded l.map
