-- SPDX-License-Identifier: Apache-2.0
use Rattle.std.proofs.Common.{◌≡◌, ◌≤◌, ◌+◌, ◌-◌, ◌^◌, length}
use Rattle.cedar_json_counts.specs.Counts.{capped, colons, colons_from}
use Rattle.cedar_json_counts.specs.declared.counting.Within.TheVariants as within
use Rattle.cedar_json_counts.proofs.counting.count_colons.Given as goal

-- with what is left, the count is that of the whole
abbrev pub invariant-loop-byte : goal.invariant-loop-byte
invariant-loop-byte l = (capped (l.count + colons_from within.Plain l.rest) ≡ capped (colons l.text)) × (l.count ≤ 2 ^ 64 - 1)

abbrev pub decreases-loop-byte : goal.decreases-loop-byte
decreases-loop-byte l = length l.rest
