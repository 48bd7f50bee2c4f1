-- SPDX-License-Identifier: Apache-2.0
use Rattle.std.proofs.Common.{◌≡◌, ◌≤◌, length}
use Rattle.cedar_json_counts.specs.Counts.{colons_from}
use Rattle.cedar_json_counts.specs.declared.counting.Within.TheVariants as within
use Rattle.cedar_json_counts.proofs.counting.behind_literal.Given as goal

-- what is left has the colons of the whole
abbrev pub invariant-loop-byte : goal.invariant-loop-byte
invariant-loop-byte l = (colons_from within.Literal l.rest ≡ colons_from within.Literal l.bytes) × (length l.rest ≤ length l.bytes)

abbrev pub decreases-loop-byte : goal.decreases-loop-byte
decreases-loop-byte l = length l.rest
