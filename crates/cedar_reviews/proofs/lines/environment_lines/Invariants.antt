-- SPDX-License-Identifier: Apache-2.0
use Rattle.std.proofs.Common.{drop}
use Rattle.std.specs.String.{string_bytes}
use Rattle.cedar_reviews.proofs.LineLoops.{WritesLines}
use Rattle.cedar_reviews.proofs.lines.environment_lines.Given as goal

-- the lines so far are written
abbrev pub invariant-loop-number : goal.invariant-loop-number
invariant-loop-number l = WritesLines l.numbers (drop l.number-index l.numbers) (string_bytes l.lines)
