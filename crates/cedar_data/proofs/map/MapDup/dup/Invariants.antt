-- SPDX-License-Identifier: Apache-2.0
use Rattle.std.proofs.Common.{◌≡◌, ◌++◌}
use Rattle.cedar_data.proofs.map.MapDup.dup.Given as goal

-- the copies so far are the first entries
abbrev pub invariant-loop-key : goal.invariant-loop-key
invariant-loop-key g l = l.copies.items ++ l.key-iterator ≡ l.self
