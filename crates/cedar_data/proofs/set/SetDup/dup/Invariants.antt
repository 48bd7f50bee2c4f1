-- SPDX-License-Identifier: Apache-2.0
use Rattle.std.proofs.Common.{◌≡◌, ◌++◌}
use Rattle.std.specs.Map.{keys_of}
use Rattle.cedar_data.proofs.set.SetDup.dup.Given as goal

-- the copies so far are of the first keys
abbrev pub invariant-loop-key : goal.invariant-loop-key
invariant-loop-key g l = keys_of l.copies.items ++ l.key-iterator ≡ l.self
