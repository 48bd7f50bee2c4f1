-- SPDX-License-Identifier: Apache-2.0
use Rattle.std.proofs.Common.{◌≡◌}
use Rattle.std.specs.Map.{keys_of}
use Rattle.cedar_data.proofs.set.Set.from_sorted.Given as goal

-- the entries are of the keys so far
abbrev pub invariant-loop-key : goal.invariant-loop-key
invariant-loop-key g l = keys_of l.entries.items ≡ l.yielded
