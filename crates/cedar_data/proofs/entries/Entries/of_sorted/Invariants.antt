-- SPDX-License-Identifier: Apache-2.0
use Rattle.std.proofs.Common.{◌≡◌, ◌++◌}
use Rattle.std.specs.Vec.Iter.{into_iter_items}
use Rattle.cedar_data.proofs.entries.Entries.of_sorted.Given as goal

-- the entries so far, and those to come
abbrev pub invariant-loop-key : goal.invariant-loop-key
invariant-loop-key g l = l.all ++ into_iter_items l.key-iterator ≡ l.fn.entries.items
