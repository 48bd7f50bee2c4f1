-- SPDX-License-Identifier: Apache-2.0
use Rattle.std.proofs.Common.{◌≡◌, ◌++◌}
use Rattle.cedar_closure.proofs.closure.map_of_btree.Given as goal

-- the entries so far, with those that are left, are all
abbrev pub invariant-loop-key : goal.invariant-loop-key
invariant-loop-key g l = l.map ++ l.key-iterator ≡ l.fn.entries.entries
