-- SPDX-License-Identifier: Apache-2.0
use Rattle.std.proofs.Common.{◌≡◌, ◌++◌}
use Rattle.cedar_closure.proofs.key_graph.push_copies.Given as goal

-- with copies of the keys that are left, all are there
abbrev pub invariant-loop-key : goal.invariant-loop-key
invariant-loop-key g l = l.keys.items ++ l.key-iterator ≡ l.initial.keys.items ++ l.set
