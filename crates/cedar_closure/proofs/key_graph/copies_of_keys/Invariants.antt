-- SPDX-License-Identifier: Apache-2.0
use Rattle.std.proofs.Common.{◌≡◌, ◌++◌}
use Rattle.std.specs.Map.{keys_of}
use Rattle.cedar_closure.proofs.key_graph.copies_of_keys.Given as goal

-- the copies so far are the first keys
abbrev pub invariant-loop-key : goal.invariant-loop-key
invariant-loop-key g l = l.keys.items ++ keys_of l.key-iterator ≡ keys_of l.nodes
