-- SPDX-License-Identifier: Apache-2.0
use Rattle.std.proofs.Common.{◌≡◌, ◌++◌}
use Rattle.std.specs.Map.{keys_of}
use Rattle.cedar_namespace_definitions.proofs.sets.keys_in_order.Given as goal

-- the keys so far, with those that are left, are all
abbrev pub invariant-loop-key : goal.invariant-loop-key
invariant-loop-key g l = l.keys.items ++ keys_of l.key-iterator ≡ keys_of l.fn.map
