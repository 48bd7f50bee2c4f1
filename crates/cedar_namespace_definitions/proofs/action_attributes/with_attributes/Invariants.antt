-- SPDX-License-Identifier: Apache-2.0
use Rattle.std.proofs.Common.{◌≡◌, ◌++◌}
use Rattle.cedar_namespace_definitions.specs.Faults.{with_attributes}
use Rattle.cedar_namespace_definitions.proofs.action_attributes.with_attributes.Given as goal

-- the ids so far, with those of the actions that are left, are all
abbrev pub invariant-loop-id : goal.invariant-loop-id
invariant-loop-id l = l.ids ++ with_attributes l.id-iterator ≡ with_attributes l.fn.actions
