-- SPDX-License-Identifier: Apache-2.0
use Rattle.std.proofs.Common.{◌≡◌}
use Rattle.cedar_namespace_definitions.specs.Faults.{action_types}
use Rattle.cedar_namespace_definitions.proofs.namespaces.check_entity_types.Given as goal

-- the entity types so far have other names
abbrev pub invariant-loop-id : goal.invariant-loop-id
invariant-loop-id l = action_types l.id-iterator ≡ action_types l.fn.entity_types
