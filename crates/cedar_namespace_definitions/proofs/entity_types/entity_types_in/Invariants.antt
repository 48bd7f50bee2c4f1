-- SPDX-License-Identifier: Apache-2.0
use Rattle.std.specs.Option.{option_copied}
use Rattle.cedar_namespace_definitions.specs.Faults.{entity_faults}
use Rattle.cedar_namespace_definitions.proofs.Faultless.{Faultless}
use Rattle.cedar_namespace_definitions.proofs.Loops.{EntityTypes}
use Rattle.cedar_namespace_definitions.proofs.entity_types.entity_types_in.Given as goal

-- the entity types so far have no faults, and are defined
abbrev pub invariant-loop-id : goal.invariant-loop-id
invariant-loop-id l =
    Faultless (entity_faults (option_copied l.fn.step.namespace)) l.fn.entity_types l.id-iterator
    × EntityTypes (option_copied l.fn.step.namespace) l.fn.entity_types l.id-iterator l.defs l.locs
