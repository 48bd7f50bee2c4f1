-- SPDX-License-Identifier: Apache-2.0
use Rattle.cedar_fmt.specs.Collisions.{shared_name}
use Rattle.cedar_fmt.proofs.Gathering.{Gathers}
use Rattle.cedar_fmt.proofs.collisions.add_shared.Given as goal

-- the names of the entity types so far
abbrev pub invariant-loop-id : goal.invariant-loop-id
invariant-loop-id g l = Gathers (λ e. shared_name l.path l.definition e.0) l.definition.entity_types l.id-iterator l.initial.names l.names
