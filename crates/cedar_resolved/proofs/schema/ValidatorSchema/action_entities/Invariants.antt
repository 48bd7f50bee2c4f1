-- SPDX-License-Identifier: Apache-2.0
use Rattle.cedar_resolved.proofs.EntitiesMade.{Entities}
use Rattle.cedar_resolved.proofs.schema.ValidatorSchema.action_entities.Given as goal

-- the entities so far, with those of the other actions, are all
abbrev pub invariant-loop-name : goal.invariant-loop-name
invariant-loop-name l = Entities l.self l.name-iterator l.noted.entries l.entities.items
