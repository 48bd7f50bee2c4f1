-- SPDX-License-Identifier: Apache-2.0
use Rattle.std.proofs.Common.{subst}
use Rattle.cedar_data.specs.Maps.{IsSortedMap}
use Rattle.cedar_resolved.proofs.EntitiesMade.{ancestors_ascend, entity_made}
use Rattle.cedar_resolved.proofs.schema.ValidatorSchema.action_entities.Goals as goal
use Rattle.cedar_resolved.specs.Schemas.{uid_cmp}

pub action_entity-requires : goal.action_entity-requires
action_entity-requires c =
    ancestors_ascend c.args.self.now c.loop-name.name-iterator c.next.new.self c.in-Some.name.now c.in-Some.action.now
    c.loop-name.noted.entries c.loop-name.entities.items c.take_ancestors-ancestors.result
    c.in-Some.ensures.steps c.loop-name.invariant c.take_ancestors-ancestors.ensures.taken
    (subst (λ es. IsSortedMap uid_cmp es) c.by_action.ensures c.iter-name-items.ensures.ordered)

pub loop-name-preserved : goal.loop-name-preserved
loop-name-preserved c =
    entity_made c.args.self.now c.loop-name.name-iterator c.next.new.self c.in-Some.name.now c.in-Some.action.now
    c.loop-name.noted.entries c.loop-name.entities.items c.take_ancestors-ancestors.result
    c.in-Some.ensures.steps c.loop-name.invariant c.take_ancestors-ancestors.ensures.taken
    c.take_ancestors-ancestors.new.noted.entries c.in_ok-entity.entity c.push.new.self.items
    c.take_ancestors-ancestors.ensures.others c.in_ok-entity.ensures c.in_ok-push.ensures.items
