-- SPDX-License-Identifier: Apache-2.0
use Rattle.std.proofs.Common.{◌∙◌}
use Rattle.cedar_names.specs.Identifiers.{unreserved_word}
use Rattle.cedar_convert_fragment.specs.Views.{entity_seen}
use Rattle.cedar_reread.specs.EachType.{EachOfEntity}
use Rattle.cedar_in_order.specs.InOrder.{TypeInOrder}
use Rattle.cedar_in_order.proofs.DeclarationsSeen.{Declarations-start}
use Rattle.cedar_in_order.proofs.declarations.entity_types_in_order.Goals as goal

pub loop-entity-init : goal.loop-entity-init
loop-entity-init c =
    Declarations-start (EachOfEntity TypeInOrder) unreserved_word entity_seen c.args.entity_types.now c.into_iter-entity-iterator.result (c.into_iter-entity-iterator.ensures.into_iter_gives ∙ c.iter-entity-items.ensures.rest) c.iter-entity-items.ensures.ordered
