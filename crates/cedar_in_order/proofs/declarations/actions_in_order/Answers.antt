-- SPDX-License-Identifier: Apache-2.0
use Rattle.std.proofs.Common.{◌∙◌}
use Rattle.cedar_convert_fragment.specs.Views.{action_seen}
use Rattle.cedar_reread.specs.EachType.{EachOfAction}
use Rattle.cedar_in_order.specs.InOrder.{TypeInOrder}
use Rattle.cedar_in_order.proofs.DeclarationsSeen.{Declarations-start}
use Rattle.cedar_in_order.proofs.declarations.actions_in_order.Goals as goal

pub loop-action-init : goal.loop-action-init
loop-action-init c =
    Declarations-start (EachOfAction TypeInOrder) (λ id. id) action_seen c.args.actions.now c.into_iter-action-iterator.result (c.into_iter-action-iterator.ensures.into_iter_gives ∙ c.iter-action-items.ensures.rest) c.iter-action-items.ensures.ordered
