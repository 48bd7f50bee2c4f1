-- SPDX-License-Identifier: Apache-2.0
use Rattle.std.proofs.Common.{◌∙◌}
use Rattle.cedar_convert_fragment.specs.Views.{common_seen, common_word}
use Rattle.cedar_in_order.specs.InOrder.{TypeInOrder}
use Rattle.cedar_in_order.proofs.DeclarationsSeen.{Declarations-start}
use Rattle.cedar_in_order.proofs.declarations.common_types_in_order.Goals as goal

pub loop-common-init : goal.loop-common-init
loop-common-init c =
    Declarations-start TypeInOrder common_word common_seen c.args.common_types.now c.into_iter-common-iterator.result (c.into_iter-common-iterator.ensures.into_iter_gives ∙ c.iter-common-items.ensures.rest) c.iter-common-items.ensures.ordered
