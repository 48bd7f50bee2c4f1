-- SPDX-License-Identifier: Apache-2.0
use Rattle.cedar_convert_fragment.specs.Views.{action_seen}
use Rattle.cedar_reread.specs.EachType.{EachOfAction}
use Rattle.cedar_in_order.specs.InOrder.{TypeInOrder}
use Rattle.cedar_in_order.proofs.DeclarationsSeen.{DeclarationsSoFar}
use Rattle.cedar_in_order.proofs.declarations.actions_in_order.Given as goal

-- the actions so far stand in order
abbrev pub invariant-loop-action : goal.invariant-loop-action
invariant-loop-action l = DeclarationsSoFar (EachOfAction TypeInOrder) (λ id. id) action_seen l.actions l.action-iterator
