-- SPDX-License-Identifier: Apache-2.0
use Rattle.cedar_convert_fragment.specs.Views.{common_seen, common_word}
use Rattle.cedar_in_order.specs.InOrder.{TypeInOrder}
use Rattle.cedar_in_order.proofs.DeclarationsSeen.{DeclarationsSoFar}
use Rattle.cedar_in_order.proofs.declarations.common_types_in_order.Given as goal

-- the common types so far stand in order
abbrev pub invariant-loop-common : goal.invariant-loop-common
invariant-loop-common l = DeclarationsSoFar TypeInOrder common_word common_seen l.common_types l.common-iterator
