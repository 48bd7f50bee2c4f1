-- SPDX-License-Identifier: Apache-2.0
use Rattle.cedar_names.specs.Identifiers.{unreserved_word}
use Rattle.cedar_convert_fragment.specs.Views.{entity_seen}
use Rattle.cedar_reread.specs.EachType.{EachOfEntity}
use Rattle.cedar_in_order.specs.InOrder.{TypeInOrder}
use Rattle.cedar_in_order.proofs.DeclarationsSeen.{DeclarationsSoFar}
use Rattle.cedar_in_order.proofs.declarations.entity_types_in_order.Given as goal

-- the entity types so far stand in order
abbrev pub invariant-loop-entity : goal.invariant-loop-entity
invariant-loop-entity l = DeclarationsSoFar (EachOfEntity TypeInOrder) unreserved_word entity_seen l.entity_types l.entity-iterator
