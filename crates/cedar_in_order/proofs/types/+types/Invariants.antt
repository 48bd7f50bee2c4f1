-- SPDX-License-Identifier: Apache-2.0
use Rattle.cedar_in_order.proofs.TypesSeen.{AttributesSoFar}
use Rattle.cedar_in_order.proofs.types.+types.Given as goal

-- the attributes so far stand in order
abbrev pub invariant-attributes_in_order-loop-attribute : goal.invariant-attributes_in_order-loop-attribute
invariant-attributes_in_order-loop-attribute l = AttributesSoFar l.attributes l.attribute-iterator
