-- SPDX-License-Identifier: Apache-2.0
use Rattle.cedar_in_order.proofs.TypesSeen.{Attributes-next}
use Rattle.cedar_in_order.proofs.types.+types.Goals as goal

pub attributes_in_order-loop-attribute-preserved : goal.attributes_in_order-loop-attribute-preserved
attributes_in_order-loop-attribute-preserved t c =
    Attributes-next c.loop-attribute.invariant c.in-Some.ensures.steps c.attribute_in_order.ensures.annotations c.attribute_in_order.ensures.ty
