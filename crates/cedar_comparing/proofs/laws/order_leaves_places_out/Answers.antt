-- SPDX-License-Identifier: Apache-2.0
use Rattle.cedar_comparing.specs.Unplaced.{attribute_unplaced, record_unplaced, shape_unplaced, type_unplaced, variant_unplaced}
use Rattle.cedar_comparing.proofs.laws.order_leaves_places_out.Goals as goal

pub returns-clause-ty : goal.returns-clause-ty
returns-clause-ty g c bare names = c.order_agrees_with_equality.ensures.left (type_unplaced bare) (c.structures_leave_places_out.ensures.ty bare names)

pub returns-clause-variant : goal.returns-clause-variant
returns-clause-variant g c bare names = c.order_agrees_with_equality-2.ensures.left (variant_unplaced bare) (c.structures_leave_places_out.ensures.variant bare names)

pub returns-clause-record_type : goal.returns-clause-record_type
returns-clause-record_type g c bare names = c.order_agrees_with_equality-3.ensures.left (record_unplaced bare) (c.structures_leave_places_out.ensures.record_type bare names)

pub returns-clause-attribute : goal.returns-clause-attribute
returns-clause-attribute g c bare names = c.order_agrees_with_equality-4.ensures.left (attribute_unplaced bare) (c.structures_leave_places_out.ensures.attribute bare names)

pub returns-clause-shape : goal.returns-clause-shape
returns-clause-shape g c bare names = c.order_agrees_with_equality-5.ensures.left (shape_unplaced bare) (c.structures_leave_places_out.ensures.shape bare names)
