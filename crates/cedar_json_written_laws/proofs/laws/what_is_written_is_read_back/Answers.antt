-- SPDX-License-Identifier: Apache-2.0
use Rattle.cedar_json_write.specs.Written.{action_json, apply_json, attribute_json, common_json, entity_json, fragment_json, namespace_json, parent_json, type_json}
use Rattle.cedar_json_written_laws.specs.Unplaced.{action_unplaced, apply_unplaced, attribute_unplaced, common_unplaced, entity_unplaced, fragment_unplaced, namespace_unplaced, parent_unplaced, type_unplaced}
use Rattle.cedar_json_written_laws.proofs.laws.what_is_written_is_read_back.Goals as goal

pub returns-clause-ty : goal.returns-clause-ty
returns-clause-ty c = λ x writable.
    let shape = c.what_is_written_has_the_shape.ensures.ty x writable in
    (c.what_has_a_shape_has_no_fault.ensures.ty (type_json x) (type_unplaced x) shape, shape, λ u is. c.what_has_a_shape_has_one.ensures.ty (type_json x) u (type_unplaced x) is shape)

pub returns-clause-attribute : goal.returns-clause-attribute
returns-clause-attribute c = λ x writable.
    let shape = c.what_is_written_has_the_shape.ensures.attribute x writable in
    (c.what_has_a_shape_has_no_fault.ensures.attribute (attribute_json x) (attribute_unplaced x) shape, shape, λ u is. c.what_has_a_shape_has_one.ensures.attribute (attribute_json x) u (attribute_unplaced x) is shape)

pub returns-clause-common_type : goal.returns-clause-common_type
returns-clause-common_type c = λ x writable.
    let shape = c.what_is_written_has_the_shape.ensures.common_type x writable in
    (c.what_has_a_shape_has_no_fault.ensures.common_type (common_json x) (common_unplaced x) shape, shape, λ u is. c.what_has_a_shape_has_one.ensures.common_type (common_json x) u (common_unplaced x) is shape)

pub returns-clause-entity_type : goal.returns-clause-entity_type
returns-clause-entity_type c = λ x writable.
    let shape = c.what_is_written_has_the_shape.ensures.entity_type x writable in
    (c.what_has_a_shape_has_no_fault.ensures.entity_type (entity_json x) (entity_unplaced x) shape, shape, λ u is. c.what_has_a_shape_has_one.ensures.entity_type (entity_json x) u (entity_unplaced x) is shape)

pub returns-clause-action : goal.returns-clause-action
returns-clause-action c = λ x writable.
    let shape = c.what_is_written_has_the_shape.ensures.action x writable in
    (c.what_has_a_shape_has_no_fault.ensures.action (action_json x) (action_unplaced x) shape, shape, λ u is. c.what_has_a_shape_has_one.ensures.action (action_json x) u (action_unplaced x) is shape)

pub returns-clause-applies_to : goal.returns-clause-applies_to
returns-clause-applies_to c = λ x writable.
    let shape = c.what_is_written_has_the_shape.ensures.applies_to x writable in
    (c.what_has_a_shape_has_no_fault.ensures.applies_to (apply_json x) (apply_unplaced x) shape, shape, λ u is. c.what_has_a_shape_has_one.ensures.applies_to (apply_json x) u (apply_unplaced x) is shape)

pub returns-clause-parent : goal.returns-clause-parent
returns-clause-parent c = λ x.
    let shape = c.what_is_written_has_the_shape.ensures.parent x in
    (c.what_has_a_shape_has_no_fault.ensures.parent (parent_json x) (parent_unplaced x) shape, shape, λ u is. c.what_has_a_shape_has_one.ensures.parent (parent_json x) u (parent_unplaced x) is shape)

pub returns-clause-namespace : goal.returns-clause-namespace
returns-clause-namespace c = λ x writable.
    let shape = c.what_is_written_has_the_shape.ensures.namespace x writable in
    (c.what_has_a_shape_has_no_fault.ensures.namespace (namespace_json x) (namespace_unplaced x) shape, shape, λ u is. c.what_has_a_shape_has_one.ensures.namespace (namespace_json x) u (namespace_unplaced x) is shape)

pub returns-clause-fragment : goal.returns-clause-fragment
returns-clause-fragment c = λ x writable.
    let shape = c.what_is_written_has_the_shape.ensures.fragment x writable in
    (c.what_has_a_shape_has_no_fault.ensures.fragment (fragment_json x) (fragment_unplaced x) shape, shape, λ u is. c.what_has_a_shape_has_one.ensures.fragment (fragment_json x) u (fragment_unplaced x) is shape)
