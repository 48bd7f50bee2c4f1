-- SPDX-License-Identifier: Apache-2.0
use Rattle.std.proofs.Common.{arith}
use Rattle.cedar_json_types.specs.Types.{Part, part_fault}
use Rattle.cedar_json_types.specs.declared.keyed.KeySet.TheVariants as set
use Rattle.cedar_json_shape_laws.proofs.Declarations.{action_shaped, apply_shaped, common_type_shaped, entity_shaped, parent_shaped}
use Rattle.cedar_json_shape_laws.proofs.Namespaces.{fragment_shaped, namespace_shaped}
use Rattle.cedar_json_shape_laws.proofs.Types.{attribute_shaped, part_shaped}
use Rattle.cedar_json_shape_laws.proofs.laws.what_has_no_fault_has_a_shape.Goals as goal

pub returns-clause-ty : goal.returns-clause-ty
returns-clause-ty c d none = part_shaped 129 set.Type d (omega arith) none

pub returns-clause-attribute : goal.returns-clause-attribute
returns-clause-attribute c d none = attribute_shaped (Part 129 set.Attribute) (part_fault 129 set.Attribute) (λ e. part_shaped 129 set.Attribute e (omega arith)) d none

pub returns-clause-common_type : goal.returns-clause-common_type
returns-clause-common_type c = common_type_shaped

pub returns-clause-entity_type : goal.returns-clause-entity_type
returns-clause-entity_type c = entity_shaped

pub returns-clause-action : goal.returns-clause-action
returns-clause-action c = action_shaped

pub returns-clause-applies_to : goal.returns-clause-applies_to
returns-clause-applies_to c = apply_shaped

pub returns-clause-parent : goal.returns-clause-parent
returns-clause-parent c = parent_shaped

pub returns-clause-namespace : goal.returns-clause-namespace
returns-clause-namespace c = namespace_shaped

pub returns-clause-fragment : goal.returns-clause-fragment
returns-clause-fragment c = fragment_shaped
