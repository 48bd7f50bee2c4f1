-- SPDX-License-Identifier: Apache-2.0
use Rattle.cedar_json_types.specs.Types.{Part, part_fault}
use Rattle.cedar_json_types.specs.declared.keyed.KeySet.TheVariants as set
use Rattle.cedar_json_laws.proofs.CleanDeclarations.{action_clean, apply_clean, common_type_clean, entity_clean, fragment_clean, namespace_clean, parent_clean}
use Rattle.cedar_json_laws.proofs.CleanTypes.{attribute_clean, part_clean}
use Rattle.cedar_json_laws.proofs.clean.what_has_a_shape_has_no_fault.Goals as goal

pub returns-clause-ty : goal.returns-clause-ty
returns-clause-ty c = part_clean 129 set.Type

pub returns-clause-attribute : goal.returns-clause-attribute
returns-clause-attribute c = attribute_clean (Part 129 set.Attribute) (part_fault 129 set.Attribute) (part_clean 129 set.Attribute)

pub returns-clause-common_type : goal.returns-clause-common_type
returns-clause-common_type c = common_type_clean

pub returns-clause-entity_type : goal.returns-clause-entity_type
returns-clause-entity_type c = entity_clean

pub returns-clause-action : goal.returns-clause-action
returns-clause-action c = action_clean

pub returns-clause-applies_to : goal.returns-clause-applies_to
returns-clause-applies_to c = apply_clean

pub returns-clause-parent : goal.returns-clause-parent
returns-clause-parent c = parent_clean

pub returns-clause-namespace : goal.returns-clause-namespace
returns-clause-namespace c = namespace_clean

pub returns-clause-fragment : goal.returns-clause-fragment
returns-clause-fragment c = fragment_clean
