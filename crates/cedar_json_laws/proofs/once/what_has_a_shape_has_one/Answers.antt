-- SPDX-License-Identifier: Apache-2.0
use Rattle.cedar_json_types.specs.Types.{Part}
use Rattle.cedar_json_types.specs.declared.keyed.KeySet.TheVariants as set
use Rattle.cedar_json_laws.proofs.OnceDeclarations.{action_once, apply_once, common_type_once, entity_once, fragment_once, namespace_once, parent_once}
use Rattle.cedar_json_laws.proofs.OnceTypes.{attribute_once, part_once}
use Rattle.cedar_json_laws.proofs.once.what_has_a_shape_has_one.Goals as goal

pub returns-clause-ty : goal.returns-clause-ty
returns-clause-ty c = part_once 129 set.Type

pub returns-clause-attribute : goal.returns-clause-attribute
returns-clause-attribute c = attribute_once (Part 129 set.Attribute) (part_once 129 set.Attribute)

pub returns-clause-common_type : goal.returns-clause-common_type
returns-clause-common_type c = common_type_once

pub returns-clause-entity_type : goal.returns-clause-entity_type
returns-clause-entity_type c = entity_once

pub returns-clause-action : goal.returns-clause-action
returns-clause-action c = action_once

pub returns-clause-applies_to : goal.returns-clause-applies_to
returns-clause-applies_to c = apply_once

pub returns-clause-parent : goal.returns-clause-parent
returns-clause-parent c = parent_once

pub returns-clause-namespace : goal.returns-clause-namespace
returns-clause-namespace c = namespace_once

pub returns-clause-fragment : goal.returns-clause-fragment
returns-clause-fragment c = fragment_once
