-- SPDX-License-Identifier: Apache-2.0
use Rattle.cedar_json_written_laws.proofs.WrittenDeclarations.{action_written, apply_written, common_written, entity_written, parent_written}
use Rattle.cedar_json_written_laws.proofs.WrittenFragments.{fragment_written}
use Rattle.cedar_json_written_laws.proofs.WrittenNamespaces.{namespace_written}
use Rattle.cedar_json_written_laws.proofs.WrittenParts.{names_written}
use Rattle.cedar_json_written_laws.proofs.WrittenTypes.{attribute_of_type_written, type_written}
use Rattle.cedar_json_written_laws.proofs.laws.what_is_written_has_the_shape.Goals as goal

pub returns-clause-name : goal.returns-clause-name
returns-clause-name c = names_written

pub returns-clause-ty : goal.returns-clause-ty
returns-clause-ty c = type_written 129

pub returns-clause-attribute : goal.returns-clause-attribute
returns-clause-attribute c = attribute_of_type_written 129

pub returns-clause-common_type : goal.returns-clause-common_type
returns-clause-common_type c = common_written

pub returns-clause-entity_type : goal.returns-clause-entity_type
returns-clause-entity_type c = entity_written

pub returns-clause-action : goal.returns-clause-action
returns-clause-action c = action_written

pub returns-clause-applies_to : goal.returns-clause-applies_to
returns-clause-applies_to c = apply_written

pub returns-clause-parent : goal.returns-clause-parent
returns-clause-parent c = parent_written

pub returns-clause-namespace : goal.returns-clause-namespace
returns-clause-namespace c = namespace_written

pub returns-clause-fragment : goal.returns-clause-fragment
returns-clause-fragment c = fragment_written
