-- SPDX-License-Identifier: Apache-2.0
use Rattle.cedar_complete.proofs.NothingMissed.{whole_action, whole_actions, whole_commons, whole_entities}
use Rattle.cedar_complete.proofs.laws.parts_that_miss_nothing_are_made.Goals as goal

pub returns-clause-common_types : goal.returns-clause-common_types
returns-clause-common_types c = whole_commons

pub returns-clause-entity_types : goal.returns-clause-entity_types
returns-clause-entity_types c = whole_entities

pub returns-clause-actions : goal.returns-clause-actions
returns-clause-actions c = whole_actions

pub returns-clause-action : goal.returns-clause-action
returns-clause-action c = whole_action
