-- SPDX-License-Identifier: Apache-2.0
use Rattle.cedar_declared.proofs.FoundTargets.{action_found, same_found, type_found}
use Rattle.cedar_declared.proofs.laws.what_is_found_is_the_target.Goals as goal

pub returns-clause-types : goal.returns-clause-types
returns-clause-types c = type_found

pub returns-clause-actions : goal.returns-clause-actions
returns-clause-actions c = action_found

pub returns-clause-same : goal.returns-clause-same
returns-clause-same c = same_found
