-- SPDX-License-Identifier: Apache-2.0
use Rattle.cedar_qualified.proofs.MissedDefinitions.{actions_missed, reserved_meant, types_missed}
use Rattle.cedar_qualified.proofs.laws.missing_is.Goals as goal

pub returns-clause-types : goal.returns-clause-types
returns-clause-types c a b ds h = types_missed a b h ds

pub returns-clause-actions : goal.returns-clause-actions
returns-clause-actions c a b ds h = actions_missed a b h ds

pub returns-clause-reserved : goal.returns-clause-reserved
returns-clause-reserved c a b ds h = reserved_meant a b h ds
