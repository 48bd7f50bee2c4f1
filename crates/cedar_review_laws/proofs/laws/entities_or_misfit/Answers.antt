-- SPDX-License-Identifier: Apache-2.0
use Rattle.cedar_review_laws.proofs.Judging.{entities_either, entities_never_both}
use Rattle.cedar_review_laws.proofs.laws.entities_or_misfit.Goals as goal

pub returns-clause-either : goal.returns-clause-either
returns-clause-either c = entities_either

pub returns-clause-never_both : goal.returns-clause-never_both
returns-clause-never_both c = entities_never_both
