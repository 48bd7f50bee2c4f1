-- SPDX-License-Identifier: Apache-2.0
use Rattle.cedar_review_laws.proofs.Judging.{value_either, value_never_both}
use Rattle.cedar_review_laws.proofs.laws.value_or_misfit.Goals as goal

pub returns-clause-either : goal.returns-clause-either
returns-clause-either c = value_either

pub returns-clause-never_both : goal.returns-clause-never_both
returns-clause-never_both c = value_never_both
