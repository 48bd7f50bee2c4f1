-- SPDX-License-Identifier: Apache-2.0
use Rattle.cedar_review_laws.proofs.Judging.{compatible_either, compatible_never_both}
use Rattle.cedar_review_laws.proofs.laws.compatible_or_break.Goals as goal

pub returns-clause-either : goal.returns-clause-either
returns-clause-either c = compatible_either

pub returns-clause-never_both : goal.returns-clause-never_both
returns-clause-never_both c = compatible_never_both
