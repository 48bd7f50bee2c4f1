-- SPDX-License-Identifier: Apache-2.0
use Rattle.cedar_review_laws.proofs.Judging.{requests_either}
use Rattle.cedar_review_laws.proofs.laws.requests_or_flaw.Goals as goal

pub returns : goal.returns
returns c = requests_either
