-- SPDX-License-Identifier: Apache-2.0
use Rattle.cedar_reviews.proofs.judging.judge_requests.Goals as goal

pub returns-in-Err-Refused-clause-accepts : goal.returns-in-Err-Refused-clause-accepts
returns-in-Err-Refused-clause-accepts c = λ due right. absurd ((rw c.in-Err-Refused.field-0-is at c.in-Err-Refused.ensures.unfit) right.0 right.1)
