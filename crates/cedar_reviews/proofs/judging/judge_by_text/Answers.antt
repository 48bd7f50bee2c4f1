-- SPDX-License-Identifier: Apache-2.0
use Rattle.std.proofs.Common.{subst, sym}
use Rattle.std.proofs.lemmas.Result.{err_from_is_err_and}
use Rattle.serde_json.specs.View.{view}
use Rattle.cedar_reviews.specs.Judging.{IsRight}
use Rattle.cedar_reviews.proofs.judging.judge_by_text.Goals as goal

pub returns-in_err-schema-clause-accepts : goal.returns-in_err-schema-clause-accepts
returns-in_err-schema-clause-accepts c =
    λ due right. let p = err_from_is_err_and c.from_residual.result c.from_residual.ensures.1 in
    rw (p.1, p.2) (c.in_err-schema.ensures.accepts right.0 right.1)

pub returns-clause-accepts : goal.returns-clause-accepts
returns-clause-accepts c =
    λ due right. c.judge_by-answer.ensures.accepts due
    (subst (λ S. IsRight c.args.judged S (view c.args.value.now) due) (sym (c.in_ok-schema.ensures.accepts right.0 right.1)) right.2)
