-- SPDX-License-Identifier: Apache-2.0
use Rattle.std.proofs.Common.{subst}
use Rattle.serde_json.specs.View.{view}
use Rattle.cedar_schema.specs.SchemaViews.{schema_in}
use Rattle.cedar_reviews.specs.Judging.{IsRight}
use Rattle.cedar_reviews.proofs.judging.judge_by.Goals as goal

pub returns-in-Requests-clause-accepts : goal.returns-in-Requests-clause-accepts
returns-in-Requests-clause-accepts c = λ due right. c.judge_requests.ensures.accepts due (subst (λ j. IsRight j (schema_in c.args.schema.now) (view c.args.value.now) due) c.in-Requests.is right)
