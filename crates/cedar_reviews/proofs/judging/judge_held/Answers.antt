-- SPDX-License-Identifier: Apache-2.0
use Rattle.std.proofs.Common.{sym}
use Rattle.serde_json.specs.View.{view}
use Rattle.cedar_envelope.specs.Envelopes.{contents}
use Rattle.cedar_names.specs.Extensions.{extension_words}
use Rattle.cedar_reviews.proofs.Judgements.{held-by}
use Rattle.cedar_reviews.proofs.judging.judge_held.Goals as goal

pub returns-clause-accepts : goal.returns-clause-accepts
returns-clause-accepts c =
    λ due right. c.judge_by_text.ensures.accepts due
    (held-by c.args.judged (contents c.args.envelope.now) (extension_words c.args.extensions.now) c.in-Some.text.now (view c.in-Some-value.value.now) due c.in-Some.ensures (rw (sym c.key.ensures) c.in-Some-value.ensures) right)
