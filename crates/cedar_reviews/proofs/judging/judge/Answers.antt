-- SPDX-License-Identifier: Apache-2.0
use Rattle.std.proofs.lemmas.Result.{err_from_is_err_and}
use Rattle.std.specs.String.{string_bytes}
use Rattle.cedar_envelope.specs.Envelopes.{contents}
use Rattle.cedar_names.specs.Extensions.{extension_words}
use Rattle.cedar_reviews.proofs.Judgements.{object-holds, object-or-told}
use Rattle.cedar_reviews.proofs.judging.judge.Goals as goal

pub returns-in_err-envelope-clause-accepts : goal.returns-in_err-envelope-clause-accepts
returns-in_err-envelope-clause-accepts c =
    λ passes. let p = err_from_is_err_and c.from_residual.result c.from_residual.ensures.1 in
    rw (p.1, p.2) (object-or-told (Unit {0}) (Unit {0}) string_bytes c.args.judged c.args.input.now (extension_words c.args.extensions.now) c.in_err-envelope.field-0.0 c.in_err-envelope.ensures.told passes)

pub returns-clause-accepts : goal.returns-clause-accepts
returns-clause-accepts c =
    λ passes. c.judge_held-answer.ensures.accepts passes.0
    (object-holds c.args.judged c.args.input.now (extension_words c.args.extensions.now) (contents c.in_ok-envelope.envelope) passes.0 c.in_ok-envelope.ensures.is passes.1)
