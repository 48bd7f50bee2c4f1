-- SPDX-License-Identifier: Apache-2.0
use Rattle.std.specs.Prelude.{⊤}
use Rattle.std.specs.String.{string_bytes}
use Rattle.cedar_answers.proofs.ByMade.{made-accepts, made-answers}
use Rattle.cedar_names.specs.Extensions.{extension_words}
use Rattle.cedar_reviews.specs.Reviewing.{MakesReview, TellsReview}
use Rattle.cedar_answers.proofs.review.answer_review.Goals as goal

pub returns-clause-answers : goal.returns-clause-answers
returns-clause-answers g c =
    made-answers g.K.Sink.written g.K.Sink.faults g.E.Sink.written g.E.Sink.faults c.args.out.now c.answer_written.new.out c.args.err.now c.answer_written.new.err c.answer_written.result
    string_bytes string_bytes (MakesReview c.args.review c.args.text.now (extension_words c.args.extensions.now)) (TellsReview c.args.review c.args.text.now (extension_words c.args.extensions.now)) c.reviewed-made.result c.reviewed-made.ensures.due c.reviewed-made.ensures.told c.answer_written.ensures

pub returns-clause-accepts : goal.returns-clause-accepts
returns-clause-accepts g c =
    λ given. made-accepts g.K.Sink.written g.K.Sink.faults g.E.Sink.written g.E.Sink.faults c.args.out.now c.answer_written.new.out c.args.err.now c.answer_written.new.err c.answer_written.result
    string_bytes string_bytes (λ _. ⊤) c.reviewed-made.result (c.reviewed-made.ensures.accepts given) c.answer_written.ensures
