-- SPDX-License-Identifier: Apache-2.0
use Rattle.cedar_commands.specs.declared.command.Command.TheVariants.{Resolve, ResolveJson, Check, ToJson, ToCedar, Review, Bench}
use Rattle.cedar_names.specs.Extensions.{extension_words}
use Rattle.cedar_answers.proofs.ByMade.{command-answers}
use Rattle.cedar_answers.specs.Making.{Makes, Tells}
use Rattle.cedar_answers.proofs.answering.answer_text.Goals as goal

pub returns-in-Resolve-clause-answers : goal.returns-in-Resolve-clause-answers
unfolding Makes Tells
returns-in-Resolve-clause-answers g c =
    command-answers g.K.Sink.written g.K.Sink.faults g.E.Sink.written g.E.Sink.faults c.args.out.now c.answer_report.new.out c.args.err.now c.answer_report.new.err c.answer_report.result c.args.command Resolve c.args.text.now (extension_words c.args.extensions.now) c.in-Resolve.is c.answer_report.ensures.answers

pub returns-in-ResolveJson-clause-answers : goal.returns-in-ResolveJson-clause-answers
unfolding Makes Tells
returns-in-ResolveJson-clause-answers g c =
    command-answers g.K.Sink.written g.K.Sink.faults g.E.Sink.written g.E.Sink.faults c.args.out.now c.answer_resolve_json.new.out c.args.err.now c.answer_resolve_json.new.err c.answer_resolve_json.result c.args.command ResolveJson c.args.text.now (extension_words c.args.extensions.now) c.in-ResolveJson.is c.answer_resolve_json.ensures.answers

pub returns-in-Check-clause-answers : goal.returns-in-Check-clause-answers
unfolding Makes Tells
returns-in-Check-clause-answers g c =
    command-answers g.K.Sink.written g.K.Sink.faults g.E.Sink.written g.E.Sink.faults c.args.out.now c.answer_report-in-Check.new.out c.args.err.now c.answer_report-in-Check.new.err c.answer_report-in-Check.result c.args.command Check c.args.text.now (extension_words c.args.extensions.now) c.in-Check.is c.answer_report-in-Check.ensures.answers

pub returns-in-ToJson-clause-answers : goal.returns-in-ToJson-clause-answers
unfolding Makes Tells
returns-in-ToJson-clause-answers g c =
    command-answers g.K.Sink.written g.K.Sink.faults g.E.Sink.written g.E.Sink.faults c.args.out.now c.answer_to_json.new.out c.args.err.now c.answer_to_json.new.err c.answer_to_json.result c.args.command ToJson c.args.text.now (extension_words c.args.extensions.now) c.in-ToJson.is c.answer_to_json.ensures.answers

pub returns-in-ToCedar-clause-answers : goal.returns-in-ToCedar-clause-answers
unfolding Makes Tells
returns-in-ToCedar-clause-answers g c =
    command-answers g.K.Sink.written g.K.Sink.faults g.E.Sink.written g.E.Sink.faults c.args.out.now c.answer_to_cedar.new.out c.args.err.now c.answer_to_cedar.new.err c.answer_to_cedar.result c.args.command ToCedar c.args.text.now (extension_words c.args.extensions.now) c.in-ToCedar.is c.answer_to_cedar.ensures.answers

pub returns-in-Review-clause-answers : goal.returns-in-Review-clause-answers
unfolding Makes Tells
returns-in-Review-clause-answers g c =
    command-answers g.K.Sink.written g.K.Sink.faults g.E.Sink.written g.E.Sink.faults c.args.out.now c.answer_review.new.out c.args.err.now c.answer_review.new.err c.answer_review.result c.args.command (Review c.in-Review.review) c.args.text.now (extension_words c.args.extensions.now) c.in-Review.is c.answer_review.ensures.answers

pub returns-in-Bench-clause-answers : goal.returns-in-Bench-clause-answers
unfolding Makes Tells
returns-in-Bench-clause-answers g c =
    command-answers g.K.Sink.written g.K.Sink.faults g.E.Sink.written g.E.Sink.faults c.args.out.now c.answer_report-in-Bench.new.out c.args.err.now c.answer_report-in-Bench.new.err c.answer_report-in-Bench.result c.args.command (Bench c.in-Bench.field-0) c.args.text.now (extension_words c.args.extensions.now) c.in-Bench.is c.answer_report-in-Bench.ensures.answers
