-- SPDX-License-Identifier: Apache-2.0
use Rattle.std.specs.Prelude.{⊤}
use Rattle.std.specs.String.{string_bytes}
use Rattle.cedar_names.specs.Extensions.{extension_words}
use Rattle.cedar_answers.proofs.ByMade.{made-accepts, made-answers}
use Rattle.cedar_answers.specs.Making.{MakesJson}
use Rattle.cedar_reviews.specs.Holding.{TellsNoDeclaration}
use Rattle.cedar_answers.proofs.to_json.answer_to_json.Goals as goal

pub returns-clause-answers : goal.returns-clause-answers
returns-clause-answers g c =
    made-answers g.K.Sink.written g.K.Sink.faults g.E.Sink.written g.E.Sink.faults c.args.out.now c.answer_written.new.out c.args.err.now c.answer_written.new.err c.answer_written.result
    string_bytes string_bytes (MakesJson c.args.text.now (extension_words c.args.extensions.now)) (TellsNoDeclaration c.args.text.now) c.json_line-made.result c.json_line-made.ensures.due c.json_line-made.ensures.told c.answer_written.ensures

pub returns-clause-accepts : goal.returns-clause-accepts
returns-clause-accepts g c =
    λ given. made-accepts g.K.Sink.written g.K.Sink.faults g.E.Sink.written g.E.Sink.faults c.args.out.now c.answer_written.new.out c.args.err.now c.answer_written.new.err c.answer_written.result
    string_bytes string_bytes (λ _. ⊤) c.json_line-made.result (c.json_line-made.ensures.accepts given) c.answer_written.ensures
