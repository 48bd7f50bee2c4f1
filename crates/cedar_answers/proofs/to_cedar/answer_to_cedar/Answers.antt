-- SPDX-License-Identifier: Apache-2.0
use Rattle.std.specs.Prelude.{⊤}
use Rattle.std.specs.String.{string_bytes}
use Rattle.cedar_answers.proofs.ByMade.{made-accepts, made-answers}
use Rattle.cedar_answers.specs.Making.{MakesCedar}
use Rattle.cedar_answers.specs.Printing.{TellsUnprintable}
use Rattle.cedar_answers.proofs.to_cedar.answer_to_cedar.Goals as goal

pub returns-clause-answers : goal.returns-clause-answers
returns-clause-answers g c =
    made-answers g.K.Sink.written g.K.Sink.faults g.E.Sink.written g.E.Sink.faults c.args.out.now c.answer_written.new.out c.args.err.now c.answer_written.new.err c.answer_written.result
    string_bytes string_bytes (MakesCedar c.args.text.now) (TellsUnprintable c.args.text.now) c.cedar_text-made.result c.cedar_text-made.ensures.due c.cedar_text-made.ensures.told c.answer_written.ensures

pub returns-clause-accepts : goal.returns-clause-accepts
returns-clause-accepts g c =
    λ given. made-accepts g.K.Sink.written g.K.Sink.faults g.E.Sink.written g.E.Sink.faults c.args.out.now c.answer_written.new.out c.args.err.now c.answer_written.new.err c.answer_written.result
    string_bytes string_bytes (λ _. ⊤) c.cedar_text-made.result (c.cedar_text-made.ensures.accepts given) c.answer_written.ensures
