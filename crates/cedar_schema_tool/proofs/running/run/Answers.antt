-- SPDX-License-Identifier: Apache-2.0
use Rattle.std.proofs.Common.{ℕ, List, map, refl, subst}
use Rattle.std.specs.String.{string_bytes}
use Rattle.cedar_commands.specs.Asking.{AskFor}
use Rattle.cedar_commands.specs.declared.command.Command.{Command}
use Rattle.cedar_schema_tool.specs.Running.{Streams, streams}
use Rattle.cedar_schema_tool.proofs.Answering.{bench-accepts, bench-runs, others-read, source-accepts, source-runs}
use Rattle.cedar_schema_tool.proofs.running.run.Goals as goal

pub returns-in-Ok-None-clause-runs : goal.returns-in-Ok-None-clause-runs
returns-in-Ok-None-clause-runs g c = (λ a. (rw c.in-Ok-None.field-0-is at c.in-Ok-None.ensures) a.0 a.1 a.2, refl)

pub returns-in-Ok-None-clause-accepts : goal.returns-in-Ok-None-clause-accepts
returns-in-Ok-None-clause-accepts g c = λ command names extensions text asks known given accepts. (rw c.in-Ok-None.field-0-is at c.in-Ok-None.ensures) command names asks

pub returns-in-Bench-clause-runs : goal.returns-in-Bench-clause-runs
returns-in-Bench-clause-runs g c =
    let before : Streams = streams g.S.Source.left g.S.Source.faults c.args.source.now g.K.Sink.written g.K.Sink.faults c.args.out.now g.E.Sink.written g.E.Sink.faults c.args.err.now in
    let after : Streams = streams g.S.Source.left g.S.Source.faults c.args.source.now g.K.Sink.written g.K.Sink.faults c.answer_generated.new.out g.E.Sink.written g.E.Sink.faults c.answer_generated.new.err in
    let words : List (List ℕ) = map string_bytes c.args.words.now in
    let found = subst (λ (k : Command). AskFor words k c.in-Ok-Some.found.1) c.in-Bench.is (rw c.in-Ok-Some.field-0-is at c.in-Ok-Some.ensures) in
    bench-runs words c.in-Bench.size c.in-Ok-Some.found.1 found before after c.answer_generated.result (refl, refl) c.answer_generated.ensures.answers

pub returns-in-Bench-clause-accepts : goal.returns-in-Bench-clause-accepts
returns-in-Bench-clause-accepts g c =
    let before : Streams = streams g.S.Source.left g.S.Source.faults c.args.source.now g.K.Sink.written g.K.Sink.faults c.args.out.now g.E.Sink.written g.E.Sink.faults c.args.err.now in
    let words : List (List ℕ) = map string_bytes c.args.words.now in
    let found = subst (λ (k : Command). AskFor words k c.in-Ok-Some.found.1) c.in-Bench.is (rw c.in-Ok-Some.field-0-is at c.in-Ok-Some.ensures) in
    bench-accepts words c.in-Bench.size c.in-Ok-Some.found.1 before c.answer_generated.result found c.answer_generated.ensures.accepts

pub returns-clause-runs : goal.returns-clause-runs
returns-clause-runs g c =
    let before : Streams = streams g.S.Source.left g.S.Source.faults c.args.source.now g.K.Sink.written g.K.Sink.faults c.args.out.now g.E.Sink.written g.E.Sink.faults c.args.err.now in
    let after : Streams = streams g.S.Source.left g.S.Source.faults c.answer_source.new.source g.K.Sink.written g.K.Sink.faults c.answer_source.new.out g.E.Sink.written g.E.Sink.faults c.answer_source.new.err in
    source-runs (map string_bytes c.args.words.now) c.in-Ok-Some.found.0 c.in-Ok-Some.found.1 (rw c.in-Ok-Some.field-0-is at c.in-Ok-Some.ensures)
    (others-read c.in-Ok-Some.found.0 c.in_default.not-Bench) before after c.answer_source.result c.answer_source.ensures.answers

pub returns-clause-accepts : goal.returns-clause-accepts
returns-clause-accepts g c =
    let before : Streams = streams g.S.Source.left g.S.Source.faults c.args.source.now g.K.Sink.written g.K.Sink.faults c.args.out.now g.E.Sink.written g.E.Sink.faults c.args.err.now in
    source-accepts (map string_bytes c.args.words.now) c.in-Ok-Some.found.0 c.in-Ok-Some.found.1 before c.answer_source.result
    (rw c.in-Ok-Some.field-0-is at c.in-Ok-Some.ensures) (others-read c.in-Ok-Some.found.0 c.in_default.not-Bench) c.answer_source.ensures.accepts
