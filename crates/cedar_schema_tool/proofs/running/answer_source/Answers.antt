-- SPDX-License-Identifier: Apache-2.0
use Rattle.std.proofs.Common.{ℕ, List, sym, subst}
use Rattle.cedar_names.specs.Extensions.{extension_words}
use Rattle.cedar_streams.specs.Bytes.{GivesAll}
use Rattle.cedar_schema_tool.specs.Running.{Streams, Reads, longest_text, streams}
use Rattle.cedar_schema_tool.proofs.Answering.{bytes-accepts, bytes-source}
use Rattle.cedar_schema_tool.proofs.running.answer_source.Goals as goal

pub returns-in-Ok-clause-answers : goal.returns-in-Ok-clause-answers
returns-in-Ok-clause-answers g c =
    let before : Streams = streams g.S.Source.left g.S.Source.faults c.args.source.now g.K.Sink.written g.K.Sink.faults c.args.out.now g.E.Sink.written g.E.Sink.faults c.args.err.now in
    let after : Streams = streams g.S.Source.left g.S.Source.faults c.read_all.new.source g.K.Sink.written g.K.Sink.faults c.answer_bytes.new.out g.E.Sink.written g.E.Sink.faults c.answer_bytes.new.err in
    let reads : Reads before after c.as_slice.result.now = record {
      all = subst (λ (b : List ℕ). GivesAll longest_text before.left after.left b) (sym c.as_slice.ensures.value) c.in-Ok.ensures.whole.0;
      calm = c.in-Ok.ensures.whole.1;
    } in
    bytes-source c.args.command (extension_words c.args.extensions.now) before after c.as_slice.result.now reads c.answer_bytes.result c.answer_bytes.ensures.answers

pub returns-in-Ok-clause-accepts : goal.returns-in-Ok-clause-accepts
returns-in-Ok-clause-accepts g c =
    let before : Streams = streams g.S.Source.left g.S.Source.faults c.args.source.now g.K.Sink.written g.K.Sink.faults c.args.out.now g.E.Sink.written g.E.Sink.faults c.args.err.now in
    let after : Streams = streams g.S.Source.left g.S.Source.faults c.read_all.new.source g.K.Sink.written g.K.Sink.faults c.answer_bytes.new.out g.E.Sink.written g.E.Sink.faults c.answer_bytes.new.err in
    let reads : Reads before after c.as_slice.result.now = record {
      all = subst (λ (b : List ℕ). GivesAll longest_text before.left after.left b) (sym c.as_slice.ensures.value) c.in-Ok.ensures.whole.0;
      calm = c.in-Ok.ensures.whole.1;
    } in
    bytes-accepts c.args.command (extension_words c.args.extensions.now) before after c.as_slice.result.now reads c.answer_bytes.result c.answer_bytes.ensures.accepts
