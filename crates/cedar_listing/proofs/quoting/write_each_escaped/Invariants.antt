-- SPDX-License-Identifier: Apache-2.0
use Rattle.std.proofs.Common.{drop}
use Rattle.cedar_text.specs.Escapes.{escaped_byte}
use Rattle.cedar_streams.proofs.InLoop.{WritesEach}
use Rattle.cedar_listing.proofs.quoting.write_each_escaped.Given as goal

abbrev pub invariant-loop-byte : goal.invariant-loop-byte
invariant-loop-byte g l = WritesEach g.K.Sink.written g.K.Sink.faults l.initial.out l.out escaped_byte l.text (drop l.byte-index l.text)
