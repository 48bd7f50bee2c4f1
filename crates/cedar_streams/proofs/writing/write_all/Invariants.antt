-- SPDX-License-Identifier: Apache-2.0
use Rattle.std.proofs.Common.{length}
use Rattle.cedar_streams.proofs.Front.{WritesFront}
use Rattle.cedar_streams.proofs.writing.write_all.Given as goal

abbrev pub invariant-loop-rest : goal.invariant-loop-rest
invariant-loop-rest g l = WritesFront g.K.Sink.written g.K.Sink.faults l.initial.sink l.sink l.text l.rest

abbrev pub decreases-loop-rest : goal.decreases-loop-rest
decreases-loop-rest g l = length l.rest
