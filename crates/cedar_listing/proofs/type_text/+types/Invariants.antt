-- SPDX-License-Identifier: Apache-2.0
use Rattle.std.proofs.Common.{codes}
use Rattle.cedar_streams.proofs.InLoop.{WritesJoined}
use Rattle.cedar_types.specs.Types.{entries}
use Rattle.cedar_listing.proofs.Depths.{IsDeeper}
use Rattle.cedar_listing.specs.Rows.{row_text}
use Rattle.cedar_listing.proofs.type_text.+types.Given as goal

abbrev pub invariant-write_rows-loop-name : goal.invariant-write_rows-loop-name
invariant-write_rows-loop-name g l = record {
  written : WritesJoined g.K.Sink.written g.K.Sink.faults l.initial.out l.out (codes ", ") row_text (entries l.attributes) l.separator l.name-iterator;
  deeper : IsDeeper l.attributes l.name-iterator;
}
