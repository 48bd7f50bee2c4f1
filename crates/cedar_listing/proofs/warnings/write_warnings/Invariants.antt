-- SPDX-License-Identifier: Apache-2.0
use Rattle.std.proofs.Common.{drop}
use Rattle.cedar_streams.proofs.InLoop.{WritesEach}
use Rattle.cedar_listing.specs.Listing.{warning_line}
use Rattle.cedar_listing.proofs.warnings.write_warnings.Given as goal

abbrev pub invariant-loop-warning : goal.invariant-loop-warning
invariant-loop-warning g l = WritesEach g.K.Sink.written g.K.Sink.faults l.initial.out l.out warning_line l.warnings (drop l.warning-index l.warnings)
