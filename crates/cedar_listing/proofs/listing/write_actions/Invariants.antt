-- SPDX-License-Identifier: Apache-2.0
use Rattle.std.specs.Map.{values_of}
use Rattle.cedar_streams.proofs.InLoop.{WritesEach}
use Rattle.cedar_resolved.specs.Schemas.{action_types}
use Rattle.cedar_listing.specs.Listing.{action_line}
use Rattle.cedar_listing.proofs.listing.write_actions.Given as goal

abbrev pub invariant-loop-action : goal.invariant-loop-action
invariant-loop-action g l = WritesEach g.K.Sink.written g.K.Sink.faults l.initial.out l.out action_line (values_of (action_types l.schema)) l.action-iterator
