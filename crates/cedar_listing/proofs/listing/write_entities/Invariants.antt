-- SPDX-License-Identifier: Apache-2.0
use Rattle.std.specs.Map.{values_of}
use Rattle.cedar_streams.proofs.InLoop.{WritesEach}
use Rattle.cedar_resolved.specs.Schemas.{types}
use Rattle.cedar_listing.specs.Listing.{entity_line}
use Rattle.cedar_listing.proofs.listing.write_entities.Given as goal

abbrev pub invariant-loop-ty : goal.invariant-loop-ty
invariant-loop-ty g l = WritesEach g.K.Sink.written g.K.Sink.faults l.initial.out l.out entity_line (values_of (types l.schema)) l.ty-iterator
