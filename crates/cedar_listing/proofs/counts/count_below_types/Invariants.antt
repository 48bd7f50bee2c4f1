-- SPDX-License-Identifier: Apache-2.0
use Rattle.std.specs.Map.{values_of}
use Rattle.cedar_resolved.specs.Schemas.{types}
use Rattle.cedar_listing.proofs.Counting.{IsCounted}
use Rattle.cedar_listing.specs.Counts.{below_type}
use Rattle.cedar_listing.proofs.counts.count_below_types.Given as goal

abbrev pub invariant-loop-ty : goal.invariant-loop-ty
invariant-loop-ty l = IsCounted below_type (values_of (types l.schema)) l.count l.ty-iterator
