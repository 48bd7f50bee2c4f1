-- SPDX-License-Identifier: Apache-2.0
-- A closed record of two whole numbers, `a` and `b`: as it is written, and what it unfolds to.
use Rattle.std.specs.Prelude.{true, false, codes}
use Rattle.cedar_unfold.specs.Resolved.{Resolved}
use Rattle.cedar_unfold.specs.Resolved as resolved
use Rattle.cedar_unfold.specs.Written.{Written, Long, Record, no_attributes, attribute}

-- as it is written
abbrev pub two_longs : {N : Type 0} → Written N
two_longs = Record (attribute (codes "a") true Long (attribute (codes "b") true Long no_attributes)) false

-- what it unfolds to
abbrev pub two_longs_resolved : Resolved
two_longs_resolved =
    resolved.Record (resolved.attribute (codes "a") true resolved.Long (resolved.attribute (codes "b") true resolved.Long resolved.no_attributes)) false
