-- SPDX-License-Identifier: Apache-2.0
use Rattle.std.proofs.Common.{◌≡◌, ◌++◌, take}
use Rattle.std.specs.List.{flat_map}
use Rattle.cedar_places.specs.Places.{range}
use Rattle.cedar_schema_error.proofs.places.ranges.Given as goal

-- the ranges of the first piece and of those so far
abbrev pub invariant-loop-piece : goal.invariant-loop-piece
invariant-loop-piece g l =
    let place = g.T.Shown.place in
    l.spans.items ≡ range (place l.fn.pieces.head) ++ flat_map (λ piece. range (place piece)) (take l.piece-index l.piece-items)
