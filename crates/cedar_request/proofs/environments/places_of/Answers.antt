-- SPDX-License-Identifier: Apache-2.0
use Rattle.cedar_request.proofs.Places.{PlacesOn-next, PlacesOn-sorted}
use Rattle.cedar_request.proofs.environments.places_of.Goals as goal

pub push_last-requires : goal.push_last-requires
push_last-requires c = PlacesOn-sorted c.loop-ty.invariant c.in-Some.ensures.steps c.in_ok-ty.ensures c.requires

pub loop-ty-preserved : goal.loop-ty-preserved
loop-ty-preserved c =
    PlacesOn-next c.loop-ty.invariant c.in-Some.ensures.steps c.in_ok-ty.ensures c.len-place.ensures.count c.in_ok-push_last.ensures.ok
