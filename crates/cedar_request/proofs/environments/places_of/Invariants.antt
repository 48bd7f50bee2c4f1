-- SPDX-License-Identifier: Apache-2.0
use Rattle.cedar_request.proofs.Places.{PlacesOn}
use Rattle.cedar_request.proofs.environments.places_of.Given as goal

-- the places of the types so far are told
abbrev pub invariant-loop-ty : goal.invariant-loop-ty
invariant-loop-ty l = PlacesOn l.fn.types l.ty-iterator l.places
