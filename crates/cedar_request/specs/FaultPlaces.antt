-- SPDX-License-Identifier: Apache-2.0
-- Where the names that a fault of requests keeps stand.
use Rattle.std.specs.Prelude.{List, ◌++◌}
use Rattle.cedar_text.specs.declared.location.Span.{Span}
use Rattle.cedar_names.specs.EntityUids.{place_of}
use Rattle.cedar_places.specs.Places.{entity_place, range}
use Rattle.cedar_conform_fault.specs.FaultPlaces.{fault_spans}
use Rattle.cedar_request.specs.declared.fault.RequestFault.{RequestFault}
use Rattle.cedar_request.specs.declared.fault.RequestFault.TheVariants as fault

-- the ranges of those that have a place, in the order kept
abbrev pub request_fault_spans : RequestFault → List Span
request_fault_spans (fault.Value f) = fault_spans f
request_fault_spans (fault.UnknownAction at uid) = range (place_of uid)
request_fault_spans (fault.PrincipalNotAllowed at action ty) = range (place_of action) ++ range (entity_place ty)
request_fault_spans (fault.ResourceNotAllowed at action ty) = range (place_of action) ++ range (entity_place ty)
