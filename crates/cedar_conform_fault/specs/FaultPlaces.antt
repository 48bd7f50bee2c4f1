-- SPDX-License-Identifier: Apache-2.0
-- Where the names that a fault keeps stand.
use Rattle.std.specs.Prelude.{List, [], ◌++◌}
use Rattle.cedar_text.specs.declared.location.Span.{Span}
use Rattle.cedar_names.specs.EntityUids.{place_of}
use Rattle.cedar_places.specs.Places.{entity_place, name_place, range}
use Rattle.cedar_conform_fault.specs.declared.fault.Fault.{Fault}
use Rattle.cedar_conform_fault.specs.declared.kind.FaultKind.{FaultKind}
use Rattle.cedar_conform_fault.specs.declared.kind.FaultKind.TheVariants as kind

-- the ranges of those that have a place, in the order kept
abbrev pub kind_spans : FaultKind → List Span
kind_spans (kind.UnknownEntityType ty) = range (entity_place ty)
kind_spans (kind.WrongEntityType found wanted) = range (entity_place found) ++ range (entity_place wanted)
kind_spans (kind.NotAChoice ty id) = range (entity_place ty)
kind_spans (kind.NotAnAncestor ty of) = range (entity_place ty) ++ range (entity_place of)
kind_spans (kind.ExtensionValue name) = range (name_place name)
kind_spans (kind.RepeatedEntity uid) = range (place_of uid)
kind_spans _ = []

-- the same of a fault
abbrev pub fault_spans : Fault → List Span
fault_spans fault = kind_spans fault.kind
