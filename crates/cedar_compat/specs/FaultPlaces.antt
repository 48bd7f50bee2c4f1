-- SPDX-License-Identifier: Apache-2.0
-- Where the names that a break keeps stand.
use Rattle.std.specs.Prelude.{List, [], ◌++◌}
use Rattle.cedar_text.specs.declared.location.Span.{Span}
use Rattle.cedar_places.specs.Places.{entity_place, range}
use Rattle.cedar_compat.specs.declared.fault.CompatFault.{CompatFault}
use Rattle.cedar_compat.specs.declared.kind.CompatKind.{CompatKind}
use Rattle.cedar_compat.specs.declared.kind.CompatKind.TheVariants as kind

-- the ranges of those that have a place
abbrev pub kind_spans : CompatKind → List Span
kind_spans (kind.DescendantRemoved ty) = range (entity_place ty)
kind_spans _ = []

-- the same of a break, in the order kept
abbrev pub fault_spans : CompatFault → List Span
fault_spans fault = range (entity_place fault.ty) ++ kind_spans fault.kind
