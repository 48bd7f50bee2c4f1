-- SPDX-License-Identifier: Apache-2.0
-- Where the pieces that an error keeps stand, in the order kept.
use Rattle.std.specs.Prelude.{◌++◌, List, [], Option}
use Rattle.std.specs.List.{flat_map}
use Rattle.cedar_names.specs.of_text.Lists.{elements}
use Rattle.cedar_names.specs.of_text.declared.location.Loc.{Loc}
use Rattle.cedar_names.specs.of_text.declared.location.Span.{Span}
use Rattle.cedar_names.specs.of_text.declared.non_empty.NonEmpty.{NonEmpty}
use Rattle.cedar_names.specs.Components.{loc_of}
use Rattle.cedar_names.specs.EntityUids.{place_of}
use Rattle.cedar_names.specs.Names.{internal_of}
use Rattle.cedar_fragment.specs.of_closure.TcErrors.{vertex_of}
use Rattle.cedar_places.specs.Places.{entity_place, range}
use Rattle.cedar_schema_error.specs.NameTexts.{context_or_shape_location, deep_location, parent_place, reference_place}
use Rattle.cedar_schema_error.specs.declared.schema_error.SchemaError.{SchemaError}
use Rattle.cedar_schema_error.specs.declared.schema_error.SchemaError.TheVariants as error

-- the ranges of pieces
abbrev pub ranges : {T : Type 0} → (T → Option Loc) → NonEmpty T → List Span
ranges place pieces = flat_map (λ piece. range (place piece)) (elements pieces)

-- the ranges of an error
abbrev pub places_of : SchemaError → List Span
places_of (error.UndeclaredEntityTypes e) = ranges entity_place e.types
places_of (error.TypeNotDefined e) = ranges reference_place e.undefined_types
places_of (error.ActionNotDefined e) = ranges parent_place e.uids
places_of (error.TypeShadowing e) = range (loc_of e.shadowed_def) ++ range (loc_of e.shadowing_def)
places_of (error.ActionShadowing e) = range (place_of e.shadowed_def) ++ range (place_of e.shadowing_def)
places_of (error.DuplicateEntityType e) = range (entity_place e.ty)
places_of (error.DuplicateCommonType e) = range (loc_of e.ty)
places_of (error.DuplicateAction e) = range (place_of e.uid)
places_of (error.CycleInCommonTypeReferences e) = range (loc_of e.ty)
places_of (error.CycleInActionHierarchy e) = range (place_of e.uid)
places_of (error.ContextOrShapeNotRecord e) = range (context_or_shape_location e.ctx_or_shape)
places_of (error.ActionAttributesContainEmptySet e) = range (place_of e.uid)
places_of (error.UnsupportedActionAttribute e) = range (place_of e.uid)
places_of (error.UnknownExtensionType e) = range (loc_of (internal_of e.actual))
places_of (error.CommonTypeInvariantViolation e) = range (loc_of e.name)
places_of (error.ActionInvariantViolation e) = ranges place_of e.euids
places_of (error.ActionTransitiveClosure e) = range (place_of (vertex_of e.error))
places_of (error.EntityTypeTransitiveClosure e) = range (entity_place (vertex_of e.error))
places_of (error.ReservedName e) = range (loc_of e.name)
places_of (error.TooDeep e) = range (deep_location e.place)
places_of _ = []
