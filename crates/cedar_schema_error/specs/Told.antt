-- SPDX-License-Identifier: Apache-2.0
-- What an error tells, places aside.
use Rattle.std.specs.Prelude.{map}
use Rattle.cedar_names.specs.Components.{components}
use Rattle.cedar_names.specs.Names.{entity_words, name_words}
use Rattle.cedar_schema_error.specs.FullNames.{uid_in}
use Rattle.cedar_schema_error.specs.NameReferences.{action_reference_of, reference_of}
use Rattle.cedar_schema_error.specs.Refusals.{Refusal}
use Rattle.cedar_schema_error.specs.Refusals as refusal
use Rattle.cedar_schema_error.specs.declared.type_errors.ContextOrShape.{ContextOrShape}
use Rattle.cedar_schema_error.specs.declared.type_errors.ContextOrShape.TheVariants.{ActionContext, EntityTypeShape}
use Rattle.cedar_schema_error.specs.declared.schema_error.SchemaError.{SchemaError}
use Rattle.cedar_schema_error.specs.declared.schema_error.SchemaError.TheVariants as error
use Rattle.cedar_schema_error.specs.declared.type_errors.UnsupportedFeature.{UnsupportedFeature}
use Rattle.cedar_schema_error.specs.declared.type_errors.UnsupportedFeature.TheVariants.{ActionAttributes, OpenRecordsAndEntities}
use Rattle.cedar_schema_error.specs.declared.use_place.DeepPlace.{DeepPlace}
use Rattle.cedar_schema_error.specs.declared.use_place.DeepPlace.TheVariants as deep
use Rattle.cedar_schema_error.specs.declared.use_place.UsePlace.{UsePlace}
use Rattle.cedar_schema_error.specs.declared.use_place.UsePlace.TheVariants as use_at

-- a use of a type
abbrev pub told_use : UsePlace → refusal.UsePlace
told_use (use_at.Shape ty) = refusal.Shape (entity_words ty)
told_use (use_at.Tags ty) = refusal.Tags (entity_words ty)
told_use (use_at.Context uid) = refusal.Context (uid_in uid)

-- a place of a deep type
abbrev pub told_deep : DeepPlace → refusal.DeepPlace
told_deep (deep.Common name) = refusal.CommonType (components name)
told_deep (deep.Place place) = refusal.Place (told_use place)

-- a context or a shape, as a use
abbrev pub told_context_or_shape : ContextOrShape → refusal.UsePlace
told_context_or_shape (ActionContext uid) = refusal.Context (uid_in uid)
told_context_or_shape (EntityTypeShape ty) = refusal.Shape (entity_words ty)

-- what is not supported
abbrev pub told_feature : UnsupportedFeature → Refusal
told_feature OpenRecordsAndEntities = refusal.OpenRecord
told_feature (ActionAttributes ids) = refusal.ActionAttributes ids

-- what an error tells
abbrev pub told : SchemaError → Refusal
told (error.JsonDeserialization e) = refusal.HandedIn (error.JsonDeserialization e)
told (error.JsonSerialization e) = refusal.HandedIn (error.JsonSerialization e)
told (error.ReservedName e) = refusal.ReservedName (components e.name)
told (error.UnsupportedFeature e) = told_feature e.feature
told (error.UndeclaredEntityTypes e) = refusal.UndeclaredEntityTypes (entity_words e.types.head) (map entity_words e.types.tail)
told (error.TypeNotDefined e) = refusal.TypeNotDefined (reference_of e.undefined_types.head) (map reference_of e.undefined_types.tail)
told (error.ActionNotDefined e) = refusal.ActionNotDefined (action_reference_of e.uids.head) (map action_reference_of e.uids.tail)
told (error.TypeShadowing e) = refusal.TypeShadowing (components e.shadowed_def) (components e.shadowing_def)
told (error.ActionShadowing e) = refusal.ActionShadowing (uid_in e.shadowed_def) (uid_in e.shadowing_def)
told (error.DuplicateEntityType e) = refusal.DuplicateEntityType (entity_words e.ty)
told (error.DuplicateCommonType e) = refusal.DuplicateCommonType (components e.ty)
told (error.DuplicateAction e) = refusal.DuplicateAction (uid_in e.uid)
told (error.CycleInCommonTypeReferences e) = refusal.CycleInCommonTypeReferences (components e.ty)
told (error.CycleInActionHierarchy e) = refusal.CycleInActionHierarchy (uid_in e.uid)
told (error.ActionEntityTypeDeclared e) = refusal.ActionEntityTypeDeclared
told (error.ContextOrShapeNotRecord e) = refusal.ContextOrShapeNotRecord (told_context_or_shape e.ctx_or_shape)
told (error.ActionAttributesContainEmptySet e) = refusal.ActionAttributesContainEmptySet (uid_in e.uid)
told (error.UnsupportedActionAttribute e) = refusal.UnsupportedActionAttribute (uid_in e.uid) e.attr
told (error.UnknownExtensionType e) = refusal.UnknownExtensionType (name_words e.actual)
told (error.CommonTypeInvariantViolation e) = refusal.CommonTypeInvariantViolation (components e.name)
told (error.TooDeep e) = refusal.TooDeep (told_deep e.place)
told (error.ExprEscapeUsed e) = refusal.HandedIn (error.ExprEscapeUsed e)
told (error.ActionAttrEval e) = refusal.HandedIn (error.ActionAttrEval e)
told (error.ActionInvariantViolation e) = refusal.HandedIn (error.ActionInvariantViolation e)
told (error.ActionTransitiveClosure e) = refusal.HandedIn (error.ActionTransitiveClosure e)
told (error.EntityTypeTransitiveClosure e) = refusal.HandedIn (error.EntityTypeTransitiveClosure e)
