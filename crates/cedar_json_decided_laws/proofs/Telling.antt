-- SPDX-License-Identifier: Apache-2.0
-- What an error tells is a refusal where the error is a cause.
use Rattle.std.proofs.Common.{◌≡◌, ◌↔◌, ℕ, inl, inr, List, ap}
use Rattle.cedar_fragment.specs.ActionUids.{over_raw}
use Rattle.cedar_fragment.specs.declared.definitions.Fragment.{Fragment}
use Rattle.cedar_json_fault.specs.declared.json_error.JsonDeserializationError.{JsonDeserializationError}
use Rattle.cedar_json_types.specs.Faults.{Fault}
use Rattle.cedar_schema_error.specs.Refusals.{HandedIn}
use Rattle.cedar_schema_error.specs.Told.{told, told_feature}
use Rattle.cedar_schema_error.specs.declared.schema_error.SchemaError.{SchemaError}
use Rattle.cedar_schema_error.specs.declared.schema_error.SchemaError.TheVariants as error
use Rattle.cedar_schema_error.specs.declared.type_errors.UnsupportedFeature.{UnsupportedFeature}
use Rattle.cedar_schema_error.specs.declared.type_errors.UnsupportedFeature.TheVariants.{ActionAttributes, OpenRecordsAndEntities}
use Rattle.cedar_schema_json.specs.JsonSchemas.{JsonCause}
use Rattle.cedar_written.specs.declared.raw_name.RawName.{RawName}
use Rattle.cedar_json_decided_laws.specs.JsonRefusals.{JsonRefusal}

no_feature : (f : UnsupportedFeature) (x : SchemaError) → told_feature f ≡ HandedIn x → ⊥
no_feature OpenRecordsAndEntities x same = absurd (cc)
no_feature (ActionAttributes ids) x same = absurd (cc)

-- one error alone tells a fault of JSON
told_once : (e : SchemaError) (kept : JsonDeserializationError) → told e ≡ HandedIn (error.JsonDeserialization kept) → e ≡ error.JsonDeserialization kept
told_once (error.JsonDeserialization e) kept same = cc
told_once (error.JsonSerialization e) kept same = absurd (cc)
told_once (error.UnsupportedFeature e) kept same = absurd (no_feature e.feature (error.JsonDeserialization kept) same)
told_once (error.UndeclaredEntityTypes e) kept same = absurd (cc)
told_once (error.TypeNotDefined e) kept same = absurd (cc)
told_once (error.ActionNotDefined e) kept same = absurd (cc)
told_once (error.TypeShadowing e) kept same = absurd (cc)
told_once (error.ActionShadowing e) kept same = absurd (cc)
told_once (error.DuplicateEntityType e) kept same = absurd (cc)
told_once (error.DuplicateCommonType e) kept same = absurd (cc)
told_once (error.DuplicateAction e) kept same = absurd (cc)
told_once (error.CycleInCommonTypeReferences e) kept same = absurd (cc)
told_once (error.CycleInActionHierarchy e) kept same = absurd (cc)
told_once (error.ActionEntityTypeDeclared e) kept same = absurd (cc)
told_once (error.ContextOrShapeNotRecord e) kept same = absurd (cc)
told_once (error.ActionAttributesContainEmptySet e) kept same = absurd (cc)
told_once (error.UnsupportedActionAttribute e) kept same = absurd (cc)
told_once (error.ActionAttrEval e) kept same = absurd (cc)
told_once (error.ExprEscapeUsed e) kept same = absurd (cc)
told_once (error.UnknownExtensionType e) kept same = absurd (cc)
told_once (error.CommonTypeInvariantViolation e) kept same = absurd (cc)
told_once (error.ActionInvariantViolation e) kept same = absurd (cc)
told_once (error.ActionTransitiveClosure e) kept same = absurd (cc)
told_once (error.EntityTypeTransitiveClosure e) kept same = absurd (cc)
told_once (error.ReservedName e) kept same = absurd (cc)
told_once (error.TooDeep e) kept same = absurd (cc)

module _ (Shapes : Fragment RawName over_raw → Type 0) (fault : Fault) (extensions : List (List ℕ)) (e : SchemaError) where
  is_cause : JsonRefusal Shapes fault extensions (told e) → JsonCause Shapes fault extensions e
  is_cause (inl r) = inl (record { kept = r.kept; first = r.first; is = told_once e r.kept r.is })
  is_cause (inr r) = inr (record { fragment = r.fragment; shape = r.shape; cause = r.cause })

  is_refusal : JsonCause Shapes fault extensions e → JsonRefusal Shapes fault extensions (told e)
  is_refusal (inl c) = inl (record { kept = c.kept; first = c.first; is = ap told c.is })
  is_refusal (inr c) = inr (record { fragment = c.fragment; shape = c.shape; cause = c.cause })

  pub told_is_cause : JsonRefusal Shapes fault extensions (told e) ↔ JsonCause Shapes fault extensions e
  told_is_cause = (is_cause, is_refusal)
