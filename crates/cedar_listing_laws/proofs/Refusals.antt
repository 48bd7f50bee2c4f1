-- SPDX-License-Identifier: Apache-2.0
-- The text of an error and of its help are those of what the error tells, places aside.
use Rattle.std.proofs.Common.{◌≡◌, ℕ, List, [], ◌∷◌, ◌++◌, Option, Some, None, map, refl, ap, ◌∙◌, codes}
use Rattle.std.specs.Option.{option_map_or}
use Rattle.cedar_names.specs.Components.{components}
use Rattle.cedar_names.specs.Names.{entity_words}
use Rattle.cedar_names.specs.declared.internal_name.InternalName.{InternalName}
use Rattle.cedar_names.specs.declared.name.EntityType.{EntityType}
use Rattle.cedar_names.specs.of_text.Escapes.{escaped}
use Rattle.cedar_names.specs.of_text.Joining.{joined}
use Rattle.cedar_fragment.specs.ActionUids.{over_conditional, type_in}
use Rattle.cedar_fragment.specs.declared.action_uid.ActionEntityUID.{ActionEntityUID}
use Rattle.cedar_written.specs.Possibilities.{kind_of, possibilities_of}
use Rattle.cedar_written.specs.declared.conditional_name.ConditionalName.{ConditionalName}
use Rattle.cedar_schema_error.specs.ErrorTexts.{alone_help, error_text, help_text, meant_help, neither_help, no_record_help, no_record_text, quoting, report_help, shadowing_help, shadowing_text, undefined_help}
use Rattle.cedar_schema_error.specs.FullNames.{FullName, Uid}
use Rattle.cedar_schema_error.specs.ListTexts.{behind_commas, behind_first, noun}
use Rattle.cedar_schema_error.specs.NameReferences.{ActionReference, NameReference, action_reference_of, no_reference, reference_of}
use Rattle.cedar_schema_error.specs.NameTexts.{deep_text, entity_text, final, kind_text, last_possibility, parent_text, use_text, written_text}
use Rattle.cedar_schema_error.specs.Refusals.{Refusal}
use Rattle.cedar_schema_error.specs.Refusals as refusal
use Rattle.cedar_schema_error.specs.Told.{told, told_context_or_shape, told_deep, told_feature, told_use}
use Rattle.cedar_schema_error.specs.declared.schema_error.SchemaError.{SchemaError}
use Rattle.cedar_schema_error.specs.declared.schema_error.SchemaError.TheVariants as error
use Rattle.cedar_schema_error.specs.declared.type_errors.ContextOrShape.{ContextOrShape}
use Rattle.cedar_schema_error.specs.declared.type_errors.ContextOrShape.TheVariants.{ActionContext, EntityTypeShape}
use Rattle.cedar_schema_error.specs.declared.type_errors.UnsupportedFeature.{UnsupportedFeature}
use Rattle.cedar_schema_error.specs.declared.type_errors.UnsupportedFeature.TheVariants.{ActionAttributes, OpenRecordsAndEntities}
use Rattle.cedar_schema_error.specs.declared.use_place.DeepPlace.{DeepPlace}
use Rattle.cedar_schema_error.specs.declared.use_place.DeepPlace.TheVariants as deep
use Rattle.cedar_schema_error.specs.declared.use_place.UsePlace.{UsePlace}
use Rattle.cedar_schema_error.specs.declared.use_place.UsePlace.TheVariants as use_at

-- ---- texts of what is told

abbrev uid_told : Uid → List ℕ
uid_told u = joined u.ty ++ codes "::\"" ++ escaped u.id ++ codes "\""

-- a reference as it is written: the last name that it may stand for
abbrev last_told : List FullName → List ℕ
last_told [] = []
last_told (name ∷ names) = joined (final name names)

abbrev reference_told : NameReference → List ℕ
reference_told r = last_told r.possibilities

abbrev parent_told : ActionReference → List ℕ
parent_told a = reference_told a.ty ++ codes "::\"" ++ escaped a.id ++ codes "\""

abbrev use_told : refusal.UsePlace → List ℕ
use_told (refusal.Shape ty) = joined ty
use_told (refusal.Tags ty) = joined ty
use_told (refusal.Context uid) = uid_told uid

abbrev deep_told : refusal.DeepPlace → List ℕ
deep_told (refusal.CommonType name) = joined name
deep_told (refusal.Place place) = use_told place

abbrev no_record_told : refusal.UsePlace → List ℕ
no_record_told (refusal.Context uid) = codes "Context for action " ++ uid_told uid ++ codes " is declared with a type other than `Record`"
no_record_told (refusal.Shape ty) = codes "Shape for entity type " ++ joined ty ++ codes " is declared with a type other than `Record`"
no_record_told (refusal.Tags ty) = []

abbrev pub text_told : Refusal → List ℕ
text_told refusal.ActionEntityTypeDeclared = codes "entity type `Action` declared in `entityTypes` list"
text_told (refusal.ActionAttributes ids) = codes "unsupported feature used in schema"
text_told (refusal.ActionAttributesContainEmptySet uid) = codes "action `" ++ uid_told uid ++ codes "` has an attribute that is an empty set"
text_told (refusal.UnsupportedActionAttribute uid attr) = codes "action `" ++ uid_told uid ++ codes "` has an attribute with unsupported JSON representation: " ++ attr
text_told (refusal.TypeShadowing shadowed shadowing) = shadowing_text (joined shadowing) (joined shadowed)
text_told (refusal.ActionShadowing shadowed shadowing) = shadowing_text (uid_told shadowing) (uid_told shadowed)
text_told (refusal.TypeNotDefined r rs) = codes "failed to resolve " ++ noun (codes "type") (codes "types") rs ++ codes ": "
    ++ reference_told r ++ behind_commas (map reference_told rs)
text_told (refusal.ActionNotDefined a others) = codes "undeclared " ++ noun (codes "action") (codes "actions") others ++ codes ": "
    ++ parent_told a ++ behind_first (map parent_told others)
text_told (refusal.ReservedName name) = codes "the name `" ++ joined name ++ codes "` contains `__cedar`, which is reserved"
text_told (refusal.DuplicateCommonType name) = quoting (codes "duplicate common type ") (joined name)
text_told (refusal.DuplicateEntityType name) = quoting (codes "duplicate entity type ") (joined name)
text_told (refusal.DuplicateAction uid) = quoting (codes "duplicate action ") (uid_told uid)
text_told (refusal.CycleInCommonTypeReferences name) = quoting (codes "cycle in common type references containing ") (joined name)
text_told refusal.OpenRecord = codes "unsupported feature used in schema"
text_told (refusal.UnknownExtensionType name) = quoting (codes "unknown extension type ") (joined name)
text_told (refusal.CommonTypeInvariantViolation name) = codes "internal invariant violated: failed to find a common-type definition for " ++ joined name
text_told (refusal.TooDeep place) = codes "the type of `" ++ deep_told place ++ codes "` nests more than 128 sets and records"
text_told (refusal.ContextOrShapeNotRecord place) = no_record_told place
text_told (refusal.CycleInActionHierarchy uid) = quoting (codes "cycle in action hierarchy containing ") (uid_told uid)
text_told (refusal.UndeclaredEntityTypes name names) = codes "undeclared entity " ++ noun (codes "type") (codes "types") names ++ codes ": "
    ++ joined name ++ behind_first (map joined names)
text_told (refusal.HandedIn e) = error_text e

-- ---- texts of help

abbrev meant_told : List ℕ → List FullName → List ℕ → List ℕ → List ℕ
meant_told first [] last kind = alone_help first kind
meant_told first (second ∷ others) last kind = neither_help first last kind

abbrev possible_told : List FullName → List ℕ → List ℕ
possible_told [] kind = []
possible_told (name ∷ names) kind = meant_told (joined name) names (joined (final name names)) kind

abbrev no_record_help_told : refusal.UsePlace → List ℕ
no_record_help_told (refusal.Context uid) = codes "action contexts must have type `Record`"
no_record_help_told (refusal.Shape ty) = codes "entity type shapes must have type `Record`"
no_record_help_told (refusal.Tags ty) = []

abbrev pub help_told : Refusal → Option (List ℕ)
help_told refusal.ActionEntityTypeDeclared = None
help_told (refusal.ActionAttributes ids) = None
help_told (refusal.ActionAttributesContainEmptySet uid) = Some (codes "actions are not currently allowed to have attributes whose value is an empty set")
help_told (refusal.UnsupportedActionAttribute uid attr) = None
help_told (refusal.TypeShadowing shadowed shadowing) = Some (shadowing_help (codes "definitions") (joined shadowed))
help_told (refusal.ActionShadowing shadowed shadowing) = Some (shadowing_help (codes "actions") (uid_told shadowed))
help_told (refusal.TypeNotDefined r rs) = Some (possible_told r.possibilities (kind_text r.kind))
help_told (refusal.ActionNotDefined a others) = Some (codes "any actions appearing as parents need to be declared as actions")
help_told (refusal.ReservedName name) = None
help_told (refusal.DuplicateCommonType name) = None
help_told (refusal.DuplicateEntityType name) = None
help_told (refusal.DuplicateAction uid) = None
help_told (refusal.CycleInCommonTypeReferences name) = None
help_told refusal.OpenRecord = None
help_told (refusal.UnknownExtensionType name) = None
help_told (refusal.CommonTypeInvariantViolation name) = Some report_help
help_told (refusal.TooDeep place) = None
help_told (refusal.ContextOrShapeNotRecord place) = Some (no_record_help_told place)
help_told (refusal.CycleInActionHierarchy uid) = None
help_told (refusal.UndeclaredEntityTypes name names) = Some (codes "any entity types appearing anywhere in a schema need to be declared in `entityTypes`")
help_told (refusal.HandedIn e) = help_text e

-- ---- what is said of an error is what is said of what it tells

nouns : {A B : Type 0} (one many : List ℕ) (f : A → B) (xs : List A) → noun one many xs ≡ noun one many (map f xs)
nouns one many f [] = refl
nouns one many f (x ∷ xs) = refl

finals : {A B : Type 0} (f : A → B) (x : A) (xs : List A) → f (final x xs) ≡ final (f x) (map f xs)
finals f x [] = refl
finals f x (y ∷ ys) = finals f y ys

written_as : (n : ConditionalName) → written_text n ≡ reference_told (reference_of n)
written_as n = ap joined (finals components (possibilities_of n).head (possibilities_of n).tail)

parent_as : (a : ActionEntityUID ConditionalName over_conditional) → parent_text a ≡ parent_told (action_reference_of a)
parent_as a = by_type (type_in a)
  where
    by_type : (ty : Option ConditionalName)
        → option_map_or written_text ty [] ++ codes "::\"" ++ escaped a.id ++ codes "\"" ≡ parent_told (record { ty = option_map_or reference_of ty no_reference; id = a.id })
    by_type None = refl
    by_type (Some n) = ap (λ t. t ++ codes "::\"" ++ escaped a.id ++ codes "\"") (written_as n)

-- texts of what is seen
maps_as : {A B : Type 0} (f : A → List ℕ) (g : B → List ℕ) (seen : A → B) → ((x : A) → f x ≡ g (seen x)) → (xs : List A) → map f xs ≡ map g (map seen xs)
maps_as f g seen same [] = refl
maps_as f g seen same (x ∷ xs) = λ i. same x i ∷ maps_as f g seen same xs i

undefined_as : (n : ConditionalName) (ns : List ConditionalName)
    → codes "failed to resolve " ++ noun (codes "type") (codes "types") ns ++ codes ": " ++ written_text n ++ behind_commas (map written_text ns)
    ≡ text_told (refusal.TypeNotDefined (reference_of n) (map reference_of ns))
undefined_as n ns = λ i. codes "failed to resolve " ++ nouns (codes "type") (codes "types") reference_of ns i ++ codes ": "
    ++ written_as n i ++ behind_commas (maps_as written_text reference_told reference_of written_as ns i)

undeclared_actions_as : (a : ActionEntityUID ConditionalName over_conditional) (others : List (ActionEntityUID ConditionalName over_conditional))
    → codes "undeclared " ++ noun (codes "action") (codes "actions") others ++ codes ": " ++ parent_text a ++ behind_first (map parent_text others)
    ≡ text_told (refusal.ActionNotDefined (action_reference_of a) (map action_reference_of others))
undeclared_actions_as a others = λ i. codes "undeclared " ++ nouns (codes "action") (codes "actions") action_reference_of others i ++ codes ": "
    ++ parent_as a i ++ behind_first (maps_as parent_text parent_told action_reference_of parent_as others i)

undeclared_types_as : (ty : EntityType) (others : List EntityType)
    → codes "undeclared entity " ++ noun (codes "type") (codes "types") others ++ codes ": " ++ entity_text ty ++ behind_first (map entity_text others)
    ≡ text_told (refusal.UndeclaredEntityTypes (entity_words ty) (map entity_words others))
undeclared_types_as ty others = λ i. codes "undeclared entity " ++ nouns (codes "type") (codes "types") entity_words others i ++ codes ": "
    ++ entity_text ty ++ behind_first (maps_as entity_text joined entity_words (λ t. refl) others i)

no_record_as : (c : ContextOrShape) → no_record_text c ≡ no_record_told (told_context_or_shape c)
no_record_as (ActionContext uid) = refl
no_record_as (EntityTypeShape ty) = refl

feature_as : (f : UnsupportedFeature) → codes "unsupported feature used in schema" ≡ text_told (told_feature f)
feature_as OpenRecordsAndEntities = refl
feature_as (ActionAttributes ids) = refl

use_as : (u : UsePlace) → use_text u ≡ use_told (told_use u)
use_as (use_at.Shape ty) = refl
use_as (use_at.Tags ty) = refl
use_as (use_at.Context uid) = refl

deep_as : (d : DeepPlace) → deep_text d ≡ deep_told (told_deep d)
deep_as (deep.Common name) = refl
deep_as (deep.Place place) = use_as place

pub texts_as : (e : SchemaError) → error_text e ≡ text_told (told e)
texts_as (error.JsonDeserialization e) = refl
texts_as (error.JsonSerialization e) = refl
texts_as (error.UnsupportedFeature e) = feature_as e.feature
texts_as (error.UndeclaredEntityTypes e) = undeclared_types_as e.types.head e.types.tail
texts_as (error.TypeNotDefined e) = undefined_as e.undefined_types.head e.undefined_types.tail
texts_as (error.ActionNotDefined e) = undeclared_actions_as e.uids.head e.uids.tail
texts_as (error.TypeShadowing e) = refl
texts_as (error.ActionShadowing e) = refl
texts_as (error.DuplicateEntityType e) = refl
texts_as (error.DuplicateCommonType e) = refl
texts_as (error.DuplicateAction e) = refl
texts_as (error.CycleInCommonTypeReferences e) = refl
texts_as (error.CycleInActionHierarchy e) = refl
texts_as (error.ActionEntityTypeDeclared e) = refl
texts_as (error.ContextOrShapeNotRecord e) = no_record_as e.ctx_or_shape
texts_as (error.ActionAttributesContainEmptySet e) = refl
texts_as (error.UnsupportedActionAttribute e) = refl
texts_as (error.ActionAttrEval e) = refl
texts_as (error.ExprEscapeUsed e) = refl
texts_as (error.UnknownExtensionType e) = refl
texts_as (error.CommonTypeInvariantViolation e) = refl
texts_as (error.ActionInvariantViolation e) = refl
texts_as (error.ActionTransitiveClosure e) = refl
texts_as (error.EntityTypeTransitiveClosure e) = refl
texts_as (error.ReservedName e) = refl
texts_as (error.TooDeep e) = ap (λ t. codes "the type of `" ++ t ++ codes "` nests more than 128 sets and records") (deep_as e.place)

-- ---- and so of the help

meant_as : (first last kind : List ℕ) (names : List InternalName) → meant_help first names last kind ≡ meant_told first (map components names) last kind
meant_as first last kind [] = refl
meant_as first last kind (n ∷ ns) = refl

undefined_help_as : (n : ConditionalName) → undefined_help n ≡ possible_told (reference_of n).possibilities (kind_text (reference_of n).kind)
undefined_help_as n =
    meant_as (joined (components (possibilities_of n).head)) (joined (components (last_possibility n))) (kind_text (kind_of n)) (possibilities_of n).tail
    ∙ ap (λ last. meant_told (joined (components (possibilities_of n).head)) (map components (possibilities_of n).tail) (joined last) (kind_text (kind_of n)))
    (finals components (possibilities_of n).head (possibilities_of n).tail)

no_record_help_as : (c : ContextOrShape) → no_record_help c ≡ no_record_help_told (told_context_or_shape c)
no_record_help_as (ActionContext uid) = refl
no_record_help_as (EntityTypeShape ty) = refl

feature_help_as : (f : UnsupportedFeature) → None ≡ help_told (told_feature f)
feature_help_as OpenRecordsAndEntities = refl
feature_help_as (ActionAttributes ids) = refl

pub helps_as : (e : SchemaError) → help_text e ≡ help_told (told e)
helps_as (error.JsonDeserialization e) = refl
helps_as (error.JsonSerialization e) = refl
helps_as (error.UnsupportedFeature e) = feature_help_as e.feature
helps_as (error.UndeclaredEntityTypes e) = refl
helps_as (error.TypeNotDefined e) = ap Some (undefined_help_as e.undefined_types.head)
helps_as (error.ActionNotDefined e) = refl
helps_as (error.TypeShadowing e) = refl
helps_as (error.ActionShadowing e) = refl
helps_as (error.DuplicateEntityType e) = refl
helps_as (error.DuplicateCommonType e) = refl
helps_as (error.DuplicateAction e) = refl
helps_as (error.CycleInCommonTypeReferences e) = refl
helps_as (error.CycleInActionHierarchy e) = refl
helps_as (error.ActionEntityTypeDeclared e) = refl
helps_as (error.ContextOrShapeNotRecord e) = ap Some (no_record_help_as e.ctx_or_shape)
helps_as (error.ActionAttributesContainEmptySet e) = refl
helps_as (error.UnsupportedActionAttribute e) = refl
helps_as (error.ActionAttrEval e) = refl
helps_as (error.ExprEscapeUsed e) = refl
helps_as (error.UnknownExtensionType e) = refl
helps_as (error.CommonTypeInvariantViolation e) = refl
helps_as (error.ActionInvariantViolation e) = refl
helps_as (error.ActionTransitiveClosure e) = refl
helps_as (error.EntityTypeTransitiveClosure e) = refl
helps_as (error.ReservedName e) = refl
helps_as (error.TooDeep e) = refl
