-- SPDX-License-Identifier: Apache-2.0
-- A type that is refused has a reference without target.
use Rattle.std.proofs.Common.{◌≡◌, ◌⊎◌, ◌++◌, ℕ, Bool, List, [], ◌∷◌, Option, Some, None, cond, inl, inr, is_none, option_map, refl, sym, ap, ◌∙◌}
use Rattle.std.proofs.lemmas.List.Elements.{filter-append}
use Rattle.std.specs.List.{AllByRecursion, flat_map}
use Rattle.std.specs.declared.result.Result.TheVariants.{Err}
use Rattle.cedar_data.specs.Maps.{map_values}
use Rattle.cedar_missing.proofs.of_declared.FoundTargets.{type_found}
use Rattle.cedar_missing.specs.of_declared.Names.{Names, target, undefined}
use Rattle.cedar_missing.specs.of_declared.Targets.{found, or_refused, resolving}
use Rattle.cedar_names.specs.Components.{components}
use Rattle.cedar_names.specs.declared.annotation.Annotations.{Annotations}
use Rattle.cedar_names.specs.declared.internal_name.InternalName.{InternalName}
use Rattle.cedar_schema_error.specs.FullNames.{FullName}
use Rattle.cedar_schema_error.specs.NameReferences.{NameReference, reference_of}
use Rattle.cedar_schema_error.specs.declared.schema_error.SchemaError.{SchemaError}
use Rattle.cedar_schema_error.specs.declared.schema_error.SchemaError.TheVariants.{TypeNotDefined}
use Rattle.cedar_text.specs.declared.location.Loc.{Loc}
use Rattle.cedar_world.proofs.of_unfold.SchemaTypes.{is_common, type_is, variant_either, variant_entity, variant_set}
use Rattle.cedar_world.specs.of_unfold.Written.{Written, WrittenAttributes, attribute_references, references}
use Rattle.cedar_world.specs.of_unfold.WrittenViews.{written_attribute, written_attributes, written_record, written_type, written_variant}
use Rattle.cedar_world.specs.DefinitionViews.{type_in}
use Rattle.cedar_world.specs.Missing.{first_alone, missing_in}
use Rattle.cedar_written.proofs.ThroughEquations.{through-Boolean, through-CommonTypeRef, through-Entity, through-EntityOrCommon, through-Extension, through-Long, through-Record, through-Set, through-String, through-Variant, through-attribute_of, through-record_of}
use Rattle.cedar_written.proofs.TypeInduction.{attribute_of, by_cases, record_of}
use Rattle.cedar_written.specs.Answers.{all_values}
use Rattle.cedar_written.specs.Possibilities.{leading}
use Rattle.cedar_written.specs.Reference.{named}
use Rattle.cedar_written.specs.Through.{through_attribute, through_record, through_type, through_variant}
use Rattle.cedar_written.specs.declared.conditional_name.ConditionalName.{ConditionalName}
use Rattle.cedar_written.specs.declared.reference_type.ReferenceType.{ReferenceType}
use Rattle.cedar_written.specs.declared.reference_type.ReferenceType.TheVariants as kind
use Rattle.cedar_written.specs.declared.ty.RecordType.{RecordType}
use Rattle.cedar_written.specs.declared.ty.SchemaType.{SchemaType}
use Rattle.cedar_written.specs.declared.ty.SchemaType.TheVariants as type
use Rattle.cedar_written.specs.declared.ty.TypeOfAttribute.{TypeOfAttribute}
use Rattle.cedar_written.specs.declared.ty.TypeVariant.{TypeVariant}
use Rattle.cedar_written.specs.declared.ty.TypeVariant.TheVariants as variant
use Rattle.cedar_qualified.proofs.Results.{not_both, one_refused, refused_of}
use Rattle.cedar_qualified.proofs.WalkedTypes.{attribute_seen, attributes_seen, record_seen}

some_there : {A : Type 0} (x : A) (xs : List A) → x ∷ xs ≡ [] → ⊥
some_there x xs is = absurd (cc)

both_empty : {A : Type 0} (xs ys : List A) → xs ++ ys ≡ [] → (xs ≡ []) × (ys ≡ [])
both_empty [] ys is = (refl, is)
both_empty (x ∷ xs) ys is = absurd (some_there x (xs ++ ys) is)

none_first : {A : Type 0} (xs : List A) → first_alone xs ≡ [] → xs ≡ []
none_first [] is = refl
none_first (x ∷ xs) is = absurd (some_there x [] is)

missed_by : (e e' : SchemaError) (o : Option InternalName) → or_refused e o ≡ Err e' → o ≡ None
missed_by e e' None is = refl
missed_by e e' (Some n) is = absurd (not_both n e' is)

module _ (names : Names) where
  abbrev Found : List NameReference → Type 0
  Found rs = undefined names rs ≡ []

  without : (r : NameReference) (o : Option FullName) → o ≡ None → cond (is_none o) (r ∷ []) [] ≡ [] → ⊥
  without r None none is = some_there r [] is
  without r (Some n) none is = absurd (cc)

  -- a reference that is refused has no target
  untargeted : (k : ReferenceType) (n : ConditionalName) (e : SchemaError) → resolving names (named k n) ≡ Err e → target names (reference_of n) ≡ None
  untargeted k n e is = type_found names n ∙ ap (option_map components) (missed_by (TypeNotDefined (record { undefined_types = leading n [] })) e (found names n) is)

  lone : (k : ReferenceType) (n : ConditionalName) (e : SchemaError) (rs : List NameReference) → resolving names (named k n) ≡ Err e → rs ≡ reference_of n ∷ [] → Found rs → ⊥
  lone k n e rs is here none = without (reference_of n) (target names (reference_of n)) (untargeted k n e is) (sym (ap (undefined names) here) ∙ none)

  abbrev P1 : SchemaType ConditionalName → Type 0
  P1 t = (e : SchemaError) → through_type (resolving names) t ≡ Err e → Found (references (written_type reference_of t)) → ⊥

  abbrev P2 : TypeVariant ConditionalName → Type 0
  P2 v = (e : SchemaError) → through_variant (resolving names) v ≡ Err e → Found (references (written_variant reference_of v)) → ⊥

  abbrev P3 : RecordType ConditionalName → Type 0
  P3 r = (e : SchemaError) → through_record (resolving names) r ≡ Err e → Found (references (written_record reference_of r)) → ⊥

  abbrev P4 : TypeOfAttribute ConditionalName → Type 0
  P4 a = (e : SchemaError) → through_attribute (resolving names) a ≡ Err e → Found (references (written_attribute reference_of a).1) → ⊥

  -- the same references
  same_found : (t u : Written NameReference) → t ≡ u → Found (references t) → Found (references u)
  same_found t u same none = ap (λ t. undefined names (references t)) (sym same) ∙ none

  variant_misses : (v : TypeVariant ConditionalName) (loc : Option Loc) → P2 v → P1 (type.Variant v loc)
  variant_misses v loc ih e is none =
      ih e (refused_of (through_variant (resolving names) v) (λ w. type.Variant w loc) e (sym (through-Variant (resolving names) v loc) ∙ is))
      (same_found _ (written_variant reference_of v) (type_is reference_of (type.Variant v loc) v loc (written_variant reference_of v) refl refl) none)

  common_misses : (n : ConditionalName) (loc : Option Loc) → P1 (type.CommonTypeRef n loc)
  common_misses n loc e is none =
      lone kind.Common n e _ (refused_of (resolving names (named kind.Common n)) (λ m. type.CommonTypeRef m loc) e (sym (through-CommonTypeRef (resolving names) n loc) ∙ is))
      (ap references (is_common reference_of (type.CommonTypeRef n loc) n loc refl)) none

  set_misses : (t : SchemaType ConditionalName) → P1 t → P2 (variant.Set t)
  set_misses t ih e is none =
      ih e (refused_of (through_type (resolving names) t) (λ u. variant.Set u) e (sym (through-Set (resolving names) t) ∙ is))
      (same_found _ _ (variant_set reference_of (variant.Set t) t refl) none)

  record_misses : (r : RecordType ConditionalName) → P3 r → P2 (variant.Record r)
  record_misses r ih e is none =
      ih e (refused_of (through_record (resolving names) r) (λ s. variant.Record s) e (sym (through-Record (resolving names) r) ∙ is))
      (same_found _ _ (record_seen reference_of r) none)

  entity_misses : (n : ConditionalName) → P2 (variant.Entity n)
  entity_misses n e is none =
      lone kind.Entity n e _ (refused_of (resolving names (named kind.Entity n)) (λ m. variant.Entity m) e (sym (through-Entity (resolving names) n) ∙ is))
      (ap references (variant_entity reference_of (variant.Entity n) n refl)) none

  either_misses : (n : ConditionalName) → P2 (variant.EntityOrCommon n)
  either_misses n e is none =
      lone kind.CommonOrEntity n e _ (refused_of (resolving names (named kind.CommonOrEntity n)) (λ m. variant.EntityOrCommon m) e (sym (through-EntityOrCommon (resolving names) n) ∙ is))
      (ap references (variant_either reference_of (variant.EntityOrCommon n) n refl)) none

  attribute_misses : (t : SchemaType ConditionalName) (annotations : Annotations) (required : Bool) → P1 t → P4 (attribute_of t annotations required)
  attribute_misses t annotations required ih e is none =
      ih e (refused_of (through_type (resolving names) t) (λ u. attribute_of u annotations required) e (sym (through-attribute_of (resolving names) t annotations required) ∙ is))
      (same_found _ _ (ap (λ a. a.1) (attribute_seen reference_of t annotations required)) none)

  -- references in two parts
  parts_found : (xs ys : List NameReference) → Found (xs ++ ys) → Found xs × Found ys
  parts_found xs ys none = both_empty (undefined names xs) (undefined names ys) (sym (filter-append (λ r. is_none (target names r)) xs ys) ∙ none)

  abbrev given : List (List ℕ × TypeOfAttribute ConditionalName) → WrittenAttributes NameReference
  given es = written_attributes (map_values (written_attribute reference_of) es)

  each_misses : (es : List (List ℕ × TypeOfAttribute ConditionalName)) → AllByRecursion {X = List ℕ × TypeOfAttribute ConditionalName} (λ e. P4 e.1) es
      → (e : SchemaError) → all_values (map_values (through_attribute (resolving names)) es) ≡ Err e → Found (attribute_references (given es)) → ⊥
  each_misses [] all e is none = not_both [] e is
  each_misses (a ∷ es) all e is none =
      by (λ others. each_misses es all.1 e others both.1) (one_refused (through_attribute (resolving names) a.1) (all_values (map_values (through_attribute (resolving names)) es)) (λ v vs. (a.0, v) ∷ vs) e is)
    where
      both : Found (references (written_attribute reference_of a.1).1) × Found (attribute_references (given es))
      both = parts_found (references (written_attribute reference_of a.1).1) (attribute_references (given es)) none

      by : (all_values (map_values (through_attribute (resolving names)) es) ≡ Err e → ⊥) → (through_attribute (resolving names) a.1 ≡ Err e) ⊎ (all_values (map_values (through_attribute (resolving names)) es) ≡ Err e) → ⊥
      by rest (inl first) = all.0 e first both.0
      by rest (inr others) = rest others

  attributes_miss : (es : List (List ℕ × TypeOfAttribute ConditionalName)) (additional : Bool) → AllByRecursion {X = List ℕ × TypeOfAttribute ConditionalName} (λ e. P4 e.1) es → P3 (record_of es additional)
  attributes_miss es additional all e is none =
      each_misses es all e (refused_of (all_values (map_values (through_attribute (resolving names)) es)) (λ us. record_of us additional) e (sym (through-record_of (resolving names) es additional) ∙ is))
      (same_found _ _ (attributes_seen reference_of es additional) none)

  type_refused : (t : SchemaType ConditionalName) → P1 t
  type_refused = by_cases P1 P2 P3 P4 (record {
    of_variant = variant_misses;
    of_common = common_misses;
    of_string = λ e is none. not_both variant.String e (sym (through-String (resolving names)) ∙ is);
    of_long = λ e is none. not_both variant.Long e (sym (through-Long (resolving names)) ∙ is);
    of_boolean = λ e is none. not_both variant.Boolean e (sym (through-Boolean (resolving names)) ∙ is);
    of_set = set_misses;
    of_record = record_misses;
    of_entity = entity_misses;
    of_entity_or_common = either_misses;
    of_extension = λ id e is none. not_both (variant.Extension id) e (sym (through-Extension (resolving names) id) ∙ is);
    of_attributes = attributes_miss;
    of_attribute = attribute_misses;
  })

  -- a type
  pub type_misses : (t : SchemaType ConditionalName) (e : SchemaError) → through_type (resolving names) t ≡ Err e → missing_in names (type_in t) ≡ [] → ⊥
  type_misses t e is none = type_refused t e is (none_first (undefined names (references (type_in t))) none)

  -- the types of a map
  pub one_misses : {K : Type 0} (es : List (K × SchemaType ConditionalName)) (e : SchemaError) → all_values (map_values (through_type (resolving names)) es) ≡ Err e
      → flat_map (λ e. missing_in names (type_in e.1)) es ≡ [] → ⊥
  one_misses [] e is none = not_both [] e is
  one_misses (t ∷ es) e is none =
      by (λ others. one_misses es e others both.1) (one_refused (through_type (resolving names) t.1) (all_values (map_values (through_type (resolving names)) es)) (λ v vs. (t.0, v) ∷ vs) e is)
    where
      both : (missing_in names (type_in t.1) ≡ []) × (flat_map (λ e. missing_in names (type_in e.1)) es ≡ [])
      both = both_empty (missing_in names (type_in t.1)) (flat_map (λ e. missing_in names (type_in e.1)) es) none

      by : (all_values (map_values (through_type (resolving names)) es) ≡ Err e → ⊥) → (through_type (resolving names) t.1 ≡ Err e) ⊎ (all_values (map_values (through_type (resolving names)) es) ≡ Err e) → ⊥
      by rest (inl first) = type_misses t.1 e first both.0
      by rest (inr others) = rest others
