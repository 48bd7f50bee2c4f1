-- SPDX-License-Identifier: Apache-2.0
-- A type whose references become their targets qualifies to what it becomes.
use Rattle.std.proofs.Common.{◌≡◌, ℕ, Bool, List, [], ◌∷◌, map, Option, Some, None, option_map, refl, sym, ap, ◌∙◌, subst}
use Rattle.std.specs.List.{AllByRecursion, AllZip}
use Rattle.std.specs.declared.result.Result.TheVariants.{Ok}
use Rattle.cedar_data.specs.Maps.{map_values}
use Rattle.cedar_missing.proofs.of_declared.FoundTargets.{type_found}
use Rattle.cedar_missing.specs.of_declared.Names.{Names, target}
use Rattle.cedar_missing.specs.of_declared.Targets.{found, or_refused, resolving}
use Rattle.cedar_names.specs.Components.{components}
use Rattle.cedar_names.specs.declared.annotation.Annotations.{Annotations}
use Rattle.cedar_names.specs.declared.id.UnreservedId.{UnreservedId}
use Rattle.cedar_names.specs.declared.internal_name.InternalName.{InternalName}
use Rattle.cedar_schema_error.specs.FullNames.{FullName}
use Rattle.cedar_schema_error.specs.NameReferences.{NameReference, reference_of}
use Rattle.cedar_schema_error.specs.declared.schema_error.SchemaError.{SchemaError}
use Rattle.cedar_schema_error.specs.declared.schema_error.SchemaError.TheVariants.{TypeNotDefined}
use Rattle.cedar_text.specs.declared.location.Loc.{Loc}
use Rattle.cedar_world.proofs.of_unfold.SchemaTypes.{is_common, type_is, variant_boolean, variant_either, variant_entity, variant_extension, variant_long, variant_set, variant_string}
use Rattle.cedar_world.specs.of_unfold.Written.{Written, WrittenAttributes, attribute, no_attributes}
use Rattle.cedar_world.specs.of_unfold.WrittenViews.{attribute_view, record_view, type_view, variant_view, written_attribute, written_attributes, written_record, written_type, written_variant}
use Rattle.cedar_world.specs.DefinitionViews.{type_in}
use Rattle.cedar_world.specs.Qualified.{Qualifies, QualifiesAt, QualifiesEach, boolean, common, each, either, entity, extension, long, none, record_of, set, string}
use Rattle.cedar_written.proofs.ThroughEquations.{through-Boolean, through-CommonTypeRef, through-Entity, through-EntityOrCommon, through-Extension, through-Long, through-Record, through-Set, through-String, through-Variant, through-attribute_of, through-record_of}
use Rattle.cedar_written.proofs.TypeFolds.{fold-Record, fold-attribute_of, fold-record_of}
use Rattle.cedar_written.proofs.TypeInduction.{attribute_of, by_cases}
use Rattle.cedar_written.proofs.TypeInduction as made
use Rattle.cedar_written.specs.Answers.{all_values}
use Rattle.cedar_written.specs.Possibilities.{leading}
use Rattle.cedar_written.specs.Reference.{named}
use Rattle.cedar_written.specs.Through.{through_attribute, through_record, through_type, through_variant}
use Rattle.cedar_written.specs.declared.conditional_name.ConditionalName.{ConditionalName}
use Rattle.cedar_written.specs.declared.reference_type.ReferenceType.{ReferenceType}
use Rattle.cedar_written.specs.declared.reference_type.ReferenceType.TheVariants as kind
use Rattle.cedar_written.specs.declared.ty.RecordType.{RecordType}
use Rattle.cedar_written.specs.declared.ty.SchemaType.{SchemaType}
use Rattle.cedar_written.specs.declared.ty.SchemaType.TheVariants as type
use Rattle.cedar_written.specs.declared.ty.TypeOfAttribute.{TypeOfAttribute}
use Rattle.cedar_written.specs.declared.ty.TypeVariant.{TypeVariant}
use Rattle.cedar_written.specs.declared.ty.TypeVariant.TheVariants as variant
use Rattle.cedar_qualified.proofs.Results.{inside_ok, not_both, value_of}

module _ {N M : Type 0} (name : N → M) where
  -- a record, with its attributes, and an attribute, as they are written
  pub record_seen : (r : RecordType N) → written_variant name (variant.Record r) ≡ written_record name r
  record_seen r = fold-Record (type_view name) (variant_view name) (record_view name) (attribute_view name) r

  pub attributes_seen : (es : List (List ℕ × TypeOfAttribute N)) (additional : Bool)
      → written_record name (made.record_of es additional) ≡ record_view name (record { attributes = map_values (written_attribute name) es; additional_attributes = additional })
  attributes_seen es additional = fold-record_of (type_view name) (variant_view name) (record_view name) (attribute_view name) es additional

  pub attribute_seen : (t : SchemaType N) (annotations : Annotations) (required : Bool) → written_attribute name (attribute_of t annotations required) ≡ (required, written_type name t)
  attribute_seen t annotations required = fold-attribute_of (type_view name) (variant_view name) (record_view name) (attribute_view name) t annotations required

found_by : (e : SchemaError) (o : Option InternalName) (m : InternalName) → or_refused e o ≡ Ok m → o ≡ Some m
found_by e None m is = absurd (not_both m e (sym is))
found_by e (Some n) m is = ap Some (inside_ok {E = SchemaError} n m is)

module _ (names : Names) where
  -- a reference that becomes a name has it as its target
  targeted : (k : ReferenceType) (n : ConditionalName) (m : InternalName) → resolving names (named k n) ≡ Ok m → target names (reference_of n) ≡ Some (components m)
  targeted k n m is = type_found names n ∙ ap (option_map components) (found_by (TypeNotDefined (record { undefined_types = leading n [] })) (found names n) m is)

  moved : (t t' : Written NameReference) (u u' : Written FullName) → t ≡ t' → u ≡ u' → Qualifies (target names) t' u' → Qualifies (target names) t u
  moved t t' u u' p q h = subst (λ t. Qualifies (target names) t u) (sym p) (subst (λ u. Qualifies (target names) t' u) (sym q) h)

  abbrev P1 : SchemaType ConditionalName → Type 0
  P1 t = (u : SchemaType InternalName) → through_type (resolving names) t ≡ Ok u → Qualifies (target names) (written_type reference_of t) (written_type components u)

  abbrev P2 : TypeVariant ConditionalName → Type 0
  P2 v = (w : TypeVariant InternalName) → through_variant (resolving names) v ≡ Ok w → Qualifies (target names) (written_variant reference_of v) (written_variant components w)

  abbrev P3 : RecordType ConditionalName → Type 0
  P3 r = (s : RecordType InternalName) → through_record (resolving names) r ≡ Ok s → Qualifies (target names) (written_record reference_of r) (written_record components s)

  abbrev P4 : TypeOfAttribute ConditionalName → Type 0
  P4 a = (b : TypeOfAttribute InternalName) → through_attribute (resolving names) a ≡ Ok b
      → ((written_attribute components b).0 ≡ (written_attribute reference_of a).0) × Qualifies (target names) (written_attribute reference_of a).1 (written_attribute components b).1

  variant_walked : (v : TypeVariant ConditionalName) (loc : Option Loc) → P2 v → P1 (type.Variant v loc)
  variant_walked v loc ih u is =
      let whole = value_of (through_variant (resolving names) v) (λ w. Ok (type.Variant w loc)) u (sym (through-Variant (resolving names) v loc) ∙ is) in
      moved _ (written_variant reference_of v) _ (written_variant components whole.0)
      (type_is reference_of (type.Variant v loc) v loc (written_variant reference_of v) refl refl)
      (type_is components u whole.0 loc (written_variant components whole.0) (sym (inside_ok {E = SchemaError} (type.Variant whole.0 loc) u whole.2)) refl)
      (ih whole.0 whole.1)

  common_walked : (n : ConditionalName) (loc : Option Loc) → P1 (type.CommonTypeRef n loc)
  common_walked n loc u is =
      let whole = value_of (resolving names (named kind.Common n)) (λ m. Ok (type.CommonTypeRef m loc)) u (sym (through-CommonTypeRef (resolving names) n loc) ∙ is) in
      moved _ _ _ _
      (is_common reference_of (type.CommonTypeRef n loc) n loc refl)
      (is_common components u whole.0 loc (sym (inside_ok {E = SchemaError} (type.CommonTypeRef whole.0 loc) u whole.2)))
      (common (targeted kind.Common n whole.0 whole.1))

  string_walked : P2 variant.String
  string_walked w is =
      moved _ _ _ _ (variant_string reference_of variant.String refl)
      (variant_string components w (sym (inside_ok {E = SchemaError} variant.String w (sym (through-String (resolving names)) ∙ is)))) string

  long_walked : P2 variant.Long
  long_walked w is =
      moved _ _ _ _ (variant_long reference_of variant.Long refl)
      (variant_long components w (sym (inside_ok {E = SchemaError} variant.Long w (sym (through-Long (resolving names)) ∙ is)))) long

  boolean_walked : P2 variant.Boolean
  boolean_walked w is =
      moved _ _ _ _ (variant_boolean reference_of variant.Boolean refl)
      (variant_boolean components w (sym (inside_ok {E = SchemaError} variant.Boolean w (sym (through-Boolean (resolving names)) ∙ is)))) boolean

  set_walked : (t : SchemaType ConditionalName) → P1 t → P2 (variant.Set t)
  set_walked t ih w is =
      let whole = value_of (through_type (resolving names) t) (λ u. Ok (variant.Set u)) w (sym (through-Set (resolving names) t) ∙ is) in
      moved _ _ _ _
      (variant_set reference_of (variant.Set t) t refl)
      (variant_set components w whole.0 (sym (inside_ok {E = SchemaError} (variant.Set whole.0) w whole.2)))
      (set (ih whole.0 whole.1))

  record_walked : (r : RecordType ConditionalName) → P3 r → P2 (variant.Record r)
  record_walked r ih w is =
      let whole = value_of (through_record (resolving names) r) (λ s. Ok (variant.Record s)) w (sym (through-Record (resolving names) r) ∙ is) in
      moved _ (written_record reference_of r) _ (written_record components whole.0)
      (record_seen reference_of r)
      (ap (written_variant components) (sym (inside_ok {E = SchemaError} (variant.Record whole.0) w whole.2)) ∙ record_seen components whole.0)
      (ih whole.0 whole.1)

  entity_walked : (n : ConditionalName) → P2 (variant.Entity n)
  entity_walked n w is =
      let whole = value_of (resolving names (named kind.Entity n)) (λ m. Ok (variant.Entity m)) w (sym (through-Entity (resolving names) n) ∙ is) in
      moved _ _ _ _
      (variant_entity reference_of (variant.Entity n) n refl)
      (variant_entity components w whole.0 (sym (inside_ok {E = SchemaError} (variant.Entity whole.0) w whole.2)))
      (entity (targeted kind.Entity n whole.0 whole.1))

  either_walked : (n : ConditionalName) → P2 (variant.EntityOrCommon n)
  either_walked n w is =
      let whole = value_of (resolving names (named kind.CommonOrEntity n)) (λ m. Ok (variant.EntityOrCommon m)) w (sym (through-EntityOrCommon (resolving names) n) ∙ is) in
      moved _ _ _ _
      (variant_either reference_of (variant.EntityOrCommon n) n refl)
      (variant_either components w whole.0 (sym (inside_ok {E = SchemaError} (variant.EntityOrCommon whole.0) w whole.2)))
      (either (targeted kind.CommonOrEntity n whole.0 whole.1))

  extension_walked : (id : UnreservedId) → P2 (variant.Extension id)
  extension_walked id w is =
      moved _ _ _ _ (variant_extension reference_of (variant.Extension id) id refl)
      (variant_extension components w id (sym (inside_ok {E = SchemaError} (variant.Extension id) w (sym (through-Extension (resolving names) id) ∙ is)))) extension

  attribute_walked : (t : SchemaType ConditionalName) (annotations : Annotations) (required : Bool) → P1 t → P4 (attribute_of t annotations required)
  attribute_walked t annotations required ih b is =
      let whole = value_of (through_type (resolving names) t) (λ u. Ok (attribute_of u annotations required)) b (sym (through-attribute_of (resolving names) t annotations required) ∙ is) in
      let there : written_attribute components b ≡ (required, written_type components whole.0) =
      ap (written_attribute components) (sym (inside_ok {E = SchemaError} (attribute_of whole.0 annotations required) b whole.2)) ∙ attribute_seen components whole.0 annotations required in
      let here : written_attribute reference_of (attribute_of t annotations required) ≡ (required, written_type reference_of t) = attribute_seen reference_of t annotations required in
      (ap (λ a. a.0) there ∙ sym (ap (λ a. a.0) here), moved _ _ _ _ (ap (λ a. a.1) here) (ap (λ a. a.1) there) (ih whole.0 whole.1))

  -- attributes by name
  abbrev shown : List (List ℕ × TypeOfAttribute InternalName) → WrittenAttributes FullName
  shown us = written_attributes (map_values (written_attribute components) us)

  abbrev given : List (List ℕ × TypeOfAttribute ConditionalName) → WrittenAttributes NameReference
  given es = written_attributes (map_values (written_attribute reference_of) es)

  each_walked : (es : List (List ℕ × TypeOfAttribute ConditionalName)) → AllByRecursion {X = List ℕ × TypeOfAttribute ConditionalName} (λ e. P4 e.1) es → (us : List (List ℕ × TypeOfAttribute InternalName))
      → all_values (map_values (through_attribute (resolving names)) es) ≡ Ok us → QualifiesEach (target names) (given es) (shown us)
  each_walked [] all us is = subst (λ us. QualifiesEach (target names) no_attributes (shown us)) (inside_ok {E = SchemaError} [] us is) none
  each_walked (e ∷ es) all us is =
      let first = value_of (through_attribute (resolving names) e.1) _ us is in
      let others = value_of (all_values (map_values (through_attribute (resolving names)) es)) _ us first.2 in
      let here = all.0 first.0 first.1 in
      subst (λ us. QualifiesEach (target names) (given (e ∷ es)) (shown us)) (inside_ok {E = SchemaError} ((e.0, first.0) ∷ others.0) us others.2)
      (subst (λ b. QualifiesEach (target names) (given (e ∷ es)) (attribute e.0 b (written_attribute components first.0).1 (shown others.0))) (sym here.0)
      (each here.1 (each_walked es all.1 others.0 others.1)))

  attributes_walked : (es : List (List ℕ × TypeOfAttribute ConditionalName)) (additional : Bool) → AllByRecursion {X = List ℕ × TypeOfAttribute ConditionalName} (λ e. P4 e.1) es → P3 (made.record_of es additional)
  attributes_walked es additional all s is =
      let whole = value_of (all_values (map_values (through_attribute (resolving names)) es)) (λ us. Ok (made.record_of us additional)) s (sym (through-record_of (resolving names) es additional) ∙ is) in
      moved _ _ _ _
      (attributes_seen reference_of es additional)
      (ap (written_record components) (sym (inside_ok {E = SchemaError} (made.record_of whole.0 additional) s whole.2)) ∙ attributes_seen components whole.0 additional)
      (record_of (each_walked es all whole.0 whole.1))

  -- a type
  pub type_walked : (t : SchemaType ConditionalName) (u : SchemaType InternalName) → through_type (resolving names) t ≡ Ok u → Qualifies (target names) (type_in t) (written_type components u)
  type_walked = by_cases P1 P2 P3 P4 (record {
    of_variant = variant_walked;
    of_common = common_walked;
    of_string = string_walked;
    of_long = long_walked;
    of_boolean = boolean_walked;
    of_set = set_walked;
    of_record = record_walked;
    of_entity = entity_walked;
    of_entity_or_common = either_walked;
    of_extension = extension_walked;
    of_attributes = attributes_walked;
    of_attribute = attribute_walked;
  })

  module _ {K J : Type 0} (f : K → J) where
    abbrev before : List (K × SchemaType ConditionalName) → List (J × Written NameReference)
    before es = map (λ e. (f e.0, type_in e.1)) es

    abbrev after : List (K × SchemaType InternalName) → List (J × Written FullName)
    after us = map (λ e. (f e.0, written_type components e.1)) us

    -- the types of a map
    pub all_walked : (es : List (K × SchemaType ConditionalName)) (us : List (K × SchemaType InternalName)) → all_values (map_values (through_type (resolving names)) es) ≡ Ok us
        → AllZip (QualifiesAt (target names)) (before es) (after us)
    all_walked [] us is = subst (λ us. AllZip (QualifiesAt (target names)) (before []) (after us)) (inside_ok {E = SchemaError} [] us is) tt
    all_walked (e ∷ es) us is =
        let first = value_of (through_type (resolving names) e.1) _ us is in
        let others = value_of (all_values (map_values (through_type (resolving names)) es)) _ us first.2 in
        subst (λ us. AllZip (QualifiesAt (target names)) (before (e ∷ es)) (after us)) (inside_ok {E = SchemaError} ((e.0, first.0) ∷ others.0) us others.2)
        ((refl, type_walked e.1 first.0 first.1), all_walked es others.0 others.1)
