-- SPDX-License-Identifier: Apache-2.0
-- A type whose references get the names that they may stand for in a namespace is the type that the fragment has, in that namespace.
use Rattle.std.proofs.Common.{◌≡◌, ℕ, Bool, List, [], ◌∷◌, Option, refl, sym, ap, ◌∙◌}
use Rattle.std.specs.List.{AllByRecursion}
use Rattle.cedar_data.specs.Maps.{map_values}
use Rattle.cedar_text.specs.declared.location.Loc.{Loc}
use Rattle.cedar_names.specs.declared.annotation.Annotations.{Annotations}
use Rattle.cedar_names.specs.declared.id.UnreservedId.{UnreservedId}
use Rattle.cedar_names.specs.declared.internal_name.InternalName.{InternalName}
use Rattle.cedar_written.proofs.ThroughEquations.{through-Boolean, through-CommonTypeRef, through-Entity, through-EntityOrCommon, through-Extension, through-Long, through-Record, through-Set, through-String, through-Variant, through-attribute_of, through-record_of}
use Rattle.cedar_written.proofs.TypeFolds.{fold-Boolean, fold-CommonTypeRef, fold-Entity, fold-EntityOrCommon, fold-Extension, fold-Long, fold-Record, fold-Set, fold-String, fold-Variant, fold-attribute_of, fold-record_of}
use Rattle.cedar_written.proofs.TypeInduction as made
use Rattle.cedar_written.proofs.TypeInduction.{attribute_of, by_cases}
use Rattle.cedar_written.specs.Answers.{all_values}
use Rattle.cedar_written.specs.Possibilities.{conditional}
use Rattle.cedar_written.specs.Qualifying.{qualifying}
use Rattle.cedar_written.specs.Through.{through_attribute, through_record, through_type, through_variant}
use Rattle.cedar_written.specs.declared.conditional_name.ConditionalName.{ConditionalName}
use Rattle.cedar_written.specs.declared.raw_name.RawName.{RawName}
use Rattle.cedar_written.specs.declared.reference_type.ReferenceType.TheVariants as kind
use Rattle.cedar_written.specs.declared.ty.RecordType.{RecordType}
use Rattle.cedar_written.specs.declared.ty.SchemaType.{SchemaType}
use Rattle.cedar_written.specs.declared.ty.SchemaType.TheVariants as type
use Rattle.cedar_written.specs.declared.ty.TypeOfAttribute.{TypeOfAttribute}
use Rattle.cedar_written.specs.declared.ty.TypeVariant.{TypeVariant}
use Rattle.cedar_written.specs.declared.ty.TypeVariant.TheVariants as variant
use Rattle.cedar_schema_error.specs.NameReferences.{reference_of}
use Rattle.cedar_namespace_definitions.specs.Definitions.{sure}
use Rattle.cedar_world.proofs.of_unfold.SchemaTypes.{is_common, type_is, variant_boolean, variant_either, variant_entity, variant_extension, variant_long, variant_set, variant_string}
use Rattle.cedar_world.specs.of_unfold.Written.{Set, Record, Entity, EntityOrCommon, CommonTypeRef, attribute}
use Rattle.cedar_world.specs.of_unfold.WrittenViews.{attribute_view, record_view, type_view, variant_view, written_attribute, written_attributes, written_record}
use Rattle.cedar_world.specs.DefinitionViews.{type_in, variant_in}
use Rattle.cedar_convert_fragment.specs.Fragments.{FieldAt, fields}
use Rattle.cedar_convert_fragment.specs.Views.{attribute_seen, form_seen, record_seen, see_attribute, see_form, see_record, see_type, type_seen}
use Rattle.cedar_fragment_world.specs.FragmentWorlds.{fields_of, form_of, type_of}
use Rattle.cedar_fragment_world.proofs.NamesSeen.{referred, words_of}
use Rattle.cedar_namespace_definitions.proofs.SureSteps.{sure_one, sure_values}

module _ (ns : Option InternalName) where
  -- what comes of a type and of its parts
  abbrev made_type : SchemaType RawName → SchemaType ConditionalName
  made_type t = sure (through_type (qualifying ns) t)

  abbrev made_variant : TypeVariant RawName → TypeVariant ConditionalName
  made_variant v = sure (through_variant (qualifying ns) v)

  abbrev made_record : RecordType RawName → RecordType ConditionalName
  made_record r = sure (through_record (qualifying ns) r)

  abbrev made_attribute : TypeOfAttribute RawName → TypeOfAttribute ConditionalName
  made_attribute a = sure (through_attribute (qualifying ns) a)

  abbrev P1 : SchemaType RawName → Type 0
  P1 t = type_in (made_type t) ≡ type_of (words_of ns) (type_seen t)

  abbrev P2 : TypeVariant RawName → Type 0
  P2 v = variant_in (made_variant v) ≡ form_of (words_of ns) (form_seen v)

  abbrev P3 : RecordType RawName → Type 0
  P3 r = written_record reference_of (made_record r) ≡ form_of (words_of ns) (record_seen r)

  abbrev P4 : TypeOfAttribute RawName → Type 0
  P4 a = written_attribute reference_of (made_attribute a) ≡ ((attribute_seen a).required, type_of (words_of ns) (attribute_seen a).ty)

  variant_alike : (v : TypeVariant RawName) (loc : Option Loc) → P2 v → P1 (type.Variant v loc)
  variant_alike v loc same =
      ap type_in (ap sure (through-Variant (qualifying ns) v loc) ∙ sure_one (through_variant (qualifying ns) v) (λ v. type.Variant v loc))
      ∙ type_is reference_of (type.Variant (made_variant v) loc) (made_variant v) loc (form_of (words_of ns) (form_seen v)) refl same
      ∙ sym (ap (type_of (words_of ns)) (fold-Variant see_type see_form see_record see_attribute v loc))

  common_alike : (name : RawName) (loc : Option Loc) → P1 (type.CommonTypeRef name loc)
  common_alike name loc =
      ap (λ r. type_in (sure r)) (through-CommonTypeRef (qualifying ns) name loc)
      ∙ is_common reference_of (type.CommonTypeRef (conditional ns kind.Common name) loc) (conditional ns kind.Common name) loc refl
      ∙ ap CommonTypeRef (referred ns kind.Common name)
      ∙ sym (ap (type_of (words_of ns)) (fold-CommonTypeRef see_type see_form see_record see_attribute name loc))

  string_alike : P2 variant.String
  string_alike =
      ap (λ r. variant_in (sure r)) (through-String (qualifying ns)) ∙ variant_string reference_of variant.String refl
      ∙ sym (ap (form_of (words_of ns)) (fold-String see_type see_form see_record see_attribute))

  long_alike : P2 variant.Long
  long_alike =
      ap (λ r. variant_in (sure r)) (through-Long (qualifying ns)) ∙ variant_long reference_of variant.Long refl
      ∙ sym (ap (form_of (words_of ns)) (fold-Long see_type see_form see_record see_attribute))

  boolean_alike : P2 variant.Boolean
  boolean_alike =
      ap (λ r. variant_in (sure r)) (through-Boolean (qualifying ns)) ∙ variant_boolean reference_of variant.Boolean refl
      ∙ sym (ap (form_of (words_of ns)) (fold-Boolean see_type see_form see_record see_attribute))

  set_alike : (t : SchemaType RawName) → P1 t → P2 (variant.Set t)
  set_alike t same =
      ap variant_in (ap sure (through-Set (qualifying ns) t) ∙ sure_one (through_type (qualifying ns) t) (λ t. variant.Set t))
      ∙ variant_set reference_of (variant.Set (made_type t)) (made_type t) refl
      ∙ ap Set same
      ∙ sym (ap (form_of (words_of ns)) (fold-Set see_type see_form see_record see_attribute t))

  record_alike : (r : RecordType RawName) → P3 r → P2 (variant.Record r)
  record_alike r same =
      ap variant_in (ap sure (through-Record (qualifying ns) r) ∙ sure_one (through_record (qualifying ns) r) (λ r. variant.Record r))
      ∙ fold-Record (type_view reference_of) (variant_view reference_of) (record_view reference_of) (attribute_view reference_of) (made_record r)
      ∙ same
      ∙ sym (ap (form_of (words_of ns)) (fold-Record see_type see_form see_record see_attribute r))

  entity_alike : (name : RawName) → P2 (variant.Entity name)
  entity_alike name =
      ap (λ r. variant_in (sure r)) (through-Entity (qualifying ns) name)
      ∙ variant_entity reference_of (variant.Entity (conditional ns kind.Entity name)) (conditional ns kind.Entity name) refl
      ∙ ap Entity (referred ns kind.Entity name)
      ∙ sym (ap (form_of (words_of ns)) (fold-Entity see_type see_form see_record see_attribute name))

  either_alike : (name : RawName) → P2 (variant.EntityOrCommon name)
  either_alike name =
      ap (λ r. variant_in (sure r)) (through-EntityOrCommon (qualifying ns) name)
      ∙ variant_either reference_of (variant.EntityOrCommon (conditional ns kind.CommonOrEntity name)) (conditional ns kind.CommonOrEntity name) refl
      ∙ ap EntityOrCommon (referred ns kind.CommonOrEntity name)
      ∙ sym (ap (form_of (words_of ns)) (fold-EntityOrCommon see_type see_form see_record see_attribute name))

  extension_alike : (id : UnreservedId) → P2 (variant.Extension id)
  extension_alike id =
      ap (λ r. variant_in (sure r)) (through-Extension (qualifying ns) id) ∙ variant_extension reference_of (variant.Extension id) id refl
      ∙ sym (ap (form_of (words_of ns)) (fold-Extension see_type see_form see_record see_attribute id))

  -- attributes by name
  each_alike : (es : List (List ℕ × TypeOfAttribute RawName)) → AllByRecursion {X = List ℕ × TypeOfAttribute RawName} (λ e. P4 e.1) es
      → written_attributes (map_values (written_attribute reference_of) (map_values made_attribute es)) ≡ fields_of (words_of ns) (fields (map_values attribute_seen es))
  each_alike [] all = refl
  each_alike (e ∷ es) all = λ i. attribute e.0 (all.0 i).0 (all.0 i).1 (each_alike es all.1 i)

  attributes_alike : (es : List (List ℕ × TypeOfAttribute RawName)) (additional : Bool) → AllByRecursion {X = List ℕ × TypeOfAttribute RawName} (λ e. P4 e.1) es → P3 (made.record_of es additional)
  attributes_alike es additional all =
      ap (written_record reference_of) (ap sure (through-record_of (qualifying ns) es additional)
      ∙ sure_one (all_values (map_values (through_attribute (qualifying ns)) es)) (λ es. made.record_of es additional)
      ∙ ap (λ es. made.record_of es additional) (sure_values (through_attribute (qualifying ns)) es))
      ∙ fold-record_of (type_view reference_of) (variant_view reference_of) (record_view reference_of) (attribute_view reference_of) (map_values made_attribute es) additional
      ∙ ap (λ parts. Record parts additional) (each_alike es all)
      ∙ sym (ap (form_of (words_of ns)) (fold-record_of see_type see_form see_record see_attribute es additional))

  attribute_alike : (t : SchemaType RawName) (annotations : Annotations) (required : Bool) → P1 t → P4 (attribute_of t annotations required)
  attribute_alike t annotations required same =
      ap (written_attribute reference_of) (ap sure (through-attribute_of (qualifying ns) t annotations required) ∙ sure_one (through_type (qualifying ns) t) (λ t. attribute_of t annotations required))
      ∙ fold-attribute_of (type_view reference_of) (variant_view reference_of) (record_view reference_of) (attribute_view reference_of) (made_type t) annotations required
      ∙ ap (λ ty. (required, ty)) same
      ∙ sym (ap (λ (a : FieldAt). (a.required, type_of (words_of ns) a.ty)) (fold-attribute_of see_type see_form see_record see_attribute t annotations required))

  -- a type
  pub type_alike : (t : SchemaType RawName) → type_in (sure (through_type (qualifying ns) t)) ≡ type_of (words_of ns) (type_seen t)
  type_alike = by_cases P1 P2 P3 P4 (record {
    of_variant = variant_alike;
    of_common = common_alike;
    of_string = string_alike;
    of_long = long_alike;
    of_boolean = boolean_alike;
    of_set = set_alike;
    of_record = record_alike;
    of_entity = entity_alike;
    of_entity_or_common = either_alike;
    of_extension = extension_alike;
    of_attributes = attributes_alike;
    of_attribute = attribute_alike;
  })
