-- SPDX-License-Identifier: Apache-2.0
-- A type without its places is the same type of a namespace.
use Rattle.std.proofs.Common.{◌≡◌, ℕ, Bool, List, [], ◌∷◌, Option, None, refl, sym, ap, ◌∙◌}
use Rattle.std.specs.List.{AllByRecursion}
use Rattle.cedar_data.specs.Maps.{map_values}
use Rattle.cedar_text.specs.declared.location.Loc.{Loc}
use Rattle.cedar_names.specs.declared.annotation.Annotations.{Annotations}
use Rattle.cedar_names.specs.declared.id.UnreservedId.{UnreservedId}
use Rattle.cedar_written.proofs.TypeFolds.{fold-Boolean, fold-CommonTypeRef, fold-Entity, fold-EntityOrCommon, fold-Extension, fold-Long, fold-Record, fold-Set, fold-String, fold-Variant, fold-attribute_of, fold-record_of}
use Rattle.cedar_written.proofs.TypeInduction as made
use Rattle.cedar_written.proofs.TypeInduction.{attribute_of, by_cases}
use Rattle.cedar_written.specs.WrittenTypes.{TypeLayer, VariantLayer}
use Rattle.cedar_written.specs.declared.raw_name.RawName.{RawName}
use Rattle.cedar_written.specs.declared.ty.RecordType.{RecordType}
use Rattle.cedar_written.specs.declared.ty.SchemaType.{SchemaType, roll-SchemaType, map-SchemaType, fold-roll-SchemaType}
use Rattle.cedar_written.specs.declared.ty.SchemaType.TheOpen as layer
use Rattle.cedar_written.specs.declared.ty.SchemaType.TheVariants as type
use Rattle.cedar_written.specs.declared.ty.TypeOfAttribute.{TypeOfAttribute}
use Rattle.cedar_written.specs.declared.ty.TypeVariant.{TypeVariant, roll-TypeVariant, map-TypeVariant, fold-roll-TypeVariant}
use Rattle.cedar_written.specs.declared.ty.TypeVariant.TheVariants as variant
use Rattle.cedar_schema_error.specs.FullNames.{FullName}
use Rattle.cedar_schema_error.specs.NameReferences.{NameReference}
use Rattle.cedar_unfold.specs.Written.{Written, Set, Record, attribute}
use Rattle.cedar_convert_fragment.specs.Fragments.{FieldAt, Form, TypeAt, fields}
use Rattle.cedar_convert_fragment.specs.Views.{attribute_seen, form_seen, record_seen, see_attribute, see_form, see_record, see_type, type_seen}
use Rattle.cedar_fragment_world.specs.FragmentWorlds.{fields_of, form_of, type_of}
use Rattle.cedar_json_written_laws.specs.Unplaced as bare
use Rattle.cedar_json_written_laws.specs.Unplaced.{annotations_unplaced, attribute_unplaced, name_unplaced, record_unplaced, type_unplaced, variant_unplaced}

-- a type that is made of one layer, as it is seen
type_shown : (l : TypeLayer RawName) → type_seen (roll-SchemaType RawName l)
    ≡ see_type (map-SchemaType RawName (SchemaType RawName) (TypeVariant RawName) (RecordType RawName) (TypeOfAttribute RawName) TypeAt Form Form FieldAt type_seen form_seen record_seen attribute_seen l)
type_shown l = fold-roll-SchemaType RawName TypeAt Form Form FieldAt see_type see_form see_record see_attribute l

variant_shown : (l : VariantLayer RawName) → form_seen (roll-TypeVariant RawName l)
    ≡ see_form (map-TypeVariant RawName (SchemaType RawName) (TypeVariant RawName) (RecordType RawName) (TypeOfAttribute RawName) TypeAt Form Form FieldAt type_seen form_seen record_seen attribute_seen l)
variant_shown l = fold-roll-TypeVariant RawName TypeAt Form Form FieldAt see_type see_form see_record see_attribute l

module _ (ns : Option FullName) where
  abbrev seen : SchemaType RawName → Written NameReference
  seen t = type_of ns (type_seen t)

  abbrev seen_form : TypeVariant RawName → Written NameReference
  seen_form v = form_of ns (form_seen v)

  abbrev seen_record : RecordType RawName → Written NameReference
  seen_record r = form_of ns (record_seen r)

  abbrev of_field : FieldAt → Bool × Written NameReference
  of_field a = (a.required, type_of ns a.ty)

  abbrev seen_attribute : TypeOfAttribute RawName → Bool × Written NameReference
  seen_attribute a = of_field (attribute_seen a)

  abbrev P1 : SchemaType RawName → Type 0
  P1 t = seen (type_unplaced t) ≡ seen t

  abbrev P2 : TypeVariant RawName → Type 0
  P2 v = seen_form (variant_unplaced v) ≡ seen_form v

  abbrev P3 : RecordType RawName → Type 0
  P3 r = seen_record (record_unplaced r) ≡ seen_record r

  abbrev P4 : TypeOfAttribute RawName → Type 0
  P4 a = seen_attribute (attribute_unplaced a) ≡ seen_attribute a

  variant_alike : (v : TypeVariant RawName) (loc : Option Loc) → P2 v → P1 (type.Variant v loc)
  variant_alike v loc same =
      ap seen (fold-Variant bare.type_step bare.variant_step bare.record_step bare.attribute_step v loc)
      ∙ ap (type_of ns) (type_shown (layer.Variant (variant_unplaced v) None))
      ∙ same
      ∙ sym (ap (type_of ns) (fold-Variant see_type see_form see_record see_attribute v loc))

  common_alike : (name : RawName) (loc : Option Loc) → P1 (type.CommonTypeRef name loc)
  common_alike name loc =
      ap seen (fold-CommonTypeRef bare.type_step bare.variant_step bare.record_step bare.attribute_step name loc)
      ∙ ap (type_of ns) (type_shown (layer.CommonTypeRef (name_unplaced name) None))
      ∙ sym (ap (type_of ns) (fold-CommonTypeRef see_type see_form see_record see_attribute name loc))

  string_alike : P2 variant.String
  string_alike =
      ap seen_form (fold-String bare.type_step bare.variant_step bare.record_step bare.attribute_step)
      ∙ ap (form_of ns) (variant_shown layer.String)
      ∙ sym (ap (form_of ns) (fold-String see_type see_form see_record see_attribute))

  long_alike : P2 variant.Long
  long_alike =
      ap seen_form (fold-Long bare.type_step bare.variant_step bare.record_step bare.attribute_step)
      ∙ ap (form_of ns) (variant_shown layer.Long)
      ∙ sym (ap (form_of ns) (fold-Long see_type see_form see_record see_attribute))

  boolean_alike : P2 variant.Boolean
  boolean_alike =
      ap seen_form (fold-Boolean bare.type_step bare.variant_step bare.record_step bare.attribute_step)
      ∙ ap (form_of ns) (variant_shown layer.Boolean)
      ∙ sym (ap (form_of ns) (fold-Boolean see_type see_form see_record see_attribute))

  set_alike : (t : SchemaType RawName) → P1 t → P2 (variant.Set t)
  set_alike t same =
      ap seen_form (fold-Set bare.type_step bare.variant_step bare.record_step bare.attribute_step t)
      ∙ ap (form_of ns) (variant_shown (layer.Set (type_unplaced t)))
      ∙ ap Set same
      ∙ sym (ap (form_of ns) (fold-Set see_type see_form see_record see_attribute t))

  record_alike : (r : RecordType RawName) → P3 r → P2 (variant.Record r)
  record_alike r same =
      ap seen_form (fold-Record bare.type_step bare.variant_step bare.record_step bare.attribute_step r)
      ∙ ap (form_of ns) (variant_shown (layer.Record (record_unplaced r)))
      ∙ same
      ∙ sym (ap (form_of ns) (fold-Record see_type see_form see_record see_attribute r))

  entity_alike : (name : RawName) → P2 (variant.Entity name)
  entity_alike name =
      ap seen_form (fold-Entity bare.type_step bare.variant_step bare.record_step bare.attribute_step name)
      ∙ ap (form_of ns) (variant_shown (layer.Entity (name_unplaced name)))
      ∙ sym (ap (form_of ns) (fold-Entity see_type see_form see_record see_attribute name))

  either_alike : (name : RawName) → P2 (variant.EntityOrCommon name)
  either_alike name =
      ap seen_form (fold-EntityOrCommon bare.type_step bare.variant_step bare.record_step bare.attribute_step name)
      ∙ ap (form_of ns) (variant_shown (layer.EntityOrCommon (name_unplaced name)))
      ∙ sym (ap (form_of ns) (fold-EntityOrCommon see_type see_form see_record see_attribute name))

  extension_alike : (id : UnreservedId) → P2 (variant.Extension id)
  extension_alike id =
      ap seen_form (fold-Extension bare.type_step bare.variant_step bare.record_step bare.attribute_step id)
      ∙ ap (form_of ns) (variant_shown (layer.Extension id))
      ∙ sym (ap (form_of ns) (fold-Extension see_type see_form see_record see_attribute id))

  -- attributes by name
  each_alike : (es : List (List ℕ × TypeOfAttribute RawName)) → AllByRecursion {X = List ℕ × TypeOfAttribute RawName} (λ e. P4 e.1) es
      → fields_of ns (fields (map_values attribute_seen (map_values attribute_unplaced es))) ≡ fields_of ns (fields (map_values attribute_seen es))
  each_alike [] all = refl
  each_alike (e ∷ es) all = λ i. attribute e.0 (all.0 i).0 (all.0 i).1 (each_alike es all.1 i)

  attributes_alike : (es : List (List ℕ × TypeOfAttribute RawName)) (additional : Bool) → AllByRecursion {X = List ℕ × TypeOfAttribute RawName} (λ e. P4 e.1) es → P3 (made.record_of es additional)
  attributes_alike es additional all =
      ap seen_record (fold-record_of bare.type_step bare.variant_step bare.record_step bare.attribute_step es additional)
      ∙ ap (form_of ns) (fold-record_of see_type see_form see_record see_attribute (map_values attribute_unplaced es) additional)
      ∙ ap (λ parts. Record parts additional) (each_alike es all)
      ∙ sym (ap (form_of ns) (fold-record_of see_type see_form see_record see_attribute es additional))

  attribute_alike : (t : SchemaType RawName) (annotations : Annotations) (required : Bool) → P1 t → P4 (attribute_of t annotations required)
  attribute_alike t annotations required same =
      ap seen_attribute (fold-attribute_of bare.type_step bare.variant_step bare.record_step bare.attribute_step t annotations required)
      ∙ ap of_field (fold-attribute_of see_type see_form see_record see_attribute (type_unplaced t) (annotations_unplaced annotations) required)
      ∙ ap (λ ty. (required, ty)) same
      ∙ sym (ap of_field (fold-attribute_of see_type see_form see_record see_attribute t annotations required))

  -- a type
  pub type_alike : (t : SchemaType RawName) → type_of ns (type_seen (type_unplaced t)) ≡ type_of ns (type_seen t)
  type_alike = by_cases P1 P2 P3 P4 (record {
    of_variant = variant_alike;
    of_common = common_alike;
    of_string = string_alike;
    of_long = long_alike;
    of_boolean = boolean_alike;
    of_set = set_alike;
    of_record = record_alike;
    of_entity = entity_alike;
    of_entity_or_common = either_alike;
    of_extension = extension_alike;
    of_attributes = attributes_alike;
    of_attribute = attribute_alike;
  })
