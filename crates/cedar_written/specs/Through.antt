-- SPDX-License-Identifier: Apache-2.0
-- Types with each name taken through a step: the first refusal in order, else the same type over the new names.
use Rattle.std.specs.Prelude.{ℕ, List, map}
use Rattle.std.specs.declared.result.Result.{Result}
use Rattle.std.specs.declared.result.Result.TheVariants.{Ok}
use Rattle.cedar_print.specs.of_data.Maps.{map_values}
use Rattle.cedar_written.specs.Answers.{and_then, all_items, all_values}
use Rattle.cedar_written.specs.Reference.{Reference, named}
use Rattle.cedar_written.specs.declared.reference_type.ReferenceType.{ReferenceType}
use Rattle.cedar_written.specs.declared.reference_type.ReferenceType.TheVariants as kind
use Rattle.cedar_written.specs.declared.ty.SchemaType.{SchemaType, fold-SchemaType}
use Rattle.cedar_written.specs.declared.ty.SchemaType.TheVariants as type
use Rattle.cedar_written.specs.declared.ty.SchemaType.TheOpen as layer
use Rattle.cedar_written.specs.declared.ty.SchemaType.TheOpen.{SchemaType-F, TypeVariant-F, RecordType-F, TypeOfAttribute-F}
use Rattle.cedar_written.specs.declared.ty.TypeVariant.{TypeVariant, fold-TypeVariant}
use Rattle.cedar_written.specs.declared.ty.TypeVariant.TheVariants as variant
use Rattle.cedar_written.specs.declared.ty.RecordType.{RecordType, roll-RecordType, fold-RecordType}
use Rattle.cedar_written.specs.declared.ty.TypeOfAttribute.{TypeOfAttribute, roll-TypeOfAttribute, fold-TypeOfAttribute}

module _ {N M E : Type 0} (step : Reference N → Result M E) where
  abbrev OfType : Type 0
  OfType = Result (SchemaType M) E

  abbrev OfVariant : Type 0
  OfVariant = Result (TypeVariant M) E

  abbrev OfRecord : Type 0
  OfRecord = Result (RecordType M) E

  abbrev OfAttribute : Type 0
  OfAttribute = Result (TypeOfAttribute M) E

  abbrev pub type_step : SchemaType-F N OfType OfVariant OfRecord OfAttribute → OfType
  type_step (layer.Variant ty loc) = and_then ty (λ ty. Ok (type.Variant ty loc))
  type_step (layer.CommonTypeRef name loc) = and_then (step (named kind.Common name)) (λ name. Ok (type.CommonTypeRef name loc))

  abbrev pub variant_step : TypeVariant-F N OfType OfVariant OfRecord OfAttribute → OfVariant
  variant_step layer.String = Ok variant.String
  variant_step layer.Long = Ok variant.Long
  variant_step layer.Boolean = Ok variant.Boolean
  variant_step (layer.Set element) = and_then element (λ element. Ok (variant.Set element))
  variant_step (layer.Record fields) = and_then fields (λ fields. Ok (variant.Record fields))
  variant_step (layer.Entity name) = and_then (step (named kind.Entity name)) (λ name. Ok (variant.Entity name))
  variant_step (layer.EntityOrCommon name) = and_then (step (named kind.CommonOrEntity name)) (λ name. Ok (variant.EntityOrCommon name))
  variant_step (layer.Extension name) = Ok (variant.Extension name)

  abbrev pub record_step : RecordType-F N OfType OfVariant OfRecord OfAttribute → OfRecord
  record_step r = and_then (all_values r.attributes) (λ attributes. Ok (roll-RecordType M (record { attributes = attributes; additional_attributes = r.additional_attributes })))

  abbrev pub attribute_step : TypeOfAttribute-F N OfType OfVariant OfRecord OfAttribute → OfAttribute
  attribute_step a = and_then a.ty (λ ty. Ok (roll-TypeOfAttribute M (record { ty = ty; annotations = a.annotations; required = a.required })))

  -- a type
  abbrev pub through_type : SchemaType N → OfType
  through_type = fold-SchemaType N OfType OfVariant OfRecord OfAttribute type_step variant_step record_step attribute_step

  -- what kind of type it is
  abbrev pub through_variant : TypeVariant N → OfVariant
  through_variant = fold-TypeVariant N OfType OfVariant OfRecord OfAttribute type_step variant_step record_step attribute_step

  -- a record type
  abbrev pub through_record : RecordType N → OfRecord
  through_record = fold-RecordType N OfType OfVariant OfRecord OfAttribute type_step variant_step record_step attribute_step

  -- an attribute
  abbrev pub through_attribute : TypeOfAttribute N → OfAttribute
  through_attribute = fold-TypeOfAttribute N OfType OfVariant OfRecord OfAttribute type_step variant_step record_step attribute_step

  -- attributes by name
  abbrev pub through_attributes : List (List ℕ × TypeOfAttribute N) → Result (List (List ℕ × TypeOfAttribute M)) E
  through_attributes es = all_values (map_values through_attribute es)

  -- names of one kind
  abbrev pub through_names : ReferenceType → List N → Result (List M) E
  through_names kind names = all_items (map (λ n. step (named kind n)) names)
