-- SPDX-License-Identifier: Apache-2.0
-- Types as a schema writes them: their parts, empty records, and extension types.
use Rattle.std.specs.Prelude.{◌≡◌, Bool, true, false, ◌||◌, List, [], ◌∷◌, Option, Some, None}
use Rattle.cedar_print.specs.of_text.declared.location.Loc.{Loc}
use Rattle.cedar_written.specs.declared.ty.SchemaType.{SchemaType, out-SchemaType, fold-SchemaType}
use Rattle.cedar_written.specs.declared.ty.SchemaType.TheVariants as type
use Rattle.cedar_written.specs.declared.ty.SchemaType.TheOpen as layer
use Rattle.cedar_written.specs.declared.ty.SchemaType.TheOpen.{SchemaType-F, TypeVariant-F, RecordType-F, TypeOfAttribute-F}
use Rattle.cedar_written.specs.declared.ty.TypeVariant.{TypeVariant, out-TypeVariant, fold-TypeVariant}
use Rattle.cedar_written.specs.declared.ty.RecordType.{RecordType, out-RecordType, roll-RecordType, fold-RecordType}
use Rattle.cedar_written.specs.declared.ty.TypeOfAttribute.{TypeOfAttribute, fold-TypeOfAttribute}

-- one layer of a type, and of what kind of type it is
abbrev pub TypeLayer : Type 0 → Type 0
TypeLayer N = SchemaType-F N (SchemaType N) (TypeVariant N) (RecordType N) (TypeOfAttribute N)

abbrev pub VariantLayer : Type 0 → Type 0
VariantLayer N = TypeVariant-F N (SchemaType N) (TypeVariant N) (RecordType N) (TypeOfAttribute N)

-- whether something is so, where that is known
abbrev pub Known : Type 0
Known = Option Bool

-- where one of the two is not known, neither is this; else whether one of them is
abbrev pub either : Known → Known → Known
either None b = None
either (Some a) None = None
either (Some a) (Some b) = Some (a || b)

-- the same of all of these
abbrev pub any_extension : {K : Type 0} → List (K × Known) → Known
any_extension [] = Some false
any_extension (e ∷ es) = either e.1 (any_extension es)

module _ {N : Type 0} where
  -- where the type stands
  abbrev pub layer_place : TypeLayer N → Option Loc
  layer_place (layer.Variant ty loc) = loc
  layer_place (layer.CommonTypeRef name loc) = loc

  abbrev pub place_of_type : SchemaType N → Option Loc
  place_of_type t = layer_place (out-SchemaType N t)

  -- the type at another place
  abbrev pub layer_at : TypeLayer N → Option Loc → SchemaType N
  layer_at (layer.Variant ty loc) place = type.Variant ty place
  layer_at (layer.CommonTypeRef name loc) place = type.CommonTypeRef name place

  abbrev pub type_at : SchemaType N → Option Loc → SchemaType N
  type_at t place = layer_at (out-SchemaType N t) place

  -- the closed record type without attributes
  abbrev pub empty_record : RecordType N
  empty_record = roll-RecordType N (record { attributes = []; additional_attributes = false })

  -- it has no attribute and allows none
  abbrev pub IsEmptyRecord : RecordType N → Type 0
  IsEmptyRecord r = ((out-RecordType N r).attributes ≡ []) × ((out-RecordType N r).additional_attributes ≡ false)

  abbrev pub IsEmptyVariant : VariantLayer N → Type 0
  IsEmptyVariant (layer.Record r) = IsEmptyRecord r
  IsEmptyVariant _ = ⊥

  abbrev pub IsEmptyLayer : TypeLayer N → Type 0
  IsEmptyLayer (layer.Variant ty loc) = IsEmptyVariant (out-TypeVariant N ty)
  IsEmptyLayer (layer.CommonTypeRef name loc) = ⊥

  -- it is such a record type, and no name
  abbrev pub IsEmptyType : SchemaType N → Type 0
  IsEmptyType t = IsEmptyLayer (out-SchemaType N t)

  abbrev pub type_known : SchemaType-F N Known Known Known Known → Known
  type_known (layer.Variant ty loc) = ty
  type_known (layer.CommonTypeRef name loc) = None

  abbrev pub variant_known : TypeVariant-F N Known Known Known Known → Known
  variant_known (layer.Set element) = element
  variant_known (layer.Record fields) = fields
  variant_known (layer.EntityOrCommon name) = None
  variant_known (layer.Extension name) = Some true
  variant_known _ = Some false

  abbrev pub record_known : RecordType-F N Known Known Known Known → Known
  record_known r = any_extension r.attributes

  abbrev pub attribute_known : TypeOfAttribute-F N Known Known Known Known → Known
  attribute_known a = a.ty

  -- whether it is an extension type, a set of one or a record with one, as far as that is known
  abbrev pub type_extension : SchemaType N → Known
  type_extension = fold-SchemaType N Known Known Known Known type_known variant_known record_known attribute_known

  abbrev pub variant_extension : TypeVariant N → Known
  variant_extension = fold-TypeVariant N Known Known Known Known type_known variant_known record_known attribute_known

  abbrev pub record_extension : RecordType N → Known
  record_extension = fold-RecordType N Known Known Known Known type_known variant_known record_known attribute_known

  abbrev pub attribute_extension : TypeOfAttribute N → Known
  attribute_extension = fold-TypeOfAttribute N Known Known Known Known type_known variant_known record_known attribute_known
