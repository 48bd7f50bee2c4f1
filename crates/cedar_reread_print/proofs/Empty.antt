-- SPDX-License-Identifier: Apache-2.0
-- A type is the empty record where it is seen to be that.
use Rattle.std.proofs.Common.{◌≡◌, ℕ, Bool, List, [], ◌∷◌, refl, sym, ap, ◌∙◌}
use Rattle.cedar_data.specs.Maps.{map_values}
use Rattle.cedar_fragment.specs.Printed.{is_empty_fields, is_empty_layer, is_empty_type, is_empty_variant}
use Rattle.cedar_written.specs.WrittenTypes.{TypeLayer, VariantLayer}
use Rattle.cedar_written.specs.declared.raw_name.RawName.{RawName}
use Rattle.cedar_written.specs.declared.ty.SchemaType.{SchemaType, out-SchemaType, map-SchemaType, fold_out-SchemaType}
use Rattle.cedar_written.specs.declared.ty.SchemaType.TheOpen as layer
use Rattle.cedar_written.specs.declared.ty.TypeVariant.{TypeVariant, out-TypeVariant, map-TypeVariant, fold_out-TypeVariant}
use Rattle.cedar_written.specs.declared.ty.RecordType.{RecordType, out-RecordType, fold_out-RecordType}
use Rattle.cedar_written.specs.declared.ty.TypeOfAttribute.{TypeOfAttribute}
use Rattle.cedar_convert_fragment.specs.Fragments.{FieldAt, Form, TypeAt, fields, record_of}
use Rattle.cedar_convert_fragment.specs.Views.{attribute_seen, form_seen, record_seen, see_attribute, see_form, see_record, see_type, type_seen}
use Rattle.cedar_reread.specs.Said.{is_empty_form, is_empty_shape}

-- ---- one layer, as it is seen

abbrev layer_seen : TypeLayer RawName → TypeAt
layer_seen l = see_type (map-SchemaType RawName (SchemaType RawName) (TypeVariant RawName) (RecordType RawName) (TypeOfAttribute RawName) TypeAt Form Form FieldAt type_seen form_seen record_seen attribute_seen l)

abbrev variant_layer_seen : VariantLayer RawName → Form
variant_layer_seen l = see_form (map-TypeVariant RawName (SchemaType RawName) (TypeVariant RawName) (RecordType RawName) (TypeOfAttribute RawName) TypeAt Form Form FieldAt type_seen form_seen record_seen attribute_seen l)

abbrev record_layer_seen : RecordType RawName → Form
record_layer_seen r = record_of (fields (map_values attribute_seen (out-RecordType RawName r).attributes)) (out-RecordType RawName r).additional_attributes

type_seen-is : (t : SchemaType RawName) → type_seen t ≡ layer_seen (out-SchemaType RawName t)
type_seen-is t = fold_out-SchemaType RawName TypeAt Form Form FieldAt see_type see_form see_record see_attribute t

form_seen-is : (v : TypeVariant RawName) → form_seen v ≡ variant_layer_seen (out-TypeVariant RawName v)
form_seen-is v = fold_out-TypeVariant RawName TypeAt Form Form FieldAt see_type see_form see_record see_attribute v

record_seen-is : (r : RecordType RawName) → record_seen r ≡ record_layer_seen r
record_seen-is r = fold_out-RecordType RawName TypeAt Form Form FieldAt see_type see_form see_record see_attribute r

-- ---- the empty record

fields_alike : (es : List (List ℕ × TypeOfAttribute RawName)) (additional : Bool) → is_empty_fields es additional ≡ is_empty_form (record_of (fields (map_values attribute_seen es)) additional)
fields_alike [] additional = refl
fields_alike (e ∷ es) additional = refl

variant_alike : (l : VariantLayer RawName) → is_empty_variant l ≡ is_empty_form (variant_layer_seen l)
variant_alike layer.String = refl
variant_alike layer.Long = refl
variant_alike layer.Boolean = refl
variant_alike (layer.Set t) = refl
variant_alike (layer.Record r) = fields_alike (out-RecordType RawName r).attributes (out-RecordType RawName r).additional_attributes ∙ ap is_empty_form (sym (record_seen-is r))
variant_alike (layer.Entity n) = refl
variant_alike (layer.EntityOrCommon n) = refl
variant_alike (layer.Extension id) = refl

layer_alike : (l : TypeLayer RawName) → is_empty_layer l ≡ is_empty_shape (layer_seen l)
layer_alike (layer.Variant v loc) = variant_alike (out-TypeVariant RawName v) ∙ ap is_empty_form (sym (form_seen-is v))
layer_alike (layer.CommonTypeRef n loc) = refl

pub empty_alike : (t : SchemaType RawName) → is_empty_type t ≡ is_empty_shape (type_seen t)
empty_alike t = layer_alike (out-SchemaType RawName t) ∙ ap is_empty_shape (sym (type_seen-is t))
