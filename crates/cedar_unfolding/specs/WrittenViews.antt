-- SPDX-License-Identifier: Apache-2.0
-- What a type of a schema is without its places and annotations, with what `name` gives of each name.
use Rattle.std.specs.Prelude.{ℕ, Bool, List, [], ◌∷◌}
use Rattle.cedar_names.specs.Identifiers.{unreserved_word}
use Rattle.cedar_written.specs.declared.ty.SchemaType.{SchemaType, fold-SchemaType}
use Rattle.cedar_written.specs.declared.ty.SchemaType.TheOpen as layer
use Rattle.cedar_written.specs.declared.ty.SchemaType.TheOpen.{SchemaType-F, TypeVariant-F, RecordType-F, TypeOfAttribute-F}
use Rattle.cedar_written.specs.declared.ty.TypeVariant.{TypeVariant, fold-TypeVariant}
use Rattle.cedar_written.specs.declared.ty.RecordType.{RecordType, fold-RecordType}
use Rattle.cedar_written.specs.declared.ty.TypeOfAttribute.{TypeOfAttribute, fold-TypeOfAttribute}
use Rattle.cedar_unfolding.specs.Written.{Written, WrittenAttributes, Boolean, Long, String, Extension, Set, Record, Entity, EntityOrCommon, CommonTypeRef, no_attributes, attribute}

-- attributes by name, each with whether it is required and its type
abbrev pub written_attributes : {N : Type 0} → List (List ℕ × (Bool × Written N)) → WrittenAttributes N
written_attributes [] = no_attributes
written_attributes (e ∷ es) = attribute e.0 e.1.0 e.1.1 (written_attributes es)

module _ {N M : Type 0} (name : N → M) where
  abbrev pub type_view : SchemaType-F N (Written M) (Written M) (Written M) (Bool × Written M) → Written M
  type_view (layer.Variant ty loc) = ty
  type_view (layer.CommonTypeRef type_name loc) = CommonTypeRef (name type_name)

  abbrev pub variant_view : TypeVariant-F N (Written M) (Written M) (Written M) (Bool × Written M) → Written M
  variant_view layer.String = String
  variant_view layer.Long = Long
  variant_view layer.Boolean = Boolean
  variant_view (layer.Set element) = Set element
  variant_view (layer.Record fields) = fields
  variant_view (layer.Entity type_name) = Entity (name type_name)
  variant_view (layer.EntityOrCommon type_name) = EntityOrCommon (name type_name)
  variant_view (layer.Extension id) = Extension (unreserved_word id)

  abbrev pub record_view : RecordType-F N (Written M) (Written M) (Written M) (Bool × Written M) → Written M
  record_view r = Record (written_attributes r.attributes) r.additional_attributes

  abbrev pub attribute_view : TypeOfAttribute-F N (Written M) (Written M) (Written M) (Bool × Written M) → Bool × Written M
  attribute_view a = (a.required, a.ty)

  -- the written type that a type of a schema is
  abbrev pub written_type : SchemaType N → Written M
  written_type = fold-SchemaType N (Written M) (Written M) (Written M) (Bool × Written M) type_view variant_view record_view attribute_view

  -- the same of its parts
  abbrev pub written_variant : TypeVariant N → Written M
  written_variant = fold-TypeVariant N (Written M) (Written M) (Written M) (Bool × Written M) type_view variant_view record_view attribute_view

  abbrev pub written_record : RecordType N → Written M
  written_record = fold-RecordType N (Written M) (Written M) (Written M) (Bool × Written M) type_view variant_view record_view attribute_view

  abbrev pub written_attribute : TypeOfAttribute N → Bool × Written M
  written_attribute = fold-TypeOfAttribute N (Written M) (Written M) (Written M) (Bool × Written M) type_view variant_view record_view attribute_view
