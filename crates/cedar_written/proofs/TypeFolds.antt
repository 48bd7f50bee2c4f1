-- SPDX-License-Identifier: Apache-2.0
-- The equations of a definition by recursion over types, for each way to make one.
use Rattle.std.proofs.Common.{◌≡◌, ℕ, Bool, List, Option, ap, sym, ◌∙◌}
use Rattle.cedar_print.specs.of_data.Maps.{map_values}
use Rattle.cedar_print.specs.of_text.declared.location.Loc.{Loc}
use Rattle.cedar_print.specs.of_names.declared.annotation.Annotations.{Annotations}
use Rattle.cedar_print.specs.of_names.declared.id.UnreservedId.{UnreservedId}
use Rattle.cedar_written.specs.declared.ty.SchemaType.{SchemaType, fold-SchemaType, fold-roll-SchemaType}
use Rattle.cedar_written.specs.declared.ty.SchemaType.TheVariants as type
use Rattle.cedar_written.specs.declared.ty.SchemaType.TheOpen as layer
use Rattle.cedar_written.specs.declared.ty.SchemaType.TheOpen.{SchemaType-F, TypeVariant-F, RecordType-F, TypeOfAttribute-F}
use Rattle.cedar_written.specs.declared.ty.TypeVariant.{TypeVariant, fold-TypeVariant, fold-roll-TypeVariant}
use Rattle.cedar_written.specs.declared.ty.TypeVariant.TheVariants as variant
use Rattle.cedar_written.specs.declared.ty.RecordType.{RecordType, fold-RecordType, fold-roll-RecordType}
use Rattle.cedar_written.specs.declared.ty.TypeOfAttribute.{TypeOfAttribute, fold-TypeOfAttribute, fold-roll-TypeOfAttribute}
use Rattle.cedar_written.proofs.TypeInduction.{record_of, attribute_of}

module _ {N A B C D : Type 0} (a : SchemaType-F N A B C D → A) (b : TypeVariant-F N A B C D → B) (c : RecordType-F N A B C D → C) (d : TypeOfAttribute-F N A B C D → D) where
  abbrev of_type : SchemaType N → A
  of_type = fold-SchemaType N A B C D a b c d

  abbrev of_variant : TypeVariant N → B
  of_variant = fold-TypeVariant N A B C D a b c d

  abbrev of_record : RecordType N → C
  of_record = fold-RecordType N A B C D a b c d

  abbrev of_attribute : TypeOfAttribute N → D
  of_attribute = fold-TypeOfAttribute N A B C D a b c d

  pub fold-Variant : (v : TypeVariant N) (loc : Option Loc) → of_type (type.Variant v loc) ≡ a (layer.Variant (of_variant v) loc)
  fold-Variant v loc = ap of_type (sym (type.rolls-Variant v loc)) ∙ fold-roll-SchemaType N A B C D a b c d (layer.Variant v loc)

  pub fold-CommonTypeRef : (name : N) (loc : Option Loc) → of_type (type.CommonTypeRef name loc) ≡ a (layer.CommonTypeRef name loc)
  fold-CommonTypeRef name loc = ap of_type (sym (type.rolls-CommonTypeRef name loc)) ∙ fold-roll-SchemaType N A B C D a b c d (layer.CommonTypeRef name loc)

  pub fold-String : of_variant variant.String ≡ b layer.String
  fold-String = ap of_variant (sym variant.rolls-String) ∙ fold-roll-TypeVariant N A B C D a b c d layer.String

  pub fold-Long : of_variant variant.Long ≡ b layer.Long
  fold-Long = ap of_variant (sym variant.rolls-Long) ∙ fold-roll-TypeVariant N A B C D a b c d layer.Long

  pub fold-Boolean : of_variant variant.Boolean ≡ b layer.Boolean
  fold-Boolean = ap of_variant (sym variant.rolls-Boolean) ∙ fold-roll-TypeVariant N A B C D a b c d layer.Boolean

  pub fold-Set : (t : SchemaType N) → of_variant (variant.Set t) ≡ b (layer.Set (of_type t))
  fold-Set t = ap of_variant (sym (variant.rolls-Set t)) ∙ fold-roll-TypeVariant N A B C D a b c d (layer.Set t)

  pub fold-Record : (r : RecordType N) → of_variant (variant.Record r) ≡ b (layer.Record (of_record r))
  fold-Record r = ap of_variant (sym (variant.rolls-Record r)) ∙ fold-roll-TypeVariant N A B C D a b c d (layer.Record r)

  pub fold-Entity : (name : N) → of_variant (variant.Entity name) ≡ b (layer.Entity name)
  fold-Entity name = ap of_variant (sym (variant.rolls-Entity name)) ∙ fold-roll-TypeVariant N A B C D a b c d (layer.Entity name)

  pub fold-EntityOrCommon : (name : N) → of_variant (variant.EntityOrCommon name) ≡ b (layer.EntityOrCommon name)
  fold-EntityOrCommon name = ap of_variant (sym (variant.rolls-EntityOrCommon name)) ∙ fold-roll-TypeVariant N A B C D a b c d (layer.EntityOrCommon name)

  pub fold-Extension : (name : UnreservedId) → of_variant (variant.Extension name) ≡ b (layer.Extension name)
  fold-Extension name = ap of_variant (sym (variant.rolls-Extension name)) ∙ fold-roll-TypeVariant N A B C D a b c d (layer.Extension name)

  pub fold-record_of : (es : List (List ℕ × TypeOfAttribute N)) (additional : Bool) → of_record (record_of es additional) ≡ c (record { attributes = map_values of_attribute es; additional_attributes = additional })
  fold-record_of es additional = fold-roll-RecordType N A B C D a b c d (record { attributes = es; additional_attributes = additional })

  pub fold-attribute_of : (t : SchemaType N) (annotations : Annotations) (required : Bool) → of_attribute (attribute_of t annotations required) ≡ d (record { ty = of_type t; annotations = annotations; required = required })
  fold-attribute_of t annotations required = fold-roll-TypeOfAttribute N A B C D a b c d (record { ty = t; annotations = annotations; required = required })
