-- SPDX-License-Identifier: Apache-2.0
-- What a step makes of a type, for each way to make one.
use Rattle.std.proofs.Common.{◌≡◌, ℕ, Bool, List, Option}
use Rattle.std.specs.declared.result.Result.{Result}
use Rattle.std.specs.declared.result.Result.TheVariants.{Ok}
use Rattle.cedar_print.specs.of_data.Maps.{map_values}
use Rattle.cedar_written.specs.Answers.{and_then, all_values}
use Rattle.cedar_written.specs.Through.{through_type, through_variant, through_record, through_attribute, type_step, variant_step, record_step, attribute_step}
use Rattle.cedar_written.specs.Reference.{Reference, named}
use Rattle.cedar_written.specs.declared.reference_type.ReferenceType.TheVariants as kind
use Rattle.cedar_print.specs.of_text.declared.location.Loc.{Loc}
use Rattle.cedar_print.specs.of_names.declared.annotation.Annotations.{Annotations}
use Rattle.cedar_print.specs.of_names.declared.id.UnreservedId.{UnreservedId}
use Rattle.cedar_written.specs.declared.ty.SchemaType.{SchemaType}
use Rattle.cedar_written.specs.declared.ty.SchemaType.TheVariants as type
use Rattle.cedar_written.specs.declared.ty.TypeVariant.{TypeVariant}
use Rattle.cedar_written.specs.declared.ty.TypeVariant.TheVariants as variant
use Rattle.cedar_written.specs.declared.ty.RecordType.{RecordType}
use Rattle.cedar_written.specs.declared.ty.TypeOfAttribute.{TypeOfAttribute}
use Rattle.cedar_written.proofs.TypeInduction.{record_of, attribute_of}
use Rattle.cedar_written.proofs.TypeFolds.{fold-Variant, fold-CommonTypeRef, fold-String, fold-Long, fold-Boolean, fold-Set, fold-Record, fold-Entity, fold-EntityOrCommon, fold-Extension, fold-record_of, fold-attribute_of}

module _ {N M E : Type 0} (s : Reference N → Result M E) where
  pub through-Variant : (v : TypeVariant N) (loc : Option Loc) → through_type s (type.Variant v loc) ≡ and_then (through_variant s v) (λ v. Ok (type.Variant v loc))
  through-Variant v loc = fold-Variant (type_step s) (variant_step s) (record_step s) (attribute_step s) v loc

  pub through-CommonTypeRef : (n : N) (loc : Option Loc) → through_type s (type.CommonTypeRef n loc) ≡ and_then (s (named kind.Common n)) (λ n. Ok (type.CommonTypeRef n loc))
  through-CommonTypeRef n loc = fold-CommonTypeRef (type_step s) (variant_step s) (record_step s) (attribute_step s) n loc

  pub through-String : through_variant s variant.String ≡ Ok variant.String
  through-String = fold-String (type_step s) (variant_step s) (record_step s) (attribute_step s)

  pub through-Long : through_variant s variant.Long ≡ Ok variant.Long
  through-Long = fold-Long (type_step s) (variant_step s) (record_step s) (attribute_step s)

  pub through-Boolean : through_variant s variant.Boolean ≡ Ok variant.Boolean
  through-Boolean = fold-Boolean (type_step s) (variant_step s) (record_step s) (attribute_step s)

  pub through-Set : (t : SchemaType N) → through_variant s (variant.Set t) ≡ and_then (through_type s t) (λ t. Ok (variant.Set t))
  through-Set t = fold-Set (type_step s) (variant_step s) (record_step s) (attribute_step s) t

  pub through-Record : (r : RecordType N) → through_variant s (variant.Record r) ≡ and_then (through_record s r) (λ r. Ok (variant.Record r))
  through-Record r = fold-Record (type_step s) (variant_step s) (record_step s) (attribute_step s) r

  pub through-Entity : (n : N) → through_variant s (variant.Entity n) ≡ and_then (s (named kind.Entity n)) (λ n. Ok (variant.Entity n))
  through-Entity n = fold-Entity (type_step s) (variant_step s) (record_step s) (attribute_step s) n

  pub through-EntityOrCommon : (n : N) → through_variant s (variant.EntityOrCommon n) ≡ and_then (s (named kind.CommonOrEntity n)) (λ n. Ok (variant.EntityOrCommon n))
  through-EntityOrCommon n = fold-EntityOrCommon (type_step s) (variant_step s) (record_step s) (attribute_step s) n

  pub through-Extension : (w : UnreservedId) → through_variant s (variant.Extension w) ≡ Ok (variant.Extension w)
  through-Extension w = fold-Extension (type_step s) (variant_step s) (record_step s) (attribute_step s) w

  pub through-record_of : (es : List (List ℕ × TypeOfAttribute N)) (additional : Bool) → through_record s (record_of es additional) ≡ and_then (all_values (map_values (through_attribute s) es)) (λ es. Ok (record_of es additional))
  through-record_of es additional = fold-record_of (type_step s) (variant_step s) (record_step s) (attribute_step s) es additional

  pub through-attribute_of : (t : SchemaType N) (annotations : Annotations) (required : Bool) → through_attribute s (attribute_of t annotations required) ≡ and_then (through_type s t) (λ t. Ok (attribute_of t annotations required))
  through-attribute_of t annotations required = fold-attribute_of (type_step s) (variant_step s) (record_step s) (attribute_step s) t annotations required
