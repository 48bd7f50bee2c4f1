-- SPDX-License-Identifier: Apache-2.0
-- Induction over types, with a case for each way to make one.
use Rattle.std.proofs.Common.{ℕ, Bool, List, [], ◌∷◌, Option, map, subst, sym}
use Rattle.std.specs.List.{AllByRecursion}
use Rattle.cedar_print.specs.of_text.declared.location.Loc.{Loc}
use Rattle.cedar_print.specs.of_names.declared.annotation.Annotations.{Annotations}
use Rattle.cedar_print.specs.of_names.declared.id.UnreservedId.{UnreservedId}
use Rattle.cedar_written.specs.declared.ty.SchemaType.{SchemaType, roll-SchemaType, ind-SchemaType, map-SchemaType}
use Rattle.cedar_written.specs.declared.ty.SchemaType.TheVariants as type
use Rattle.cedar_written.specs.declared.ty.SchemaType.TheOpen as layer
use Rattle.cedar_written.specs.declared.ty.SchemaType.TheOpen.{SchemaType-F, TypeVariant-F, RecordType-F, TypeOfAttribute-F}
use Rattle.cedar_written.specs.declared.ty.TypeVariant.{TypeVariant, roll-TypeVariant, map-TypeVariant}
use Rattle.cedar_written.specs.declared.ty.TypeVariant.TheVariants as variant
use Rattle.cedar_written.specs.declared.ty.RecordType.{RecordType, roll-RecordType}
use Rattle.cedar_written.specs.declared.ty.TypeOfAttribute.{TypeOfAttribute, roll-TypeOfAttribute}

abbrev pub record_of : {N : Type 0} → List (List ℕ × TypeOfAttribute N) → Bool → RecordType N
record_of {N} attributes additional = roll-RecordType N (record { attributes = attributes; additional_attributes = additional })

abbrev pub attribute_of : {N : Type 0} → SchemaType N → Annotations → Bool → TypeOfAttribute N
attribute_of {N} ty annotations required = roll-TypeOfAttribute N (record { ty = ty; annotations = annotations; required = required })

module _ {N : Type 0} (P : SchemaType N → Type 0) (Q : TypeVariant N → Type 0) (R : RecordType N → Type 0) (S : TypeOfAttribute N → Type 0) where
  -- the claim for each way to make a type, from the claims for its parts
  pub record Cases : Type 0 where
    pub of_variant : (v : TypeVariant N) (loc : Option Loc) → Q v → P (type.Variant v loc)
    pub of_common : (name : N) (loc : Option Loc) → P (type.CommonTypeRef name loc)
    pub of_string : Q variant.String
    pub of_long : Q variant.Long
    pub of_boolean : Q variant.Boolean
    pub of_set : (t : SchemaType N) → P t → Q (variant.Set t)
    pub of_record : (r : RecordType N) → R r → Q (variant.Record r)
    pub of_entity : (name : N) → Q (variant.Entity name)
    pub of_entity_or_common : (name : N) → Q (variant.EntityOrCommon name)
    pub of_extension : (name : UnreservedId) → Q (variant.Extension name)
    pub of_attributes : (es : List (List ℕ × TypeOfAttribute N)) (additional : Bool) → AllByRecursion {X = List ℕ × TypeOfAttribute N} (λ e. S e.1) es → R (record_of es additional)
    pub of_attribute : (t : SchemaType N) (annotations : Annotations) (required : Bool) → P t → S (attribute_of t annotations required)

  abbrev T1 : Type 0
  T1 = (t : SchemaType N) × P t

  abbrev T2 : Type 0
  T2 = (t : TypeVariant N) × Q t

  abbrev T3 : Type 0
  T3 = (t : RecordType N) × R t

  abbrev T4 : Type 0
  T4 = (t : TypeOfAttribute N) × S t

  all_claims : (es : List (List ℕ × T4)) → AllByRecursion {X = List ℕ × TypeOfAttribute N} (λ e. S e.1) (map (λ e. (e.0, e.1.0)) es)
  all_claims [] = tt
  all_claims (e ∷ es) = (e.1.1, all_claims es)

  module _ (cases : Cases) where
    at_type : (y : SchemaType-F N T1 T2 T3 T4) → P (roll-SchemaType N (map-SchemaType N T1 T2 T3 T4 (SchemaType N) (TypeVariant N) (RecordType N) (TypeOfAttribute N) (λ e. e.0) (λ e. e.0) (λ e. e.0) (λ e. e.0) y))
    at_type (layer.Variant v loc) = subst P (sym (type.rolls-Variant v.0 loc)) (cases.of_variant v.0 loc v.1)
    at_type (layer.CommonTypeRef name loc) = subst P (sym (type.rolls-CommonTypeRef name loc)) (cases.of_common name loc)

    at_variant : (y : TypeVariant-F N T1 T2 T3 T4) → Q (roll-TypeVariant N (map-TypeVariant N T1 T2 T3 T4 (SchemaType N) (TypeVariant N) (RecordType N) (TypeOfAttribute N) (λ e. e.0) (λ e. e.0) (λ e. e.0) (λ e. e.0) y))
    at_variant layer.String = subst Q (sym variant.rolls-String) cases.of_string
    at_variant layer.Long = subst Q (sym variant.rolls-Long) cases.of_long
    at_variant layer.Boolean = subst Q (sym variant.rolls-Boolean) cases.of_boolean
    at_variant (layer.Set t) = subst Q (sym (variant.rolls-Set t.0)) (cases.of_set t.0 t.1)
    at_variant (layer.Record r) = subst Q (sym (variant.rolls-Record r.0)) (cases.of_record r.0 r.1)
    at_variant (layer.Entity name) = subst Q (sym (variant.rolls-Entity name)) (cases.of_entity name)
    at_variant (layer.EntityOrCommon name) = subst Q (sym (variant.rolls-EntityOrCommon name)) (cases.of_entity_or_common name)
    at_variant (layer.Extension name) = subst Q (sym (variant.rolls-Extension name)) (cases.of_extension name)

    -- the claim for each type
    pub by_cases : (t : SchemaType N) → P t
    by_cases = ind-SchemaType N P Q R S
        (λ x y is. subst (λ l. P (roll-SchemaType N l)) is (at_type y))
        (λ x y is. subst (λ l. Q (roll-TypeVariant N l)) is (at_variant y))
        (λ x y is. subst (λ l. R (roll-RecordType N l)) is (cases.of_attributes (map (λ e. (e.0, e.1.0)) y.attributes) y.additional_attributes (all_claims y.attributes)))
        (λ x y is. subst (λ l. S (roll-TypeOfAttribute N l)) is (cases.of_attribute y.ty.0 y.annotations y.required y.ty.1))
