-- SPDX-License-Identifier: Apache-2.0
-- The references of a type, in order, and the first that a step refuses.
use Rattle.std.specs.Prelude.{List, [], ◌∷◌, Option, None}
use Rattle.std.specs.List.{flat_map}
use Rattle.std.specs.Option.{option_or}
use Rattle.std.specs.Result.{result_err}
use Rattle.std.specs.declared.result.Result.{Result}
use Rattle.cedar_written.specs.Reference.{Reference, named}
use Rattle.cedar_written.specs.declared.reference_type.ReferenceType.{ReferenceType}
use Rattle.cedar_written.specs.declared.reference_type.ReferenceType.TheVariants as kind
use Rattle.cedar_written.specs.declared.ty.SchemaType.{SchemaType, fold-SchemaType}
use Rattle.cedar_written.specs.declared.ty.SchemaType.TheOpen as layer
use Rattle.cedar_written.specs.declared.ty.SchemaType.TheOpen.{SchemaType-F, TypeVariant-F, RecordType-F, TypeOfAttribute-F}
use Rattle.cedar_written.specs.declared.ty.TypeVariant.{TypeVariant, fold-TypeVariant}
use Rattle.cedar_written.specs.declared.ty.RecordType.{RecordType, fold-RecordType}
use Rattle.cedar_written.specs.declared.ty.TypeOfAttribute.{TypeOfAttribute, fold-TypeOfAttribute}

-- the refusal of the first reference that the step refuses
abbrev pub first_refusal : {N M E : Type 0} → (Reference N → Result M E) → List (Reference N) → Option E
first_refusal step [] = None
first_refusal step (r ∷ rs) = option_or (result_err (step r)) (first_refusal step rs)

-- references, in order
abbrev pub Refs : Type 0 → Type 0
Refs N = List (Reference N)

module _ {N : Type 0} where
  abbrev pub type_refs : SchemaType-F N (Refs N) (Refs N) (Refs N) (Refs N) → Refs N
  type_refs (layer.Variant ty loc) = ty
  type_refs (layer.CommonTypeRef name loc) = named kind.Common name ∷ []

  abbrev pub variant_refs : TypeVariant-F N (Refs N) (Refs N) (Refs N) (Refs N) → Refs N
  variant_refs (layer.Set element) = element
  variant_refs (layer.Record fields) = fields
  variant_refs (layer.Entity name) = named kind.Entity name ∷ []
  variant_refs (layer.EntityOrCommon name) = named kind.CommonOrEntity name ∷ []
  variant_refs _ = []

  abbrev pub record_refs : RecordType-F N (Refs N) (Refs N) (Refs N) (Refs N) → Refs N
  record_refs r = flat_map (λ e. e.1) r.attributes

  abbrev pub attribute_refs : TypeOfAttribute-F N (Refs N) (Refs N) (Refs N) (Refs N) → Refs N
  attribute_refs a = a.ty

  -- those of a type
  abbrev pub references : SchemaType N → Refs N
  references = fold-SchemaType N (Refs N) (Refs N) (Refs N) (Refs N) type_refs variant_refs record_refs attribute_refs

  abbrev pub references_of_variant : TypeVariant N → Refs N
  references_of_variant = fold-TypeVariant N (Refs N) (Refs N) (Refs N) (Refs N) type_refs variant_refs record_refs attribute_refs

  abbrev pub references_of_record : RecordType N → Refs N
  references_of_record = fold-RecordType N (Refs N) (Refs N) (Refs N) (Refs N) type_refs variant_refs record_refs attribute_refs

  abbrev pub references_of_attribute : TypeOfAttribute N → Refs N
  references_of_attribute = fold-TypeOfAttribute N (Refs N) (Refs N) (Refs N) (Refs N) type_refs variant_refs record_refs attribute_refs

  -- those of names of one kind
  abbrev pub references_of_names : ReferenceType → List N → Refs N
  references_of_names kind names = flat_map (λ n. named kind n ∷ []) names
