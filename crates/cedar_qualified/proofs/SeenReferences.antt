-- SPDX-License-Identifier: Apache-2.0
-- The references of a type, as they are written.
use Rattle.std.proofs.Common.{◌≡◌, ◌++◌, ℕ, List, [], ◌∷◌, map, refl, sym, ap, ◌∙◌}
use Rattle.std.proofs.lemmas.List.{map-append}
use Rattle.std.specs.List.{AllByRecursion, flat_map}
use Rattle.cedar_data.specs.Maps.{map_values}
use Rattle.cedar_missing.specs.Undeclared.{name_at}
use Rattle.cedar_schema_error.specs.NameReferences.{NameReference, reference_of}
use Rattle.cedar_world.proofs.of_unfold.SchemaTypes.{is_common, type_is, variant_boolean, variant_either, variant_entity, variant_extension, variant_long, variant_set, variant_string}
use Rattle.cedar_world.specs.of_unfold.Written.{Written, attribute_references}
use Rattle.cedar_world.specs.of_unfold.Written as written
use Rattle.cedar_world.specs.of_unfold.WrittenViews.{written_attribute, written_attributes, written_record, written_type, written_variant}
use Rattle.cedar_written.proofs.TypeFolds.{fold-Boolean, fold-CommonTypeRef, fold-Entity, fold-EntityOrCommon, fold-Extension, fold-Long, fold-Record, fold-Set, fold-String, fold-Variant, fold-attribute_of, fold-record_of}
use Rattle.cedar_written.proofs.TypeInduction.{by_cases}
use Rattle.cedar_written.specs.References.{Refs, attribute_refs, record_refs, references, references_of_attribute, references_of_record, references_of_variant, type_refs, variant_refs}
use Rattle.cedar_written.specs.declared.conditional_name.ConditionalName.{ConditionalName}
use Rattle.cedar_written.specs.declared.ty.RecordType.{RecordType}
use Rattle.cedar_written.specs.declared.ty.SchemaType.{SchemaType}
use Rattle.cedar_written.specs.declared.ty.SchemaType.TheVariants as type
use Rattle.cedar_written.specs.declared.ty.TypeOfAttribute.{TypeOfAttribute}
use Rattle.cedar_written.specs.declared.ty.TypeVariant.{TypeVariant}
use Rattle.cedar_written.specs.declared.ty.TypeVariant.TheVariants as variant
use Rattle.cedar_qualified.proofs.WalkedTypes.{attribute_seen, attributes_seen, record_seen}

-- places, as references
abbrev pub seen : Refs ConditionalName → List NameReference
seen rs = map reference_of (map name_at rs)

seen-append : (xs ys : Refs ConditionalName) → seen (xs ++ ys) ≡ seen xs ++ seen ys
seen-append xs ys = ap (map reference_of) (map-append name_at xs ys) ∙ map-append reference_of (map name_at xs) (map name_at ys)

-- a type has these references
abbrev Has : Written NameReference → Refs ConditionalName → Type 0
Has t rs = written.references t ≡ seen rs

abbrev P1 : SchemaType ConditionalName → Type 0
P1 t = Has (written_type reference_of t) (references t)

abbrev P2 : TypeVariant ConditionalName → Type 0
P2 v = Has (written_variant reference_of v) (references_of_variant v)

abbrev P3 : RecordType ConditionalName → Type 0
P3 r = Has (written_record reference_of r) (references_of_record r)

abbrev P4 : TypeOfAttribute ConditionalName → Type 0
P4 a = Has (written_attribute reference_of a).1 (references_of_attribute a)

-- the same type and the same references
same_has : (t u : Written NameReference) (rs ss : Refs ConditionalName) → t ≡ u → rs ≡ ss → Has u ss → Has t rs
same_has t u rs ss p q h = ap written.references p ∙ h ∙ sym (ap seen q)

each_seen : (es : List (List ℕ × TypeOfAttribute ConditionalName)) → AllByRecursion {X = List ℕ × TypeOfAttribute ConditionalName} (λ e. P4 e.1) es
    → attribute_references (written_attributes (map_values (written_attribute reference_of) es)) ≡ seen (flat_map (λ e. e.1) (map_values references_of_attribute es))
each_seen [] all = refl
each_seen (e ∷ es) all =
    ap (λ l. l ++ attribute_references (written_attributes (map_values (written_attribute reference_of) es))) all.0
    ∙ ap (λ l. seen (references_of_attribute e.1) ++ l) (each_seen es all.1)
    ∙ sym (seen-append (references_of_attribute e.1) (flat_map (λ e. e.1) (map_values references_of_attribute es)))

-- the references of a type of a schema, as those of the written type
pub references_seen : (t : SchemaType ConditionalName) → written.references (written_type reference_of t) ≡ seen (references t)
references_seen = by_cases P1 P2 P3 P4 (record {
  of_variant = λ v loc ih. same_has _ (written_variant reference_of v) _ _ (type_is reference_of (type.Variant v loc) v loc (written_variant reference_of v) refl refl) (fold-Variant type_refs variant_refs record_refs attribute_refs v loc) ih;
  of_common = λ n loc. same_has _ _ _ _ (is_common reference_of (type.CommonTypeRef n loc) n loc refl) (fold-CommonTypeRef type_refs variant_refs record_refs attribute_refs n loc) refl;
  of_string = same_has _ _ _ _ (variant_string reference_of variant.String refl) (fold-String type_refs variant_refs record_refs attribute_refs) refl;
  of_long = same_has _ _ _ _ (variant_long reference_of variant.Long refl) (fold-Long type_refs variant_refs record_refs attribute_refs) refl;
  of_boolean = same_has _ _ _ _ (variant_boolean reference_of variant.Boolean refl) (fold-Boolean type_refs variant_refs record_refs attribute_refs) refl;
  of_set = λ t ih. same_has _ _ _ _ (variant_set reference_of (variant.Set t) t refl) (fold-Set type_refs variant_refs record_refs attribute_refs t) ih;
  of_record = λ r ih. same_has _ (written_record reference_of r) _ _ (record_seen reference_of r) (fold-Record type_refs variant_refs record_refs attribute_refs r) ih;
  of_entity = λ n. same_has _ _ _ _ (variant_entity reference_of (variant.Entity n) n refl) (fold-Entity type_refs variant_refs record_refs attribute_refs n) refl;
  of_entity_or_common = λ n. same_has _ _ _ _ (variant_either reference_of (variant.EntityOrCommon n) n refl) (fold-EntityOrCommon type_refs variant_refs record_refs attribute_refs n) refl;
  of_extension = λ id. same_has _ _ _ _ (variant_extension reference_of (variant.Extension id) id refl) (fold-Extension type_refs variant_refs record_refs attribute_refs id) refl;
  of_attributes = λ es additional all. same_has _ _ _ _ (attributes_seen reference_of es additional) (fold-record_of type_refs variant_refs record_refs attribute_refs es additional) (each_seen es all);
  of_attribute = λ t annotations required ih. same_has _ _ _ _ (ap (λ a. a.1) (attribute_seen reference_of t annotations required)) (fold-attribute_of type_refs variant_refs record_refs attribute_refs t annotations required) ih;
})
