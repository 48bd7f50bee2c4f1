-- SPDX-License-Identifier: Apache-2.0
-- The references of a full type that stand where only an entity type may stand, as those of the written type.
use Rattle.std.proofs.Common.{◌≡◌, ◌++◌, ℕ, List, [], ◌∷◌, Option, Some, None, map, refl, sym, ap, ◌∙◌}
use Rattle.std.proofs.lemmas.List.{map-append}
use Rattle.std.proofs.lemmas.List.Elements.{filter_map-append}
use Rattle.std.specs.List.{AllByRecursion, filter_map, flat_map}
use Rattle.cedar_data.specs.Maps.{map_values}
use Rattle.cedar_names.specs.Components.{components}
use Rattle.cedar_names.specs.declared.internal_name.InternalName.{InternalName}
use Rattle.cedar_missing.specs.of_schema_error.FullNames.{FullName}
use Rattle.cedar_world.proofs.of_unfold.SchemaTypes.{is_common, type_is, variant_boolean, variant_either, variant_entity, variant_extension, variant_long, variant_set, variant_string}
use Rattle.cedar_world.specs.of_unfold.Written.{Written}
use Rattle.cedar_world.specs.of_unfold.WrittenViews.{attribute_view, record_view, type_view, variant_view, written_attribute, written_attributes, written_record, written_type, written_variant}
use Rattle.cedar_world.specs.Undeclared.{all_entity_references, attribute_entity_references, entity_references}
use Rattle.cedar_written.proofs.TypeFolds.{fold-Boolean, fold-CommonTypeRef, fold-Entity, fold-EntityOrCommon, fold-Extension, fold-Long, fold-Record, fold-Set, fold-String, fold-Variant, fold-attribute_of, fold-record_of}
use Rattle.cedar_written.proofs.TypeInduction.{by_cases}
use Rattle.cedar_written.specs.Reference.{Reference, named, parent}
use Rattle.cedar_written.specs.References.{Refs, attribute_refs, record_refs, references, references_of_attribute, references_of_record, references_of_variant, type_refs, variant_refs}
use Rattle.cedar_written.specs.declared.reference_type.ReferenceType.TheVariants.{Common, Entity, CommonOrEntity}
use Rattle.cedar_written.specs.declared.ty.RecordType.{RecordType}
use Rattle.cedar_written.specs.declared.ty.SchemaType.{SchemaType}
use Rattle.cedar_written.specs.declared.ty.SchemaType.TheVariants as type
use Rattle.cedar_written.specs.declared.ty.TypeOfAttribute.{TypeOfAttribute}
use Rattle.cedar_written.specs.declared.ty.TypeVariant.{TypeVariant}
use Rattle.cedar_written.specs.declared.ty.TypeVariant.TheVariants as variant
use Rattle.cedar_undeclared.specs.Gathering.{references_of_types}
use Rattle.cedar_undeclared.specs.Undeclared.{full_types}

-- the name at a place where only an entity type may stand
abbrev pub entity_at : Reference InternalName → Option InternalName
entity_at (named Common name) = None
entity_at (named Entity name) = Some name
entity_at (named CommonOrEntity name) = None
entity_at (parent id ty) = None

-- those of references
abbrev pub entities : Refs InternalName → List InternalName
entities rs = filter_map entity_at rs

abbrev seen : Refs InternalName → List FullName
seen rs = map components (entities rs)

seen-append : (xs ys : Refs InternalName) → seen (xs ++ ys) ≡ seen xs ++ seen ys
seen-append xs ys = ap (map components) (filter_map-append entity_at xs ys) ∙ map-append components (entities xs) (entities ys)

-- a type has these references
abbrev Has : Written FullName → Refs InternalName → Type 0
Has t rs = entity_references t ≡ seen rs

abbrev P1 : SchemaType InternalName → Type 0
P1 t = Has (written_type components t) (references t)

abbrev P2 : TypeVariant InternalName → Type 0
P2 v = Has (written_variant components v) (references_of_variant v)

abbrev P3 : RecordType InternalName → Type 0
P3 r = Has (written_record components r) (references_of_record r)

abbrev P4 : TypeOfAttribute InternalName → Type 0
P4 a = Has (written_attribute components a).1 (references_of_attribute a)

-- the same type and the same references
same_has : (t u : Written FullName) (rs ss : Refs InternalName) → t ≡ u → rs ≡ ss → Has u ss → Has t rs
same_has t u rs ss p q h = ap entity_references p ∙ h ∙ sym (ap seen q)

each_seen : (es : List (List ℕ × TypeOfAttribute InternalName)) → AllByRecursion {X = List ℕ × TypeOfAttribute InternalName} (λ e. P4 e.1) es
    → attribute_entity_references (written_attributes (map_values (written_attribute components) es)) ≡ seen (flat_map (λ e. e.1) (map_values references_of_attribute es))
each_seen [] all = refl
each_seen (e ∷ es) all =
    ap (λ l. l ++ attribute_entity_references (written_attributes (map_values (written_attribute components) es))) all.0
    ∙ ap (λ l. seen (references_of_attribute e.1) ++ l) (each_seen es all.1)
    ∙ sym (seen-append (references_of_attribute e.1) (flat_map (λ e. e.1) (map_values references_of_attribute es)))

-- of a type
pub entities_seen : (t : SchemaType InternalName) → entity_references (written_type components t) ≡ map components (entities (references t))
entities_seen = by_cases P1 P2 P3 P4 (record {
  of_variant = λ v loc ih. same_has _ (written_variant components v) _ _ (type_is components (type.Variant v loc) v loc (written_variant components v) refl refl) (fold-Variant type_refs variant_refs record_refs attribute_refs v loc) ih;
  of_common = λ n loc. same_has _ _ _ _ (is_common components (type.CommonTypeRef n loc) n loc refl) (fold-CommonTypeRef type_refs variant_refs record_refs attribute_refs n loc) refl;
  of_string = same_has _ _ _ _ (variant_string components variant.String refl) (fold-String type_refs variant_refs record_refs attribute_refs) refl;
  of_long = same_has _ _ _ _ (variant_long components variant.Long refl) (fold-Long type_refs variant_refs record_refs attribute_refs) refl;
  of_boolean = same_has _ _ _ _ (variant_boolean components variant.Boolean refl) (fold-Boolean type_refs variant_refs record_refs attribute_refs) refl;
  of_set = λ t ih. same_has _ _ _ _ (variant_set components (variant.Set t) t refl) (fold-Set type_refs variant_refs record_refs attribute_refs t) ih;
  of_record = λ r ih. same_has _ (written_record components r) _ _ (fold-Record (type_view components) (variant_view components) (record_view components) (attribute_view components) r) (fold-Record type_refs variant_refs record_refs attribute_refs r) ih;
  of_entity = λ n. same_has _ _ _ _ (variant_entity components (variant.Entity n) n refl) (fold-Entity type_refs variant_refs record_refs attribute_refs n) refl;
  of_entity_or_common = λ n. same_has _ _ _ _ (variant_either components (variant.EntityOrCommon n) n refl) (fold-EntityOrCommon type_refs variant_refs record_refs attribute_refs n) refl;
  of_extension = λ id. same_has _ _ _ _ (variant_extension components (variant.Extension id) id refl) (fold-Extension type_refs variant_refs record_refs attribute_refs id) refl;
  of_attributes = λ es additional all. same_has _ _ _ _ (fold-record_of (type_view components) (variant_view components) (record_view components) (attribute_view components) es additional) (fold-record_of type_refs variant_refs record_refs attribute_refs es additional) (each_seen es all);
  of_attribute = λ t annotations required ih. same_has _ _ _ _ (ap (λ a. a.1) (fold-attribute_of (type_view components) (variant_view components) (record_view components) (attribute_view components) t annotations required)) (fold-attribute_of type_refs variant_refs record_refs attribute_refs t annotations required) ih;
})

-- of the types of a map
pub all_entities_seen : {K : Type 0} (es : List (K × SchemaType InternalName)) → all_entity_references (full_types es) ≡ map components (entities (references_of_types es))
all_entities_seen [] = refl
all_entities_seen (e ∷ es) =
    ap (λ l. l ++ all_entity_references (full_types es)) (entities_seen e.1)
    ∙ ap (λ l. seen (references e.1) ++ l) (all_entities_seen es)
    ∙ sym (seen-append (references e.1) (references_of_types es))
