-- SPDX-License-Identifier: Apache-2.0
-- What is written in JSON of a type is what is written of it as it is seen.
use Rattle.std.proofs.Common.{◌≡◌, ℕ, Bool, true, false, not, List, [], ◌∷◌, ◌++◌, codes, Option, refl, sym, ap, ◌∙◌}
use Rattle.std.specs.List.{AllByRecursion}
use Rattle.serde_json.specs.Data.{boolean}
use Rattle.cedar_data.specs.Maps.{map_values}
use Rattle.cedar_text.specs.declared.location.Loc.{Loc}
use Rattle.cedar_names.specs.Annotating.{annotation_entries}
use Rattle.cedar_names.specs.Identifiers.{any_word}
use Rattle.cedar_names.specs.declared.annotation.Annotation.{Annotation}
use Rattle.cedar_names.specs.declared.annotation.Annotations.{Annotations}
use Rattle.cedar_names.specs.declared.any_id.AnyId.{AnyId}
use Rattle.cedar_names.specs.declared.id.UnreservedId.{UnreservedId}
use Rattle.cedar_tree.specs.Meanings.{annotations_tree, place_where}
use Rattle.cedar_tree.specs.Trees.{Node, Text}
use Rattle.cedar_written.proofs.TypeFolds.{fold-Boolean, fold-CommonTypeRef, fold-Entity, fold-EntityOrCommon, fold-Extension, fold-Long, fold-Record, fold-Set, fold-String, fold-Variant, fold-attribute_of, fold-record_of}
use Rattle.cedar_written.proofs.TypeInduction as made
use Rattle.cedar_written.proofs.TypeInduction.{attribute_of, by_cases}
use Rattle.cedar_written.specs.declared.raw_name.RawName.{RawName}
use Rattle.cedar_written.specs.declared.ty.RecordType.{RecordType}
use Rattle.cedar_written.specs.declared.ty.SchemaType.{SchemaType}
use Rattle.cedar_written.specs.declared.ty.SchemaType.TheVariants as type
use Rattle.cedar_written.specs.declared.ty.TypeOfAttribute.{TypeOfAttribute}
use Rattle.cedar_written.specs.declared.ty.TypeVariant.{TypeVariant}
use Rattle.cedar_written.specs.declared.ty.TypeVariant.TheVariants as variant
use Rattle.cedar_convert_fragment.specs.Fragments.{fields}
use Rattle.cedar_convert_fragment.specs.Views.{attribute_seen, form_seen, record_seen, see_attribute, see_form, see_record, see_type, type_seen}
use Rattle.cedar_json_write.specs.Written.{Field, annotation_json, annotations_json, attribute_fields, attribute_step, notes, object_of, record_fields, record_step, type_fields, type_json, type_step, typed, unless, variant_fields, variant_step}
use Rattle.cedar_seen_laws.proofs.Lists.{any_same, map_same}
use Rattle.cedar_seen_laws.proofs.SeenJson.{attribute_members, fields_members, form_members, note_value, noted, notes_value, type_members, type_value}

-- ---- annotations

abbrev see_note : AnyId × Annotation → Text × Node Text
see_note a = (any_word a.0, record { node = a.1.val; loc = place_where a.1.loc })

pub notes_same : (a : Annotations) → notes a ≡ noted (annotations_tree a)
notes_same a =
    any_same see_note (codes "annotations") annotations_json notes_value
    (map_same any_word (λ a. record { node = a.val; loc = place_where a.loc }) any_word (λ k. k) annotation_json note_value (λ k. refl) (λ a. refl)) (annotation_entries a)

-- ---- types

abbrev P1 : SchemaType RawName → Type 0
P1 t = type_fields t ≡ type_members (type_seen t)

abbrev P2 : TypeVariant RawName → Type 0
P2 v = variant_fields v ≡ form_members (form_seen v)

abbrev P3 : RecordType RawName → Type 0
P3 r = typed (codes "Record") ∷ record_fields r ≡ form_members (record_seen r)

abbrev P4 : TypeOfAttribute RawName → Type 0
P4 a = attribute_fields a ≡ attribute_members (attribute_seen a)

variant_same : (v : TypeVariant RawName) (loc : Option Loc) → P2 v → P1 (type.Variant v loc)
variant_same v loc same = fold-Variant type_step variant_step record_step attribute_step v loc ∙ same ∙ sym (ap type_members (fold-Variant see_type see_form see_record see_attribute v loc))

common_same : (name : RawName) (loc : Option Loc) → P1 (type.CommonTypeRef name loc)
common_same name loc = fold-CommonTypeRef type_step variant_step record_step attribute_step name loc ∙ sym (ap type_members (fold-CommonTypeRef see_type see_form see_record see_attribute name loc))

string_same : P2 variant.String
string_same = fold-String type_step variant_step record_step attribute_step ∙ sym (ap form_members (fold-String see_type see_form see_record see_attribute))

long_same : P2 variant.Long
long_same = fold-Long type_step variant_step record_step attribute_step ∙ sym (ap form_members (fold-Long see_type see_form see_record see_attribute))

boolean_same : P2 variant.Boolean
boolean_same = fold-Boolean type_step variant_step record_step attribute_step ∙ sym (ap form_members (fold-Boolean see_type see_form see_record see_attribute))

set_same : (t : SchemaType RawName) → P1 t → P2 (variant.Set t)
set_same t same =
    fold-Set type_step variant_step record_step attribute_step t
    ∙ ap (λ element. typed (codes "Set") ∷ (codes "element", object_of element) ∷ []) same
    ∙ sym (ap form_members (fold-Set see_type see_form see_record see_attribute t))

record_same : (r : RecordType RawName) → P3 r → P2 (variant.Record r)
record_same r same = fold-Record type_step variant_step record_step attribute_step r ∙ same ∙ sym (ap form_members (fold-Record see_type see_form see_record see_attribute r))

entity_same : (name : RawName) → P2 (variant.Entity name)
entity_same name = fold-Entity type_step variant_step record_step attribute_step name ∙ sym (ap form_members (fold-Entity see_type see_form see_record see_attribute name))

either_same : (name : RawName) → P2 (variant.EntityOrCommon name)
either_same name = fold-EntityOrCommon type_step variant_step record_step attribute_step name ∙ sym (ap form_members (fold-EntityOrCommon see_type see_form see_record see_attribute name))

extension_same : (id : UnreservedId) → P2 (variant.Extension id)
extension_same id = fold-Extension type_step variant_step record_step attribute_step id ∙ sym (ap form_members (fold-Extension see_type see_form see_record see_attribute id))

-- attributes by name
each_same : (es : List (List ℕ × TypeOfAttribute RawName)) → AllByRecursion {X = List ℕ × TypeOfAttribute RawName} (λ e. P4 e.1) es
    → map_values object_of (map_values attribute_fields es) ≡ fields_members (fields (map_values attribute_seen es))
each_same [] all = refl
each_same (e ∷ es) all = λ i. (e.0, object_of (all.0 i)) ∷ each_same es all.1 i

attributes_same : (es : List (List ℕ × TypeOfAttribute RawName)) (additional : Bool) → AllByRecursion {X = List ℕ × TypeOfAttribute RawName} (λ e. P4 e.1) es → P3 (made.record_of es additional)
attributes_same es additional all =
    ap (λ fs. typed (codes "Record") ∷ fs) (fold-record_of type_step variant_step record_step attribute_step es additional)
    ∙ ap (λ (fs : List Field). typed (codes "Record") ∷ (codes "attributes", object_of fs) ∷ unless (not additional) (codes "additionalAttributes") (boolean true)) (each_same es all)
    ∙ sym (ap form_members (fold-record_of see_type see_form see_record see_attribute es additional))

attribute_same : (t : SchemaType RawName) (annotations : Annotations) (required : Bool) → P1 t → P4 (attribute_of t annotations required)
attribute_same t annotations required same =
    fold-attribute_of type_step variant_step record_step attribute_step t annotations required
    ∙ (λ i. same i ++ (unless required (codes "required") (boolean false) ++ notes_same annotations i))
    ∙ sym (ap attribute_members (fold-attribute_of see_type see_form see_record see_attribute t annotations required))

pub type_same : (t : SchemaType RawName) → type_fields t ≡ type_members (type_seen t)
type_same = by_cases P1 P2 P3 P4 (record {
  of_variant = variant_same;
  of_common = common_same;
  of_string = string_same;
  of_long = long_same;
  of_boolean = boolean_same;
  of_set = set_same;
  of_record = record_same;
  of_entity = entity_same;
  of_entity_or_common = either_same;
  of_extension = extension_same;
  of_attributes = attributes_same;
  of_attribute = attribute_same;
})

pub value_same : (t : SchemaType RawName) → type_json t ≡ type_value (type_seen t)
value_same t = ap object_of (type_same t)
