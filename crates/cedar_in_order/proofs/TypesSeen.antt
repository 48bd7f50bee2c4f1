-- SPDX-License-Identifier: Apache-2.0
-- Types and annotations stand in order as they are seen.
use Rattle.std.proofs.Common.{◌≡◌, ◌++◌, ℕ, List, [], ◌∷◌, Option, refl, sym, ap, ◌∙◌, subst, append_assoc}
use Rattle.std.specs.List.Sorted.{IsStrictlySortedBy}
use Rattle.std.specs.Map.{keys_of}
use Rattle.cedar_data.specs.Maps.{IsSortedMap, map_values}
use Rattle.cedar_names.specs.Annotating.{annotation_entries, any_cmp}
use Rattle.cedar_names.specs.Identifiers.{any_word}
use Rattle.cedar_names.specs.Order.{word_cmp}
use Rattle.cedar_names.specs.declared.annotation.Annotation.{Annotation}
use Rattle.cedar_names.specs.declared.annotation.Annotations.{Annotations}
use Rattle.cedar_names.specs.declared.id.UnreservedId.{UnreservedId}
use Rattle.cedar_names.specs.of_text.declared.location.Loc.{Loc}
use Rattle.cedar_tree.specs.Meanings.{annotations_tree, place_where}
use Rattle.cedar_tree.specs.Trees.{Node, Text}
use Rattle.cedar_written.proofs.TypeFolds.{fold-Variant, fold-CommonTypeRef, fold-String, fold-Long, fold-Boolean, fold-Set, fold-Record, fold-Entity, fold-EntityOrCommon, fold-Extension}
use Rattle.cedar_written.specs.declared.raw_name.RawName.{RawName}
use Rattle.cedar_written.specs.declared.ty.SchemaType.{SchemaType}
use Rattle.cedar_written.specs.declared.ty.SchemaType.TheVariants as type
use Rattle.cedar_written.specs.declared.ty.TypeVariant.{TypeVariant}
use Rattle.cedar_written.specs.declared.ty.TypeVariant.TheVariants as variant
use Rattle.cedar_written.specs.declared.ty.RecordType.{RecordType, out-RecordType, fold_out-RecordType}
use Rattle.cedar_written.specs.declared.ty.TypeOfAttribute.{TypeOfAttribute, out-TypeOfAttribute, fold_out-TypeOfAttribute}
use Rattle.cedar_convert_fragment.specs.Fragments.{FieldAt, Form, TypeAt, fields}
use Rattle.cedar_convert_fragment.specs.Views.{attribute_seen, form_seen, see_attribute, see_form, see_record, see_type, type_seen}
use Rattle.cedar_reread_declares.specs.Rereadable.{field_names}
use Rattle.cedar_in_order.proofs.Ascending.{seen_ascending}
use Rattle.cedar_in_order.specs.InOrder.{FieldsInOrder, FormInOrder, InOrder, TypeInOrder}

-- ---- annotations

-- the value of an annotation, at its place
abbrev note_seen : Annotation → Node Text
note_seen a = record { node = a.val; loc = place_where a.loc }

pub notes-ascend : (a : Annotations) → IsSortedMap any_cmp (annotation_entries a) → InOrder (annotations_tree a)
notes-ascend a s = seen_ascending word_cmp any_word note_seen (annotation_entries a) s

pub ruleset notes_in_order = (notes-ascend)

-- ---- types

pub type-Variant : {t : SchemaType RawName} (v : TypeVariant RawName) (loc : Option Loc) → t ≡ type.Variant v loc → FormInOrder (form_seen v) → TypeInOrder (type_seen t)
type-Variant v loc is h = subst TypeInOrder (sym (ap type_seen is ∙ fold-Variant see_type see_form see_record see_attribute v loc)) h

pub type-CommonTypeRef : {t : SchemaType RawName} (name : RawName) (loc : Option Loc) → t ≡ type.CommonTypeRef name loc → TypeInOrder (type_seen t)
type-CommonTypeRef name loc is = subst TypeInOrder (sym (ap type_seen is ∙ fold-CommonTypeRef see_type see_form see_record see_attribute name loc)) tt

pub form-String : {v : TypeVariant RawName} → v ≡ variant.String → FormInOrder (form_seen v)
form-String is = subst FormInOrder (sym (ap form_seen is ∙ fold-String see_type see_form see_record see_attribute)) tt

pub form-Long : {v : TypeVariant RawName} → v ≡ variant.Long → FormInOrder (form_seen v)
form-Long is = subst FormInOrder (sym (ap form_seen is ∙ fold-Long see_type see_form see_record see_attribute)) tt

pub form-Boolean : {v : TypeVariant RawName} → v ≡ variant.Boolean → FormInOrder (form_seen v)
form-Boolean is = subst FormInOrder (sym (ap form_seen is ∙ fold-Boolean see_type see_form see_record see_attribute)) tt

pub form-Entity : {v : TypeVariant RawName} (name : RawName) → v ≡ variant.Entity name → FormInOrder (form_seen v)
form-Entity name is = subst FormInOrder (sym (ap form_seen is ∙ fold-Entity see_type see_form see_record see_attribute name)) tt

pub form-EntityOrCommon : {v : TypeVariant RawName} (name : RawName) → v ≡ variant.EntityOrCommon name → FormInOrder (form_seen v)
form-EntityOrCommon name is = subst FormInOrder (sym (ap form_seen is ∙ fold-EntityOrCommon see_type see_form see_record see_attribute name)) tt

pub form-Extension : {v : TypeVariant RawName} (name : UnreservedId) → v ≡ variant.Extension name → FormInOrder (form_seen v)
form-Extension name is = subst FormInOrder (sym (ap form_seen is ∙ fold-Extension see_type see_form see_record see_attribute name)) tt

pub form-Set : {v : TypeVariant RawName} (t : SchemaType RawName) → v ≡ variant.Set t → TypeInOrder (type_seen t) → FormInOrder (form_seen v)
form-Set t is h = subst FormInOrder (sym (ap form_seen is ∙ fold-Set see_type see_form see_record see_attribute t)) h

-- attributes by name
abbrev pub Entries : Type 0
Entries = List (List ℕ × TypeOfAttribute RawName)

names-seen : (es : Entries) → field_names (fields (map_values attribute_seen es)) ≡ keys_of es
names-seen [] = refl
names-seen (e ∷ es) = ap (λ ns. e.0 ∷ ns) (names-seen es)

pub form-Record : {v : TypeVariant RawName} (r : RecordType RawName) → v ≡ variant.Record r → IsSortedMap word_cmp (out-RecordType RawName r).attributes
    → FieldsInOrder (fields (map_values attribute_seen (out-RecordType RawName r).attributes)) → FormInOrder (form_seen v)
form-Record r is names each =
    subst FormInOrder
    (sym (ap form_seen is ∙ fold-Record see_type see_form see_record see_attribute r ∙ fold_out-RecordType RawName TypeAt Form Form FieldAt see_type see_form see_record see_attribute r))
    (subst (IsStrictlySortedBy word_cmp) (sym (names-seen (out-RecordType RawName r).attributes)) names, each)

pub attribute-notes : (a : TypeOfAttribute RawName) → InOrder (annotations_tree (out-TypeOfAttribute RawName a).annotations) → InOrder (attribute_seen a).annotations
attribute-notes a h = subst (λ (f : FieldAt). InOrder f.annotations) (sym (fold_out-TypeOfAttribute RawName TypeAt Form Form FieldAt see_type see_form see_record see_attribute a)) h

pub attribute-type : (a : TypeOfAttribute RawName) → TypeInOrder (type_seen (out-TypeOfAttribute RawName a).ty) → TypeInOrder (attribute_seen a).ty
attribute-type a h = subst (λ (f : FieldAt). TypeInOrder f.ty) (sym (fold_out-TypeOfAttribute RawName TypeAt Form Form FieldAt see_type see_form see_record see_attribute a)) h

pub ruleset type_layers = (type-Variant, type-CommonTypeRef, form-String, form-Long, form-Boolean, form-Entity, form-EntityOrCommon, form-Extension, form-Set, form-Record, attribute-notes, attribute-type)

-- ---- attributes

-- a loop over `whole` that has `left` before it has found each attribute before in order
pub record AttributesSoFar (whole left : Entries) : Type 0 where
  pub done : Entries
  pub split : done ++ left ≡ whole
  pub sorted : IsSortedMap word_cmp whole
  pub leads : FieldsInOrder (fields (map_values attribute_seen left)) → FieldsInOrder (fields (map_values attribute_seen whole))

pub Attributes-start : (whole left : Entries) → left ≡ whole → IsSortedMap word_cmp whole → AttributesSoFar whole left
Attributes-start whole left all sorted = record {
  done = [];
  split = all;
  sorted = sorted;
  leads = λ h. subst (λ es. FieldsInOrder (fields (map_values attribute_seen es))) all h;
}

pub Attributes-next : {whole left rest : Entries} {e : List ℕ × TypeOfAttribute RawName} → AttributesSoFar whole left → left ≡ e ∷ rest → InOrder (attribute_seen e.1).annotations → TypeInOrder (attribute_seen e.1).ty → AttributesSoFar whole rest
Attributes-next {rest = rest} {e = e} sofar first notes ty = record {
  done = sofar.done ++ e ∷ [];
  split = append_assoc sofar.done (e ∷ []) rest ∙ ap (λ l. sofar.done ++ l) (sym first) ∙ sofar.split;
  sorted = sofar.sorted;
  leads = λ others. sofar.leads (subst (λ es. FieldsInOrder (fields (map_values attribute_seen es))) (sym first) (notes, ty, others));
}

pub Attributes-end : {whole left : Entries} → AttributesSoFar whole left → left ≡ [] → FieldsInOrder (fields (map_values attribute_seen whole))
Attributes-end sofar none = sofar.leads (subst (λ es. FieldsInOrder (fields (map_values attribute_seen es))) (sym none) tt)

pub Attributes-sorted : {whole left : Entries} → AttributesSoFar whole left → IsSortedMap word_cmp whole
Attributes-sorted sofar = sofar.sorted

pub ruleset each_attribute = (Attributes-start, Attributes-next, Attributes-end, Attributes-sorted)
