-- SPDX-License-Identifier: Apache-2.0
-- What the tree of a type declares.
use Rattle.std.proofs.Common.{◌≡◌, Bool, false, List, [], ◌∷◌, refl, sym, ap, ap₂, ◌∙◌, subst, Option, None}
use Rattle.std.proofs.lemmas.Cmp.{nat_list_cmp_total}
use Rattle.std.specs.List.Sorted.{IsStrictlySortedBy}
use Rattle.std.specs.Map.{keys_of}
use Rattle.cedar_names.specs.Order.{word_cmp}
use Rattle.cedar_tree.specs.Trees.{Text, ByKey, Place}
use Rattle.cedar_tree.specs.Unplaced.{annotations_unplaced, anywhere, nowhere}
use Rattle.cedar_convert_faults.specs.Conditions.{AreDistinct, HasNoRepeat, HaveNoRepeat, names_of_attrs}
use Rattle.cedar_convert_faults.specs.Repeats.{are_distinct, words_of}
use Rattle.cedar_convert_fragment.specs.Declares.{entries_of, record_form, type_of}
use Rattle.cedar_convert_fragment.specs.Fragments.{FieldAt, Fields, Form, TypeAt, fields, written, common_type, string, long, boolean, set_of, record_of, entity, entity_or_common, extension, no_fields, field}
use Rattle.cedar_reread.specs.Placeless.{fields_placeless, form_placeless, type_placeless}
use Rattle.cedar_reread.specs.Rereading.{fields_reread, form_reread, type_reread}
use Rattle.cedar_reread.specs.TreesRead.{fields_read, form_read, type_read}
use Rattle.cedar_reread_declares.specs.Rereadable.{RereadableFields, RereadableForm, RereadableType, field_names}
use Rattle.cedar_reread.proofs.Sorted.{of_itself}
use Rattle.cedar_reread_declares.proofs.Lists.{sorted_distinct}

-- places of annotations are left out once and for all
pub annotations_twice : (annotations : ByKey) → annotations_unplaced (annotations_unplaced annotations) ≡ annotations_unplaced annotations
annotations_twice [] = refl
annotations_twice (a ∷ annotations) = ap (λ (es : ByKey). (a.0, anywhere a.1) ∷ es) (annotations_twice annotations)

-- ---- records

-- the attributes that are read of a record, by name
abbrev read_entries : Fields → List (Text × FieldAt)
read_entries fs = entries_of (fields_read fs)

keys_are : (fs : Fields) → keys_of (read_entries fs) ≡ field_names fs
keys_are no_fields = refl
keys_are (field name ty annotations required others) = ap (λ (ks : List Text). name ∷ ks) (keys_are others)

-- a record declares what its attributes do
record_from : (fs : Fields) (others : Bool) → others ≡ false → IsStrictlySortedBy word_cmp (field_names fs) → fields_placeless (fields (read_entries fs)) ≡ fields_placeless (fields_reread fs)
    → form_placeless (record_form (fields_read fs)) ≡ form_placeless (record_of (fields_reread fs) others)
record_from fs others closed sorted same =
    let in_order = subst (λ (ks : List Text). IsStrictlySortedBy word_cmp ks) (sym (keys_are fs)) sorted in
    ap (λ (es : List (Text × FieldAt)). record_of (fields_placeless (fields es)) false) (of_itself word_cmp nat_list_cmp_total (read_entries fs) in_order)
    ∙ ap₂ (λ (l : Fields) (b : Bool). record_of l b) same (sym closed)

-- ---- types

mutual
  pub type_declared : (t : TypeAt) → RereadableType t → type_placeless (type_of (type_read t) nowhere) ≡ type_placeless (type_reread t)
  type_declared (written form place) is = form_declared form place is
  type_declared (common_type name place) is = refl

  form_declared : (f : Form) (place : Option Place) → RereadableForm f → type_placeless (type_of (form_read f) nowhere) ≡ type_placeless (written (form_reread f) place)
  form_declared string place is = refl
  form_declared long place is = refl
  form_declared boolean place is = refl
  form_declared (entity name) place is = refl
  form_declared (entity_or_common name) place is = refl
  form_declared (extension name) place is = refl
  form_declared (set_of element) place is = ap (λ (t : TypeAt). written (set_of t) None) (type_declared element is)
  form_declared (record_of attributes others) place is = ap (λ (f : Form). written f None) (record_from attributes others is.0 is.1 (fields_declared attributes is.2))

  fields_declared : (fs : Fields) → RereadableFields fs → fields_placeless (fields (read_entries fs)) ≡ fields_placeless (fields_reread fs)
  fields_declared no_fields is = refl
  fields_declared (field name ty annotations required others) is =
      let here = type_declared ty is.0 in
      let noted = annotations_twice annotations in
      let behind = fields_declared others is.1 in
      λ i. field name (here i) (noted i) required (behind i)

-- the record of attributes
pub record_declared : (fs : Fields) (others : Bool) → RereadableForm (record_of fs others) → form_placeless (record_form (fields_read fs)) ≡ form_placeless (record_of (fields_reread fs) others)
record_declared fs others is = record_from fs others is.0 is.1 (fields_declared fs is.2)

-- ---- no name of an attribute stands twice

words_are : (fs : Fields) → words_of (names_of_attrs (fields_read fs)) ≡ field_names fs
words_are no_fields = refl
words_are (field name ty annotations required others) = ap (λ (ks : List Text). name ∷ ks) (words_are others)

names_distinct : (fs : Fields) → IsStrictlySortedBy word_cmp (field_names fs) → AreDistinct (names_of_attrs (fields_read fs))
names_distinct fs sorted = ap are_distinct (words_are fs) ∙ sorted_distinct (field_names fs) sorted

mutual
  pub type_distinct : (t : TypeAt) → RereadableType t → HasNoRepeat (type_read t)
  type_distinct (written form place) is = form_distinct form is
  type_distinct (common_type name place) is = tt

  pub form_distinct : (f : Form) → RereadableForm f → HasNoRepeat (form_read f)
  form_distinct string is = tt
  form_distinct long is = tt
  form_distinct boolean is = tt
  form_distinct (entity name) is = tt
  form_distinct (entity_or_common name) is = tt
  form_distinct (extension name) is = tt
  form_distinct (set_of element) is = type_distinct element is
  form_distinct (record_of attributes others) is = (names_distinct attributes is.1, fields_distinct attributes is.2)

  fields_distinct : (fs : Fields) → RereadableFields fs → HaveNoRepeat (fields_read fs)
  fields_distinct no_fields is = tt
  fields_distinct (field name ty annotations required others) is = (type_distinct ty is.0, fields_distinct others is.1)
