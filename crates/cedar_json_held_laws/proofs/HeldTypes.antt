-- SPDX-License-Identifier: Apache-2.0
-- Types that are in order, nest no deeper than types may, and name no word of types may be written.
use Rattle.std.proofs.Common.{arith, ◌≡◌, ◌+◌, ◌≤◌, ◌∷◌, max, refl, sym, ap, subst}
use Rattle.std.specs.List.Sorted.{IsStrictlySortedBy}
use Rattle.cedar_names.specs.Order.{word_cmp}
use Rattle.cedar_tree.specs.Nesting.{greatest_nest, nest}
use Rattle.cedar_convert_fragment.specs.Fragments.{Fields, Form, TypeAt, boolean, common_type, entity, entity_or_common, extension, field, long, no_fields, record_of, set_of, string, written}
use Rattle.cedar_in_order.specs.InOrder.{FieldsInOrder, FormInOrder, TypeInOrder}
use Rattle.cedar_reread.specs.EachType.{Nests}
use Rattle.cedar_reread.specs.TreesRead.{fields_read, form_read, type_read}
use Rattle.cedar_reread_declares.specs.Rereadable.{field_names}
use Rattle.cedar_json_schema_laws.specs.TypeWords.{IsNoWord}
use Rattle.cedar_json_schema_laws.proofs.DeclaredTypes.{ShapeFits}
use Rattle.cedar_json_schema_laws.proofs.SeenTypes.{AreOrdered, Fits, IsOrdered, IsOrderedForm, depth, fields_depth, form_depth, names_of}
use Rattle.cedar_json_held_laws.specs.Readable.{FieldsNameNoType, FormNamesNoType, NamesNoType}

-- a type is as deep as the tree that is printed of it
mutual
  depth_read : (t : TypeAt) → depth t ≡ nest (type_read t)
  depth_read (written form place) = form_depth_read form
  depth_read (common_type name place) = refl

  form_depth_read : (f : Form) → form_depth f ≡ nest (form_read f)
  form_depth_read string = refl
  form_depth_read long = refl
  form_depth_read boolean = refl
  form_depth_read (set_of element) = ap (λ n. n + 1) (depth_read element)
  form_depth_read (record_of attributes others) = ap (λ n. n + 1) (fields_depth_read attributes)
  form_depth_read (entity name) = refl
  form_depth_read (entity_or_common name) = refl
  form_depth_read (extension name) = refl

  fields_depth_read : (fs : Fields) → fields_depth fs ≡ greatest_nest (fields_read fs)
  fields_depth_read no_fields = refl
  fields_depth_read (field name ty annotations required others) = λ i. max (depth_read ty i) (fields_depth_read others i)

names_same : (fs : Fields) → field_names fs ≡ names_of fs
names_same no_fields = refl
names_same (field name ty annotations required others) = ap (λ names. name ∷ names) (names_same others)

-- the order of what stands in it
mutual
  type_ordered : (t : TypeAt) → TypeInOrder t → NamesNoType t → IsOrdered t
  type_ordered (written form place) sorted other = form_ordered form sorted other
  type_ordered (common_type name place) sorted other = other

  form_ordered : (f : Form) → FormInOrder f → FormNamesNoType f → IsOrderedForm f
  form_ordered string sorted other = tt
  form_ordered long sorted other = tt
  form_ordered boolean sorted other = tt
  form_ordered (set_of element) sorted other = type_ordered element sorted other
  form_ordered (record_of attributes others) sorted other = (subst (IsStrictlySortedBy word_cmp) (names_same attributes) sorted.0, fields_ordered attributes sorted.1 other)
  form_ordered (entity name) sorted other = tt
  form_ordered (entity_or_common name) sorted other = tt
  form_ordered (extension name) sorted other = tt

  fields_ordered : (fs : Fields) → FieldsInOrder fs → FieldsNameNoType fs → AreOrdered fs
  fields_ordered no_fields sorted other = tt
  fields_ordered (field name ty annotations required others) sorted other = (type_ordered ty sorted.1 other.0, sorted.0, fields_ordered others sorted.2 other.1)

pub type_fits : (t : TypeAt) → TypeInOrder t → NamesNoType t → Nests 128 t → Fits 129 t
type_fits t sorted other nests =
    let deep : depth t ≤ 128 = subst (λ n. n ≤ 128) (sym (depth_read t)) nests in
    (omega (arith, deep), type_ordered t sorted other)

-- a shape or a context
pub shape_fits : (t : TypeAt) → TypeInOrder t → NamesNoType t → Nests 128 t → ShapeFits t
shape_fits (written form place) sorted other nests = type_fits (written form place) sorted other nests
shape_fits (common_type name place) sorted other nests = tt

pub is_no_word : (t : TypeAt) → NamesNoType t → IsNoWord t
is_no_word (written form place) other = tt
is_no_word (common_type name place) other = other
