-- SPDX-License-Identifier: Apache-2.0
-- Types of a fragment by words and places that may be written: how deep they nest, and the order of what stands in them.
use Rattle.std.proofs.Common.{arith, ◌≡◌, ◌+◌, ◌<◌, ◌≤◌, ℕ, List, [], ◌∷◌, max, refl, ap}
use Rattle.std.specs.Prelude.{⊤}
use Rattle.std.specs.List.{AllByRecursion}
use Rattle.std.specs.List.Sorted.{IsStrictlySortedBy}
use Rattle.std.specs.Map.{keys_of}
use Rattle.cedar_data.specs.Maps.{IsSortedMap}
use Rattle.cedar_names.specs.Order.{word_cmp}
use Rattle.cedar_text.specs.Joining.{joined}
use Rattle.cedar_tree.specs.Trees.{Text}
use Rattle.cedar_json_types.specs.Types.{word_of}
use Rattle.cedar_json_types.specs.declared.words.TypeWord.TheVariants as word
use Rattle.cedar_convert_fragment.specs.Fragments.{FieldAt, Fields, Form, TypeAt, fields, written, common_type, set_of, record_of, no_fields, field}

-- how deep a type nests
abbrev mutual
  pub depth : TypeAt → ℕ
  depth (written form place) = form_depth form
  depth (common_type name place) = 0

  pub form_depth : Form → ℕ
  form_depth (set_of element) = depth element + 1
  form_depth (record_of attributes others) = fields_depth attributes + 1
  form_depth _ = 0

  pub fields_depth : Fields → ℕ
  fields_depth no_fields = 0
  fields_depth (field name ty annotations required others) = max (depth ty) (fields_depth others)

-- the names of attributes
abbrev pub names_of : Fields → List Text
names_of no_fields = []
names_of (field name ty annotations required others) = name ∷ names_of others

-- attributes and annotations are in the order of their names, and the name of a common type is no word of types
abbrev mutual
  pub IsOrdered : TypeAt → Type 0
  IsOrdered (written form place) = IsOrderedForm form
  IsOrdered (common_type name place) = word_of (joined name.words) ≡ word.Other

  pub IsOrderedForm : Form → Type 0
  IsOrderedForm (set_of element) = IsOrdered element
  IsOrderedForm (record_of attributes others) = IsStrictlySortedBy word_cmp (names_of attributes) × AreOrdered attributes
  IsOrderedForm _ = ⊤

  pub AreOrdered : Fields → Type 0
  AreOrdered no_fields = ⊤
  AreOrdered (field name ty annotations required others) = IsOrdered ty × IsSortedMap word_cmp annotations × AreOrdered others

-- fewer than n sets and records nest in the type, which is in order
abbrev pub Fits : ℕ → TypeAt → Type 0
Fits n t = (depth t < n) × IsOrdered t

abbrev pub FormFits : ℕ → Form → Type 0
FormFits n f = (form_depth f < n) × IsOrderedForm f

-- the type of an attribute is so, and its annotations are in order
abbrev pub FieldFits : ℕ → FieldAt → Type 0
FieldFits n f = Fits n f.ty × IsSortedMap word_cmp f.annotations

-- of attributes by name
pub names_of-fields : (es : List (Text × FieldAt)) → names_of (fields es) ≡ keys_of es
names_of-fields [] = refl
names_of-fields (e ∷ es) = ap (λ names. e.0 ∷ names) (names_of-fields es)

pub each_field : (n : ℕ) (es : List (Text × FieldAt)) → fields_depth (fields es) < n → AreOrdered (fields es) → AllByRecursion {X = Text × FieldAt} (λ e. FieldFits n e.1) es
each_field n [] deep ordered = tt
each_field n (e ∷ es) deep ordered = (((omega arith, ordered.0), ordered.1), each_field n es (omega arith) ordered.2)

pub of_each_field : (n : ℕ) (es : List (Text × FieldAt)) → AllByRecursion {X = Text × FieldAt} (λ e. FieldFits (n + 1) e.1) es → (fields_depth (fields es) ≤ n) × AreOrdered (fields es)
of_each_field n [] all = (omega arith, tt)
of_each_field n (e ∷ es) all =
    let rest = of_each_field n es all.1 in
    let deep : depth e.1.ty < n + 1 = all.0.0.0 in
    (omega (arith, rest.0), (all.0.0.1, all.0.1, rest.1))
