-- SPDX-License-Identifier: Apache-2.0
-- What a type that unfolds has: no open record, and no more sets and records inside one another than what it unfolds to.
use Rattle.std.proofs.Common.{◌≡◌, ◌≤◌, false, IsTrue, Option, refl, arith}
use Rattle.std.specs.Prelude.{⊤}
use Rattle.cedar_schema_error.specs.FullNames.{FullName}
use Rattle.cedar_schema_error.specs.NameReferences.{NameReference}
use Rattle.cedar_tree.specs.Nesting as trees
use Rattle.cedar_unfold.specs.Meanings.{Meanings}
use Rattle.cedar_unfold.specs.Resolved.{Resolved, ResolvedAttributes, greatest_nest, is_record, nest}
use Rattle.cedar_unfold.specs.Unfolds.{Unfolds, UnfoldsEach}
use Rattle.cedar_convert_fragment.specs.Fragments.{Fields, Form, TypeAt, written, common_type, string, long, boolean, set_of, record_of, entity, entity_or_common, extension, no_fields, field}
use Rattle.cedar_fragment_world.specs.FragmentWorlds.{fields_of, form_of, type_of}
use Rattle.cedar_reread.specs.TreesRead.{fields_read, form_read, type_read}

-- each record is closed, at every depth
abbrev mutual
  pub IsClosed : TypeAt → Type 0
  IsClosed (written form place) = FormIsClosed form
  IsClosed (common_type name place) = ⊤

  pub FormIsClosed : Form → Type 0
  FormIsClosed (set_of element) = IsClosed element
  FormIsClosed (record_of attributes others) = (others ≡ false) × AreClosed attributes
  FormIsClosed _ = ⊤

  pub AreClosed : Fields → Type 0
  AreClosed no_fields = ⊤
  AreClosed (field name ty annotations required others) = IsClosed ty × AreClosed others

-- a record, or a name that may be one of a common type
abbrev pub FormIsNamedOrRecord : Form → Type 0
FormIsNamedOrRecord (record_of attributes others) = ⊤
FormIsNamedOrRecord (entity_or_common name) = ⊤
FormIsNamedOrRecord _ = ⊥

abbrev pub IsNamedOrRecord : TypeAt → Type 0
IsNamedOrRecord (written form place) = FormIsNamedOrRecord form
IsNamedOrRecord (common_type name place) = ⊤

module _ (m : Meanings NameReference) (ns : Option FullName) where
  mutual
    pub type_closed : (t : TypeAt) (T : Resolved) → Unfolds m (type_of ns t) T → IsClosed t
    type_closed (written form place) T h = form_closed form T h
    type_closed (common_type name place) T h = tt

    form_closed : (f : Form) (T : Resolved) → Unfolds m (form_of ns f) T → FormIsClosed f
    form_closed (set_of element) _ (Unfolds.set {T = T} h) = type_closed element T h
    form_closed (record_of attributes others) _ (Unfolds.closed {rs = rs} h) = (refl, fields_closed attributes rs h)
    form_closed string T h = tt
    form_closed long T h = tt
    form_closed boolean T h = tt
    form_closed (entity name) T h = tt
    form_closed (entity_or_common name) T h = tt
    form_closed (extension name) T h = tt

    fields_closed : (fs : Fields) (rs : ResolvedAttributes) → UnfoldsEach m (fields_of ns fs) rs → AreClosed fs
    fields_closed no_fields rs h = tt
    fields_closed (field name ty annotations required others) _ (UnfoldsEach.each {T = T} {rs = rs} h hs) = (type_closed ty T h, fields_closed others rs hs)

  mutual
    pub type_deep : (t : TypeAt) (T : Resolved) → Unfolds m (type_of ns t) T → trees.nest (type_read t) ≤ nest T
    type_deep (written form place) T h = form_deep form T h
    type_deep (common_type name place) T h = omega arith

    form_deep : (f : Form) (T : Resolved) → Unfolds m (form_of ns f) T → trees.nest (form_read f) ≤ nest T
    form_deep (set_of element) _ (Unfolds.set {T = T} h) = omega (arith, type_deep element T h)
    form_deep (record_of attributes others) _ (Unfolds.closed {rs = rs} h) = omega (arith, fields_deep attributes rs h)
    form_deep string T h = omega arith
    form_deep long T h = omega arith
    form_deep boolean T h = omega arith
    form_deep (entity name) T h = omega arith
    form_deep (entity_or_common name) T h = omega arith
    form_deep (extension name) T h = omega arith

    fields_deep : (fs : Fields) (rs : ResolvedAttributes) → UnfoldsEach m (fields_of ns fs) rs → trees.greatest_nest (fields_read fs) ≤ greatest_nest rs
    fields_deep no_fields rs h = omega arith
    fields_deep (field name ty annotations required others) _ (UnfoldsEach.each {T = T} {rs = rs} h hs) = omega (arith, type_deep ty T h, fields_deep others rs hs)

  form_shaped : (f : Form) (T : Resolved) → Unfolds m (form_of ns f) T → IsTrue (is_record T) → FormIsNamedOrRecord f
  form_shaped (record_of attributes others) T h is = tt
  form_shaped (entity_or_common name) T h is = tt
  form_shaped string _ Unfolds.string is = cc
  form_shaped long _ Unfolds.long is = cc
  form_shaped boolean _ Unfolds.boolean is = cc
  form_shaped (set_of element) _ (Unfolds.set h) is = cc
  form_shaped (entity name) _ (Unfolds.entity e free) is = cc
  form_shaped (extension name) _ (Unfolds.extension e) is = cc

  -- what unfolds to a record is one, or a name
  pub type_shaped : (t : TypeAt) (T : Resolved) → Unfolds m (type_of ns t) T → IsTrue (is_record T) → IsNamedOrRecord t
  type_shaped (written form place) T h is = form_shaped form T h is
  type_shaped (common_type name place) T h is = tt
