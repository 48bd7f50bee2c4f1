-- SPDX-License-Identifier: Apache-2.0
-- How shapes, contexts and tags are read.
use Rattle.std.proofs.Common.{◌≡◌, ◌≤◌, ℕ, Bool, true, false, [], ◌∷◌, ◌++◌, codes, refl, sym, inl, inr, Option, Some, None, if◌then◌else◌}
use Rattle.std.specs.Prelude.{IfSome}
use Rattle.std.specs.Option.{option_map}
use Rattle.cedar_tree.specs.Nesting.{greatest_nest, nest}
use Rattle.cedar_tree.specs.Trees.{Node, Place, TypeTree, ContextDecl, Shape, Named, no_attrs}
use Rattle.cedar_tree.specs.Unplaced.{nowhere}
use Rattle.cedar_grammar.specs.Grammar.{context_type, shape_at, shape_decl, tags_clause, type_upto}
use Rattle.cedar_grammar.specs.Productions.{maybe}
use Rattle.cedar_convert_fragment.specs.Fragments.{Fields, Form, NameAt, TypeAt, written, common_type, string, long, boolean, set_of, record_of, entity, entity_or_common, extension, no_fields, field}
use Rattle.cedar_reread.specs.Said.{Tokens, is_empty_form, is_empty_shape, mark_token, said_form, said_name, said_shape, said_tags, said_type}
use Rattle.cedar_reread.specs.TreesRead.{bare, fields_read, name_read, node_read, shape_form_read, shape_read, type_read}
use Rattle.cedar_reread.proofs.Annotated.{mark_read}
use Rattle.cedar_reread.proofs.Paths.{AreIds, path_read}
use Rattle.cedar_reread.proofs.Types.{FieldsWorded, TypeWorded, keyword_read, record_reads, type_reads}

-- a record whose parts nest at most n deep, or a name that may be a common type
abbrev pub FormIsShape : ℕ → Form → Type 0
FormIsShape n (record_of attributes others) = (greatest_nest (fields_read attributes) ≤ n) × FieldsWorded attributes
FormIsShape n (entity_or_common name) = AreIds name.words
FormIsShape n _ = ⊥

abbrev pub IsShape : ℕ → TypeAt → Type 0
IsShape n (written form place) = FormIsShape n form
IsShape n (common_type name place) = AreIds name.words

-- a type of names that nests at most n deep
abbrev pub IsType : ℕ → TypeAt → Type 0
IsType n ty = (nest (type_read ty) ≤ n) × TypeWorded ty

module _ (n : ℕ) where
  name_context : (name : NameAt) (rest : Tokens) → AreIds name.words → (context_type (type_upto n)).reads (said_name name ++ rest) (bare (Named (name_read name))) rest
  name_context name rest ids = inl (name_read name, rest, path_read name.words rest ids, (refl, refl))

  form_context : (form : Form) (rest : Tokens) → FormIsShape n form → (context_type (type_upto n)).reads (said_form form ++ rest) (bare (shape_form_read form)) rest
  form_context (record_of attributes others) rest is = inr (bare (fields_read attributes), rest, record_reads n attributes rest is.0 is.1, (refl, refl))
  form_context (entity_or_common name) rest is = name_context name rest is
  form_context string rest is = absurd is
  form_context long rest is = absurd is
  form_context boolean rest is = absurd is
  form_context (set_of element) rest is = absurd is
  form_context (entity name) rest is = absurd is
  form_context (extension name) rest is = absurd is

  pub context_read : (context : TypeAt) (rest : Tokens) → IsShape n context → (context_type (type_upto n)).reads (said_type context ++ rest) (bare (shape_read context)) rest
  context_read (written form place) rest is = form_context form rest is
  context_read (common_type name place) rest is = name_context name rest is

  -- ---- shapes

  name_shape : (name : NameAt) (rest : Tokens) → AreIds name.words → (shape_decl (type_upto n)).reads (mark_token (codes "=") ∷ (said_name name ++ rest)) (Named (name_read name)) rest
  name_shape name rest ids =
      let behind = said_name name ++ rest in
      inr (name_read name, rest, (bare (codes "="), behind, mark_read (codes "=") behind refl, path_read name.words rest ids), (refl, refl))

  record_shape : (attributes : Fields) (others : Bool) (rest : Tokens) → greatest_nest (fields_read attributes) ≤ n → FieldsWorded attributes
      → (shape_decl (type_upto n)).reads (mark_token (codes "=") ∷ (said_form (record_of attributes others) ++ rest)) (Shape (bare (fields_read attributes))) rest
  record_shape attributes others rest deep worded =
      let behind = said_form (record_of attributes others) ++ rest in
      inl (
        bare (fields_read attributes),
        rest,
        (true, behind, inl (bare (codes "="), behind, mark_read (codes "=") behind refl, (refl, refl)), record_reads n attributes rest deep worded),
        (refl, refl),
      )

  form_shape : (form : Form) (rest : Tokens) → FormIsShape n form → (shape_decl (type_upto n)).reads (mark_token (codes "=") ∷ (said_form form ++ rest)) (shape_form_read form) rest
  form_shape (record_of attributes others) rest is = record_shape attributes others rest is.0 is.1
  form_shape (entity_or_common name) rest is = name_shape name rest is
  form_shape string rest is = absurd is
  form_shape long rest is = absurd is
  form_shape boolean rest is = absurd is
  form_shape (set_of element) rest is = absurd is
  form_shape (entity name) rest is = absurd is
  form_shape (extension name) rest is = absurd is

  type_shape : (shape : TypeAt) (rest : Tokens) → IsShape n shape → (shape_decl (type_upto n)).reads (mark_token (codes "=") ∷ (said_type shape ++ rest)) (shape_read shape) rest
  type_shape (written form place) rest is = form_shape form rest is
  type_shape (common_type name place) rest is = name_shape name rest is

  -- the shape that is read, where one is written
  abbrev pub shape_written : TypeAt → Option ContextDecl
  shape_written shape = if is_empty_shape shape then None else Some (shape_read shape)

  pub shape_reads : (shape : TypeAt) (rest : Tokens) → IsShape n shape → (maybe (shape_decl (type_upto n))).reads (said_shape shape ++ rest) (shape_written shape) rest
  shape_reads shape rest is = by (is_empty_shape shape)
    where
      by : (t : Bool) → (maybe (shape_decl (type_upto n))).reads ((if t then [] else mark_token (codes "=") ∷ said_type shape) ++ rest) (if t then None else Some (shape_read shape)) rest
      by true = inr (refl, refl)
      by false = inl (shape_read shape, rest, type_shape shape rest is, (refl, refl))

  -- an empty one is the record that stands where none is written
  empty_form : (form : Form) → is_empty_form form ≡ true → shape_form_read form ≡ Shape (bare no_attrs)
  empty_form (record_of no_fields others) e = refl
  empty_form (record_of (field name ty annotations required more) others) e = cc
  empty_form string e = cc
  empty_form long e = cc
  empty_form boolean e = cc
  empty_form (set_of element) e = cc
  empty_form (entity name) e = cc
  empty_form (entity_or_common name) e = cc
  empty_form (extension name) e = cc

  empty_type : (shape : TypeAt) → is_empty_shape shape ≡ true → shape_read shape ≡ Shape (bare no_attrs)
  empty_type (written form place) e = empty_form form e
  empty_type (common_type name place) e = cc

  pub shape_is : (shape : TypeAt) → shape_at (shape_written shape) nowhere ≡ shape_read shape
  shape_is shape = by (is_empty_shape shape) refl
    where
      by : (t : Bool) → is_empty_shape shape ≡ t → shape_at (if t then None else Some (shape_read shape)) nowhere ≡ shape_read shape
      by true e = sym (empty_type shape e)
      by false e = refl

  -- ---- tags

  -- the place of `tags`, and the type
  abbrev pub tags_placed : Option TypeAt → Option (Place × Node TypeTree)
  tags_placed tags = option_map (λ ty. (nowhere, node_read ty)) tags

  pub tags_read : (tags : Option TypeAt) (rest : Tokens) → IfSome tags (IsType n) → (maybe (tags_clause (type_upto n))).reads (said_tags tags ++ rest) (tags_placed tags) rest
  tags_read None rest is = inr (refl, refl)
  tags_read (Some ty) rest is =
      let behind = said_type ty ++ rest in
      inl ((nowhere, node_read ty), rest, (bare (codes "tags"), behind, keyword_read (codes "tags") behind refl, (node_read ty, rest, type_reads n ty rest is.0 is.1, (refl, refl))), (refl, refl))
