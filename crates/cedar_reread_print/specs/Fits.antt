-- SPDX-License-Identifier: Apache-2.0
-- Fragments that the human syntax can write: their types nest at most n deep, the keys of their annotations are in order, and shapes and contexts are records or names.
use Rattle.std.specs.Prelude.{⊤, ℕ, ◌≤◌, List, Option, Some, None, IfSome}
use Rattle.std.specs.List.{AllByRecursion}
use Rattle.cedar_data.specs.Maps.{IsSortedMap}
use Rattle.cedar_names.specs.Order.{word_cmp}
use Rattle.cedar_tree.specs.Nesting.{nest, greatest_nest}
use Rattle.cedar_tree.specs.Trees.{Text, ByKey}
use Rattle.cedar_convert_fragment.specs.Fragments.{ActionContent, AppliesTo, Declared, Definition, EntityContent, Fields, Form, Fragment, TypeAt, written, common_type, set_of, record_of, entity_or_common, no_fields, field, Shaped, Listed}
use Rattle.cedar_reread.specs.TreesRead.{type_read, fields_read}

-- the keys are in order
abbrev pub InOrder : ByKey → Type 0
InOrder annotations = IsSortedMap word_cmp annotations

-- the keys of the annotations of attributes are in order
abbrev mutual
  pub KeysSorted : TypeAt → Type 0
  KeysSorted (written form place) = FormSorted form
  KeysSorted (common_type name place) = ⊤

  pub FormSorted : Form → Type 0
  FormSorted (set_of element) = KeysSorted element
  FormSorted (record_of attributes others) = FieldsSorted attributes
  FormSorted _ = ⊤

  pub FieldsSorted : Fields → Type 0
  FieldsSorted no_fields = ⊤
  FieldsSorted (field name ty annotations required others) = InOrder annotations × KeysSorted ty × FieldsSorted others

module _ (n : ℕ) where
  -- a type nests at most n deep
  abbrev pub TypeFits : TypeAt → Type 0
  TypeFits ty = (nest (type_read ty) ≤ n) × KeysSorted ty

  -- a record whose parts nest at most n deep, or a name that may be a common type
  abbrev pub FormFits : Form → Type 0
  FormFits (record_of attributes others) = (greatest_nest (fields_read attributes) ≤ n) × FieldsSorted attributes
  FormFits (entity_or_common name) = ⊤
  FormFits _ = ⊥

  abbrev pub ShapeFits : TypeAt → Type 0
  ShapeFits (written form place) = FormFits form
  ShapeFits (common_type name place) = ⊤

  abbrev pub EntityFits : EntityContent → Type 0
  EntityFits (Shaped parents shape tags) = ShapeFits shape × IfSome tags TypeFits
  EntityFits (Listed ids) = ⊤

  abbrev pub ApplyFits : AppliesTo → Type 0
  ApplyFits a = ShapeFits a.context

  abbrev pub ActionFits : ActionContent → Type 0
  ActionFits a = IfSome a.applies_to ApplyFits

  -- declarations, with their annotations in order
  abbrev pub CommonEntryFits : Text × Declared TypeAt → Type 0
  CommonEntryFits e = InOrder e.1.annotations × TypeFits e.1.content

  abbrev pub EntityEntryFits : Text × Declared EntityContent → Type 0
  EntityEntryFits e = InOrder e.1.annotations × EntityFits e.1.content

  abbrev pub ActionEntryFits : Text × Declared ActionContent → Type 0
  ActionEntryFits e = InOrder e.1.annotations × ActionFits e.1.content

  abbrev pub DefinitionFits : Definition → Type 0
  DefinitionFits d = AllByRecursion CommonEntryFits d.common_types × AllByRecursion EntityEntryFits d.entity_types × AllByRecursion ActionEntryFits d.actions

  -- the annotations of a named namespace are in order; those of the unnamed one aren't written
  abbrev pub NamedFits : Option (List Text) → Definition → Type 0
  NamedFits None d = ⊤
  NamedFits (Some words) d = InOrder d.annotations

  abbrev pub NamespaceFits : Option (List Text) × Definition → Type 0
  NamespaceFits e = NamedFits e.0 e.1 × DefinitionFits e.1

  -- a fragment
  abbrev pub Fits : Fragment → Type 0
  Fits F = AllByRecursion NamespaceFits F
