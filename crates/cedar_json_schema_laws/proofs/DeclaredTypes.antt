-- SPDX-License-Identifier: Apache-2.0
-- The types that a schema declares nest no deeper than those that it writes, and are in order.
use Rattle.std.proofs.Common.{arith, ◌+◌, ◌<◌, ◌≤◌, ℕ, List, sym, subst}
use Rattle.std.specs.Prelude.{⊤}
use Rattle.std.proofs.lemmas.Cmp.{nat_list_cmp_total}
use Rattle.std.specs.List.{AllByRecursion}
use Rattle.std.specs.List.Sorted.{IsStrictlySortedBy}
use Rattle.cedar_data.specs.Maps.{map_of}
use Rattle.cedar_names.specs.Order.{word_cmp}
use Rattle.cedar_tree.specs.Nesting.{greatest_nest, nest, nest_at_most, types_of_shape}
use Rattle.cedar_tree.specs.Trees.{Attrs, ContextDecl, Ident, Named, Node, Place, Record, Set, Shape, Text, TypeTree, attr, no_attrs}
use Rattle.cedar_grammar.specs.AsRead.{AttrsAsRead, ShapeAsRead, TypeAsRead}
use Rattle.cedar_grammar.proofs.MapsSorted.{map_of-sorted}
use Rattle.cedar_convert_fragment.specs.Declares.{closed, entries_of, shape_type, type_at, type_of}
use Rattle.cedar_convert_fragment.specs.Fragments.{FieldAt, TypeAt, fields, written, common_type}
use Rattle.cedar_json_schema_laws.specs.TypeWords.{IsNoWord}
use Rattle.cedar_json_schema_laws.proofs.Entries.{all_of_map}
use Rattle.cedar_json_schema_laws.proofs.SeenTypes.{FieldFits, Fits, FormFits, depth, fields_depth, names_of-fields, of_each_field}

-- an attribute by its name
abbrev EntryFits : ℕ → Text × FieldAt → Type 0
EntryFits n e = FieldFits n e.1

-- the closed record of attributes
pub closed_fits : (n : ℕ) (entries : List (Text × FieldAt)) → AllByRecursion (EntryFits (n + 1)) entries → FormFits (n + 2) (closed entries)
closed_fits n entries all =
    let made = map_of word_cmp entries in
    let each : AllByRecursion (EntryFits (n + 1)) made = all_of_map word_cmp (EntryFits (n + 1)) (λ k k' v v' is new old. new) entries all in
    let parts = of_each_field n made each in
    let deep : fields_depth (fields made) ≤ n = parts.0 in
    (omega arith, (subst (IsStrictlySortedBy word_cmp) (sym (names_of-fields made)) (map_of-sorted word_cmp nat_list_cmp_total entries), parts.1))

mutual
  -- a type as it is read
  pub type_fits : (t : TypeTree) (place : Place) → TypeAsRead t → Fits (nest t + 1) (type_of t place)
  type_fits (Set element inner) place read =
      let inside = type_fits element inner read in
      let deep : depth (type_of element inner) < nest element + 1 = inside.0 in
      (omega arith, inside.1)
  type_fits (Ident path) place read = (omega arith, tt)
  type_fits (Record attrs) place read =
      let form = closed_fits (greatest_nest attrs) (entries_of attrs) (attrs_fit attrs (greatest_nest attrs) (omega arith) read) in
      let deep : depth (type_of (Record attrs) place) < greatest_nest attrs + 2 = form.0 in
      (omega arith, form.1)

  -- the attributes of a record
  attrs_fit : (attrs : Attrs) (n : ℕ) → greatest_nest attrs ≤ n → AttrsAsRead attrs → AllByRecursion (EntryFits (n + 1)) (entries_of attrs)
  attrs_fit no_attrs n deep read = tt
  attrs_fit (attr annotations name required ty place own others) n deep read =
      let here = type_fits ty place read.1 in
      let shallow : depth (type_of ty place) < nest ty + 1 = here.0 in
      (((omega arith, here.1), read.0), attrs_fit others n (omega arith) read.2)

-- no type nests deeper than types may
abbrev pub IsShallow : Node TypeTree → Type 0
IsShallow t = nest t.node ≤ nest_at_most

-- a type that nests no deeper
pub shallow_fits : (t : Node TypeTree) → IsShallow t → TypeAsRead t.node → Fits 129 (type_at t)
shallow_fits t shallow read =
    let fits = type_fits t.node t.loc read in
    let deep : depth (type_at t) < nest t.node + 1 = fits.0 in
    let bound : nest t.node ≤ 128 = shallow in
    (omega arith, fits.1)

-- a shape or a context is written out in order and not too deep, or it is the name of a common type
abbrev pub ShapeFits : TypeAt → Type 0
ShapeFits (written form place) = FormFits 129 form
ShapeFits (common_type name place) = ⊤

pub shape_fits : (shape : ContextDecl) → AllByRecursion IsShallow (types_of_shape shape) → ShapeAsRead shape → ShapeFits (shape_type shape)
shape_fits (Named path) shallow read = tt
shape_fits (Shape attrs) shallow read = shallow_fits (record { node = Record attrs.node; loc = attrs.loc }) shallow.0 read

-- where that name is no word of types
pub shape_named : (t : TypeAt) → ShapeFits t → IsNoWord t → Fits 129 t
shape_named (written form place) fits other = fits
shape_named (common_type name place) fits other = (omega arith, other)
