-- SPDX-License-Identifier: Apache-2.0
-- How deep types nest, and where the first stands that nests too deep.
use Rattle.std.specs.Prelude.{ℕ, ◌+◌, ◌≤◌, max, nat_lt, if◌then◌else◌, All, List, [], ◌∷◌, ◌++◌, Option, Some, None, option_to_list, flat_map}
use Rattle.cedar_names.specs.of_text.Places.{span_of}
use Rattle.cedar_names.specs.of_text.declared.location.Span.{Span}
use Rattle.cedar_tree.specs.Trees.{Node, TypeTree, Set, Ident, Record, Attrs, no_attrs, attr, ContextDecl, Named, Shape, AppDecl, Types, Context, Declaration, Entity, Action, Common, Standard, Enum, Annotated, Namespace, Schema}

-- how many sets and records may stand inside one another in a type
abbrev pub nest_at_most : ℕ
nest_at_most = 128

-- how deep a type nests: a name not at all, else one more than the greatest of its parts
abbrev mutual
  pub nest : TypeTree → ℕ
  nest (Set element place) = nest element + 1
  nest (Ident name) = 0
  nest (Record attrs) = greatest_nest attrs + 1

  -- the greatest nest of some attributes, 0 where there are none
  pub greatest_nest : Attrs → ℕ
  greatest_nest no_attrs = 0
  greatest_nest (attr annotations name required ty place own others) = max (nest ty) (greatest_nest others)

-- the record of a context or a shape
abbrev pub types_of_shape : ContextDecl → List (Node TypeTree)
types_of_shape (Named name) = []
types_of_shape (Shape r) = record { node = Record r.node; loc = r.loc } ∷ []

-- the record of a context
abbrev pub types_of_app : AppDecl → List (Node TypeTree)
types_of_app (Types which names) = []
types_of_app (Context shape) = types_of_shape shape

-- the record and the tags of entity types, the records of contexts, and a type that is given a name
abbrev pub types_of_decl : Declaration → List (Node TypeTree)
types_of_decl (Entity (Standard e)) = types_of_shape e.attrs ++ option_to_list e.tags
types_of_decl (Entity (Enum e)) = []
types_of_decl (Action a) = flat_map (λ d. types_of_app d.node) (flat_map (λ apps. apps.node) (option_to_list a.app_decls))
types_of_decl (Common t) = t.def ∷ []

-- those of the declarations of a namespace
abbrev pub types_of_namespace : Annotated Namespace → List (Node TypeTree)
types_of_namespace n = flat_map (λ d. types_of_decl d.item.node) n.item.decls

-- the outermost types of a schema, in the order of the text; the record of an entity type is one of them also where none stands
abbrev pub outermost_types : Schema → List (Node TypeTree)
outermost_types s = flat_map types_of_namespace s

-- no outermost type of a schema nests too deep
abbrev pub NestsWell : Schema → Type 0
NestsWell s = All (λ t. nest t.node ≤ nest_at_most) (outermost_types s)

-- the place of the first of these types that nests too deep
abbrev pub deep_place : List (Node TypeTree) → Option Span
deep_place [] = None
deep_place (t ∷ ts) = if nat_lt nest_at_most (nest t.node) then Some (span_of t.loc) else deep_place ts
