-- SPDX-License-Identifier: Apache-2.0
-- Trees as they are read: an identifier stands wherever the grammar has one, and annotations are in the order of their keys.
use Rattle.std.specs.Prelude.{IsTrue, All, IfSome}
use Rattle.cedar_data.specs.Maps.{IsSortedMap}
use Rattle.cedar_tree.specs.of_names.Order.{word_cmp}
use Rattle.cedar_tokens.specs.of_text.Words.{is_id}
use Rattle.cedar_tree.specs.Trees.{Node, Text, Path, ByKey, TypeTree, Set, Ident, Record, Attrs, no_attrs, attr, ContextDecl, Named, Shape, EntityDecl, Standard, Enum, QualName, AppDecl, Types, Context, ActionDecl, Declaration, Entity, Action, Common, Annotated, Namespace, Schema}

-- an identifier
abbrev pub IsIdent : Node Text → Type 0
IsIdent n = IsTrue (is_id n.node)

-- a path of identifiers
abbrev pub OfIds : Path → Type 0
OfIds p = All (λ w. IsTrue (is_id w)) p.node

-- annotations in the order of their keys
abbrev pub InOrder : ByKey → Type 0
InOrder annotations = IsSortedMap word_cmp annotations

-- the names in a type are paths of identifiers, and the annotations of each attribute are in order
abbrev mutual
  pub TypeAsRead : TypeTree → Type 0
  TypeAsRead (Set element place) = TypeAsRead element
  TypeAsRead (Ident path) = OfIds path
  TypeAsRead (Record attrs) = AttrsAsRead attrs

  pub AttrsAsRead : Attrs → Type 0
  AttrsAsRead no_attrs = Unit {0}
  AttrsAsRead (attr annotations name required ty place own others) = InOrder annotations × TypeAsRead ty × AttrsAsRead others

-- the same of contexts and shapes
abbrev pub ShapeAsRead : ContextDecl → Type 0
ShapeAsRead (Named path) = OfIds path
ShapeAsRead (Shape attrs) = AttrsAsRead attrs.node

-- the same of declarations of entity types, whose names are identifiers
abbrev pub EntityAsRead : EntityDecl → Type 0
EntityAsRead (Standard e) = All IsIdent e.names × All OfIds e.member_of_types × ShapeAsRead e.attrs × IfSome e.tags (λ t. TypeAsRead t.node)
EntityAsRead (Enum e) = All IsIdent e.names

-- the path of a reference, where it has one
abbrev pub RefOfIds : Node QualName → Type 0
RefOfIds r = IfSome r.node.path OfIds

-- the names in a line of `appliesTo`, and the annotations in its context
abbrev pub AppAsRead : AppDecl → Type 0
AppAsRead (Types which paths) = All OfIds paths
AppAsRead (Context shape) = ShapeAsRead shape

-- the same of actions, whose own names are any words or literals
abbrev pub ActionAsRead : ActionDecl → Type 0
ActionAsRead a = All RefOfIds a.parents × IfSome a.app_decls (λ lines. All (λ line. AppAsRead line.node) lines.node)

abbrev pub DeclAsRead : Declaration → Type 0
DeclAsRead (Entity e) = EntityAsRead e
DeclAsRead (Action a) = ActionAsRead a
DeclAsRead (Common t) = IsIdent t.name × TypeAsRead t.def.node

-- the same of a declaration, whose annotations are in order
abbrev pub AnnotatedAsRead : Annotated (Node Declaration) → Type 0
AnnotatedAsRead d = InOrder d.annotations × DeclAsRead d.item.node

-- the same of all declarations of a namespace, whose name is a path of identifiers, and whose annotations are in order
abbrev pub NamespaceAsRead : Annotated Namespace → Type 0
NamespaceAsRead n = InOrder n.annotations × IfSome n.item.name OfIds × All AnnotatedAsRead n.item.decls

-- wherever an identifier stands in the grammar one stands in the schema, and all annotations are in order
abbrev pub SchemaAsRead : Schema → Type 0
SchemaAsRead s = All NamespaceAsRead s
