-- SPDX-License-Identifier: Apache-2.0
-- Trees with their places left out: each piece stands at one and the same place.
use Rattle.std.specs.Prelude.{[], map, option_map}
use Rattle.cedar_tree.specs.Trees.{Node, Place, stands, ByKey, Annotated, TypeTree, Set, Ident, Record, Attrs, no_attrs, attr, ContextDecl, Named, Shape, EntityDecl, Standard, Enum, AppDecl, Types, Context, QualName, ActionDecl, TypeDecl, Declaration, Entity, Action, Common, Namespace, Schema}

-- the empty place at the start of the empty text
abbrev pub nowhere : Place
nowhere = record { start = 0; end = 0; src = [] }

-- what f leaves of a piece, at no place of its own
abbrev pub unplaced : {A B : Type 0} → (A → B) → Node A → Node B
unplaced f n = stands (f n.node) nowhere

-- the same of a piece that has no places in it
abbrev pub anywhere : {A : Type 0} → Node A → Node A
anywhere n = stands n.node nowhere

abbrev pub annotations_unplaced : ByKey → ByKey
annotations_unplaced annotations = map (λ e. (e.0, anywhere e.1)) annotations

abbrev pub annotated_unplaced : {A : Type 0} → (A → A) → Annotated A → Annotated A
annotated_unplaced f a = record { item = f a.item; annotations = annotations_unplaced a.annotations }

abbrev mutual
  pub type_unplaced : TypeTree → TypeTree
  type_unplaced (Set element place) = Set (type_unplaced element) nowhere
  type_unplaced (Ident path) = Ident (anywhere path)
  type_unplaced (Record attrs) = Record (attrs_unplaced attrs)

  pub attrs_unplaced : Attrs → Attrs
  attrs_unplaced no_attrs = no_attrs
  attrs_unplaced (attr annotations name required ty place own others) =
      attr (annotations_unplaced annotations) (anywhere name) required (type_unplaced ty) nowhere nowhere (attrs_unplaced others)

abbrev pub context_unplaced : ContextDecl → ContextDecl
context_unplaced (Named path) = Named (anywhere path)
context_unplaced (Shape attrs) = Shape (unplaced attrs_unplaced attrs)

abbrev pub entity_unplaced : EntityDecl → EntityDecl
entity_unplaced (Standard e) = Standard (record {
  names = map anywhere e.names;
  member_of_types = map anywhere e.member_of_types;
  attrs = context_unplaced e.attrs;
  tags = option_map (unplaced type_unplaced) e.tags;
})
entity_unplaced (Enum e) = Enum (record { names = map anywhere e.names; choices = map anywhere e.choices })

abbrev pub line_unplaced : AppDecl → AppDecl
line_unplaced (Types which paths) = Types (anywhere which) (map anywhere paths)
line_unplaced (Context shape) = Context (context_unplaced shape)

abbrev pub reference_unplaced : QualName → QualName
reference_unplaced r = record { path = option_map anywhere r.path; eid = r.eid }

abbrev pub action_unplaced : ActionDecl → ActionDecl
action_unplaced a = record {
  names = map anywhere a.names;
  parents = map (unplaced reference_unplaced) a.parents;
  app_decls = option_map (unplaced (map (unplaced line_unplaced))) a.app_decls;
}

abbrev pub common_unplaced : TypeDecl → TypeDecl
common_unplaced t = record { name = anywhere t.name; def = unplaced type_unplaced t.def }

abbrev pub decl_unplaced : Declaration → Declaration
decl_unplaced (Entity e) = Entity (entity_unplaced e)
decl_unplaced (Action a) = Action (action_unplaced a)
decl_unplaced (Common t) = Common (common_unplaced t)

abbrev pub namespace_unplaced : Namespace → Namespace
namespace_unplaced n = record {
  name = option_map anywhere n.name;
  decls = map (annotated_unplaced (unplaced decl_unplaced)) n.decls;
  loc = option_map (λ place. nowhere) n.loc;
}

-- a schema, with all its places left out
abbrev pub schema_unplaced : Schema → Schema
schema_unplaced s = map (annotated_unplaced namespace_unplaced) s
