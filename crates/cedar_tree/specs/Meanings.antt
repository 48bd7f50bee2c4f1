-- SPDX-License-Identifier: Apache-2.0
-- What the trees of a parser mean: the trees of the grammar.
use Rattle.std.specs.Prelude.{List, [], map, Option, Some, None, option_map}
use Rattle.cedar_names.specs.Annotating.{annotation_entries}
use Rattle.cedar_names.specs.Identifiers.{id_word, id_words, any_word}
use Rattle.cedar_names.specs.declared.annotation.Annotation as value
use Rattle.cedar_names.specs.declared.annotation.Annotations as values
use Rattle.cedar_names.specs.declared.any_id.AnyId.{AnyId}
use Rattle.cedar_names.specs.of_text.Lists.{elements}
use Rattle.cedar_names.specs.of_text.declared.non_empty.NonEmpty.{NonEmpty}
use Rattle.cedar_tree.specs.Paths.{path_ids, path_loc}
use Rattle.cedar_tree.specs.declared.annotated.Annotated as noted
use Rattle.cedar_tree.specs.declared.declaration.ActionDecl as action
use Rattle.cedar_tree.specs.declared.declaration.AppDecl as app
use Rattle.cedar_tree.specs.declared.declaration.AppDecl.TheVariants as apps
use Rattle.cedar_tree.specs.declared.declaration.ContextDecl as context
use Rattle.cedar_tree.specs.declared.declaration.ContextDecl.TheVariants as contexts
use Rattle.cedar_tree.specs.declared.declaration.Declaration as declaration
use Rattle.cedar_tree.specs.declared.declaration.Declaration.TheVariants as declarations
use Rattle.cedar_tree.specs.declared.declaration.EntityDecl as entity
use Rattle.cedar_tree.specs.declared.declaration.EntityDecl.TheVariants as entities
use Rattle.cedar_tree.specs.declared.declaration.Namespace as space
use Rattle.cedar_tree.specs.declared.declaration.PR as scope
use Rattle.cedar_tree.specs.declared.declaration.PR.TheVariants as scopes
use Rattle.cedar_tree.specs.declared.declaration.TypeDecl as alias
use Rattle.cedar_tree.specs.declared.path.Path as names
use Rattle.cedar_tree.specs.declared.path.QualName as reference
use Rattle.cedar_tree.specs.declared.ty.AttrDecl as attribute
use Rattle.cedar_tree.specs.declared.ty.AttrDecl.{fold-AttrDecl, AttrDecl-F}
use Rattle.cedar_tree.specs.declared.ty.«Type».{«Type», «Type-F», «fold-Type»}
use Rattle.cedar_tree.specs.declared.ty.«Type».TheOpen as level
use Rattle.cedar_tree.specs.Trees.{Node, Place, Text, Path, ByKey, Annotated, TypeTree, Set, Ident, Record, Attrs, AttrDecl, attrs_of, EntityDecl, Standard, Enum, PR, Principal, Resource, ContextDecl, Named, Shape, AppDecl, Types, Context, QualName, ActionDecl, TypeDecl, Declaration, Entity, Action, Common, Namespace, Schema}

-- the place of a piece, if it has one; else the empty one of no text
abbrev pub place_where : Option Place → Place
place_where None = record { start = 0; end = 0; src = [] }
place_where (Some place) = place

-- the members of a list that isn't empty, or none where it is left out
abbrev pub listed : {A : Type 0} → Option (NonEmpty A) → List A
listed None = []
listed (Some members) = elements members

-- what a value means, at its place
abbrev pub node_of : {A B : Type 0} → (A → B) → Node A → Node B
node_of f n = record { node = f n.node; loc = n.loc }

-- the words of a path, at its place
abbrev pub path_tree : names.Path → Path
path_tree p = record { node = id_words (path_ids p); loc = path_loc p }

-- the key of an annotation, and its value at its place
abbrev pub annotation_tree : AnyId × value.Annotation → Text × Node Text
annotation_tree a = (any_word a.0, record { node = a.1.val; loc = place_where a.1.loc })

-- the values at the keys, in the order of the keys
abbrev pub annotations_tree : values.Annotations → ByKey
annotations_tree annotations = map annotation_tree (annotation_entries annotations)

-- what an item means, with its annotations
abbrev pub annotated_tree : {A B : Type 0} → (A → B) → noted.Annotated A → Annotated B
annotated_tree f a = record { item = f a.item; annotations = annotations_tree a.annotations }

-- an attribute with its annotations, at its place
abbrev pub attr_node : {A B : Type 0} → (A → B) → Node (noted.Annotated A) → Annotated (Node B)
attr_node f a = record { item = record { node = f a.node.item; loc = a.loc }; annotations = annotations_tree a.node.annotations }

-- one level of a type, where its parts are trees already
abbrev pub type_level : «Type-F» TypeTree AttrDecl → TypeTree
type_level (level.Set element) = Set element.node element.loc
type_level (level.Ident path) = Ident (path_tree path)
type_level (level.Record attrs) = Record (attrs_of (map (attr_node (λ a. a)) attrs))

-- one level of an attribute, where its type is a tree already
abbrev pub attr_level : AttrDecl-F TypeTree AttrDecl → AttrDecl
attr_level a = record { name = node_of (λ text. text) a.name; required = a.required; ty = node_of (λ t. t) a.ty }

-- the tree of a type
abbrev pub type_tree : «Type» → TypeTree
type_tree = «fold-Type» TypeTree AttrDecl type_level attr_level

-- the tree of an attribute
abbrev pub attr_tree : attribute.AttrDecl → AttrDecl
attr_tree = fold-AttrDecl TypeTree AttrDecl type_level attr_level

-- attributes with their annotations, in the order of the text
abbrev pub attrs_tree : List (Node (noted.Annotated attribute.AttrDecl)) → Attrs
attrs_tree attrs = attrs_of (map (attr_node attr_tree) attrs)

-- a reference to an action
abbrev pub qual_tree : reference.QualName → QualName
qual_tree q = record { path = option_map path_tree q.path; eid = q.eid }

-- a context, or the shape of entity types
abbrev pub context_tree : context.ContextDecl → ContextDecl
context_tree (contexts.Path path) = Named (path_tree path)
context_tree (contexts.Record attrs) = Shape (node_of attrs_tree attrs)

-- a declaration of entity types
abbrev pub entity_tree : entity.EntityDecl → EntityDecl
entity_tree (entities.Standard d) = Standard (record {
  names = map (node_of id_word) (elements d.names);
  member_of_types = map path_tree d.member_of_types;
  attrs = context_tree d.attrs;
  tags = option_map (node_of type_tree) d.tags;
})
entity_tree (entities.Enum d) = Enum (record {
  names = map (node_of id_word) (elements d.names);
  choices = map (node_of (λ text. text)) (elements d.choices);
})

-- `principal` or `resource`
abbrev pub scope_tree : scope.PR → PR
scope_tree scopes.Principal = Principal
scope_tree scopes.Resource = Resource

-- a line of `appliesTo`
abbrev pub app_tree : app.AppDecl → AppDecl
app_tree (apps.PR d) = Types (node_of scope_tree d.kind) (map path_tree (listed d.entity_tys))
app_tree (apps.Context c) = Context (context_tree c)

-- a declaration of actions
abbrev pub action_tree : action.ActionDecl → ActionDecl
action_tree d = record {
  names = map (node_of (λ text. text)) (elements d.names);
  parents = map (node_of qual_tree) (listed d.parents);
  app_decls = option_map (node_of (λ lines. map (node_of app_tree) (elements lines))) d.app_decls;
}

-- a type that is given a name
abbrev pub alias_tree : alias.TypeDecl → TypeDecl
alias_tree d = record { name = node_of id_word d.name; def = node_of type_tree d.def }

-- a declaration
abbrev pub decl_tree : declaration.Declaration → Declaration
decl_tree (declarations.Entity d) = Entity (entity_tree d)
decl_tree (declarations.Action d) = Action (action_tree d)
decl_tree (declarations.Common d) = Common (alias_tree d)

-- a namespace
abbrev pub namespace_tree : space.Namespace → Namespace
namespace_tree n = record {
  name = option_map path_tree n.name;
  decls = map (annotated_tree (node_of decl_tree)) n.decls;
  loc = n.loc;
}

-- a schema
abbrev pub schema_tree : List (noted.Annotated space.Namespace) → Schema
schema_tree namespaces = map (annotated_tree namespace_tree) namespaces
