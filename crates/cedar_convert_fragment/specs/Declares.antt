-- SPDX-License-Identifier: Apache-2.0
-- Which schemas declare a fragment, and which one: what they say of each name, by namespace and kind.
use Rattle.std.specs.Prelude.{◌≡◌, Bool, false, List, [], ◌∷◌, map, flat_map, cond, Option, Some, None, option_map, unwrap_or}
use Rattle.std.specs.List.{list_any}
use Rattle.std.specs.Option.{option_or}
use Rattle.cedar_data.specs.Maps.{map_of}
use Rattle.cedar_names.specs.Order.{word_cmp}
use Rattle.cedar_text.specs.Words.{is_cedar}
use Rattle.cedar_tree.specs.Trees.{Node, Place, Text, Path, ByKey, TypeTree, Set, Ident, Record, Attrs, no_attrs, attr, PR, Principal, Resource, ContextDecl, Named, Shape, AppDecl, Types, Context, QualName, ActionDecl, EntityDecl, Standard, Enum, Declaration, Entity, Action, Common, Schema}
use Rattle.cedar_convert_faults.specs.Bindings.{entity_names}
use Rattle.cedar_convert_faults.specs.Conditions.{DeclaresOne}
use Rattle.cedar_convert_faults.specs.Faults.{Clauses, same_scope}
use Rattle.cedar_convert_faults.specs.Gathering.{Gathered, Declarations, namespace_cmp, namespace_name, namespaces_of}
use Rattle.cedar_convert_faults.specs.Repeats.{Names, words_of}
use Rattle.cedar_convert_fragment.specs.Fragments.{ActionAt, ActionContent, AppliesTo, ByName, Definition, EntityContent, FieldAt, Form, Fragment, NameAt, TypeAt, fields, written, common_type, set_of, record_of, entity_or_common, Shaped, Listed}

-- a name, at its place
abbrev pub name_of : Path → NameAt
name_of path = record { words = path.node; place = Some path.loc }

-- the closed record of these attributes; of several of one name, the last
abbrev pub closed : List (Text × FieldAt) → Form
closed entries = record_of (fields (map_of word_cmp entries)) false

-- the type that a written type declares at its place: a path is a common type or else an entity type, and a record is closed
abbrev mutual
  pub type_of : TypeTree → Place → TypeAt
  type_of (Set element inner) place = written (set_of (type_of element inner)) (Some place)
  type_of (Ident path) place = written (entity_or_common (name_of path)) (Some place)
  type_of (Record attrs) place = written (closed (entries_of attrs)) (Some place)

  -- each attribute with its mark, type and annotations
  pub entries_of : Attrs → List (Text × FieldAt)
  entries_of no_attrs = []
  entries_of (attr annotations name required ty place own others) =
      (name.node, record { ty = type_of ty place; annotations = annotations; required = required }) ∷ entries_of others

-- the record that attributes declare
abbrev pub record_form : Attrs → Form
record_form attrs = closed (entries_of attrs)

-- the type that a written type declares
abbrev pub type_at : Node TypeTree → TypeAt
type_at t = type_of t.node t.loc

-- a context or a shape: a path is a common type
abbrev pub shape_type : ContextDecl → TypeAt
shape_type (Named path) = common_type (name_of path) (Some path.loc)
shape_type (Shape attrs) = written (record_form attrs.node) (Some attrs.loc)

-- what entity types are
abbrev pub entity_content : EntityDecl → EntityContent
entity_content (Standard e) = Shaped (map name_of e.member_of_types) (shape_type e.attrs) (option_map type_at e.tags)
entity_content (Enum e) = Listed (map (λ c. c.node) e.choices)

-- the types that a clause lists of this kind
abbrev pub listed_in : PR → AppDecl → List Path
listed_in kind (Types which types) = cond (same_scope kind which.node) types []
listed_in kind (Context c) = []

-- the types that clauses list of this kind
abbrev pub listed_of : PR → Clauses → List NameAt
listed_of kind clauses = flat_map (λ c. map name_of (listed_in kind c.node)) clauses

-- the context that a clause is, if it is one
abbrev pub context_in : AppDecl → Option TypeAt
context_in (Types which types) = None
context_in (Context c) = Some (shape_type c)

-- the first context among clauses
abbrev pub first_context : Clauses → Option TypeAt
first_context [] = None
first_context (c ∷ cs) = option_or (context_in c.node) (first_context cs)

-- the closed record without attributes, which stands nowhere
abbrev pub empty_context : TypeAt
empty_context = written (closed []) None

-- what the clauses of an `appliesTo` say; the context is empty where none stands
abbrev pub applies_to : Clauses → AppliesTo
applies_to clauses = record { resources = listed_of Resource clauses; principals = listed_of Principal clauses; context = unwrap_or (first_context clauses) empty_context }

-- the clauses of an `appliesTo`; where it is left out, there are none
abbrev pub clauses_of : Option (Node Clauses) → Clauses
clauses_of None = []
clauses_of (Some clauses) = clauses.node

-- a parent
abbrev pub parent_of : QualName → ActionAt
parent_of q = record { ty = option_map name_of q.path; id = q.eid }

-- the parents, if there are any
abbrev pub parents_of : List (Node QualName) → Option (List ActionAt)
parents_of [] = None
parents_of (parent ∷ parents) = Some (map (λ p. parent_of p.node) (parent ∷ parents))

-- what actions are
abbrev pub action_content : ActionDecl → ActionContent
action_content a = record { attributes = None; applies_to = Some (applies_to (clauses_of a.app_decls)); member_of = parents_of a.parents }

-- the word of a name, unless it is `__cedar`, which a fragment can't hold
abbrev pub free_name : Node Text → List Text
free_name n = cond (is_cedar n.node) [] (n.node ∷ [])

-- the words of names but for `__cedar`
abbrev pub free_names : Names → List Text
free_names names = flat_map free_name names

-- each of these names with this content
abbrev pub each : {A : Type 0} → List Text → A → ByKey → Place → ByName A
each names content annotations loc = map (λ n. (n, record { content = content; annotations = annotations; loc = Some loc })) names

-- the entity types of a declaration, with its annotations and its place
abbrev pub entities : Declaration → ByKey → Place → ByName EntityContent
entities (Entity e) annotations loc = each (free_names (entity_names (Entity e))) (entity_content e) annotations loc
entities (Action a) annotations loc = []
entities (Common t) annotations loc = []

-- the actions
abbrev pub actions : Declaration → ByKey → Place → ByName ActionContent
actions (Entity e) annotations loc = []
actions (Action a) annotations loc = each (words_of a.names) (action_content a) annotations loc
actions (Common t) annotations loc = []

-- the common type
abbrev pub commons : Declaration → ByKey → Place → ByName TypeAt
commons (Entity e) annotations loc = []
commons (Action a) annotations loc = []
commons (Common t) annotations loc = each (free_names (t.name ∷ [])) (type_at t.def) annotations loc

-- what declarations give of one kind, in the order of the text
abbrev pub given : {A : Type 0} → (Declaration → ByKey → Place → ByName A) → Declarations → ByName A
given kind decls = flat_map (λ d. kind d.item.node d.annotations d.item.loc) decls

-- what declarations declare, under these annotations; of several of one kind and name, the last
abbrev pub definition_of : ByKey → Declarations → Definition
definition_of annotations decls = record {
  common_types = map_of word_cmp (given commons decls);
  entity_types = map_of word_cmp (given entities decls);
  actions = map_of word_cmp (given actions decls);
  annotations = annotations;
}

-- whether a component of the name is `__cedar`
abbrev pub is_reserved_name : Option Path → Bool
is_reserved_name None = false
is_reserved_name (Some path) = list_any is_cedar path.node

-- what a namespace declares, with its name, unless a fragment can't hold that
abbrev pub declared_in : Gathered → Fragment
declared_in g = cond (is_reserved_name g.name) [] ((namespace_name g, definition_of g.annotations g.decls) ∷ [])

-- what namespaces declare, in the order of the text
abbrev pub declared_by : List Gathered → Fragment
declared_by gs = flat_map declared_in gs

-- what namespaces declare, by name
abbrev pub fragment_of : List Gathered → Fragment
fragment_of gs = map_of namespace_cmp (declared_by gs)

-- the schema declares the fragment: its names and declarations are as they have to be, and the fragment is what its namespaces declare
pub record Declares (s : Schema) (fragment : Fragment) : Type 0 where
  pub declares_one : DeclaresOne s
  pub fragment_is : fragment ≡ fragment_of (namespaces_of s)
