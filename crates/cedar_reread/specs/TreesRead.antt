-- SPDX-License-Identifier: Apache-2.0
-- The tree that the tokens of a fragment are, wherever they stand.
use Rattle.std.specs.Prelude.{List, [], ◌∷◌, ◌++◌, map, codes, Option, Some, None, unwrap_or}
use Rattle.std.specs.List.{flat_map}
use Rattle.std.specs.Option.{option_map}
use Rattle.cedar_tree.specs.Trees.{Node, Text, ByKey, Path, Annotated, TypeTree, Set, Ident, Record, Attrs, no_attrs, attr, stands, ContextDecl, Named, Shape, EntityDecl, Standard, Enum, Principal, Resource, AppDecl, Types, Context, QualName, ActionDecl, Declaration, Entity, Action, Common, Namespace, Schema}
use Rattle.cedar_tree.specs.Unplaced.{annotations_unplaced, nowhere}
use Rattle.cedar_convert_fragment.specs.Fragments.{ActionAt, ActionContent, AppliesTo, Declared, Definition, EntityContent, Fields, Form, Fragment, NameAt, TypeAt, Shaped, Listed, written, common_type, string, long, boolean, set_of, record_of, entity, entity_or_common, extension, no_fields, field}

-- x, which stands nowhere
abbrev pub bare : {A : Type 0} → A → Node A
bare x = stands x nowhere

-- a type that every schema has
abbrev pub builtin_read : Text → TypeTree
builtin_read w = Ident (bare (codes "__cedar" ∷ w ∷ []))

abbrev mutual
  pub type_read : TypeAt → TypeTree
  type_read (written form place) = form_read form
  type_read (common_type name place) = Ident (bare name.words)

  pub form_read : Form → TypeTree
  form_read string = builtin_read (codes "String")
  form_read long = builtin_read (codes "Long")
  form_read boolean = builtin_read (codes "Bool")
  form_read (set_of element) = Set (type_read element) nowhere
  form_read (record_of attributes others) = Record (fields_read attributes)
  form_read (entity name) = Ident (bare name.words)
  form_read (entity_or_common name) = Ident (bare name.words)
  form_read (extension name) = builtin_read name

  pub fields_read : Fields → Attrs
  fields_read no_fields = no_attrs
  fields_read (field name ty annotations required others) = attr (annotations_unplaced annotations) (bare name) required (type_read ty) nowhere nowhere (fields_read others)

-- ---- declarations

abbrev pub name_read : NameAt → Path
name_read name = bare name.words

abbrev pub node_read : TypeAt → Node TypeTree
node_read ty = bare (type_read ty)

-- a shape or a context that is written out: a record, or else a name
abbrev pub shape_form_read : Form → ContextDecl
shape_form_read (record_of attributes others) = Shape (bare (fields_read attributes))
shape_form_read (entity_or_common name) = Named (name_read name)
shape_form_read _ = Named (bare [])

abbrev pub shape_read : TypeAt → ContextDecl
shape_read (written form place) = shape_form_read form
shape_read (common_type name place) = Named (name_read name)

-- an entity type of this name
abbrev pub entity_read : Text → EntityContent → EntityDecl
entity_read name (Shaped parents shape tags) =
    Standard (record { names = bare name ∷ []; member_of_types = map name_read parents; attrs = shape_read shape; tags = option_map node_read tags })
entity_read name (Listed ids) = Enum (record { names = bare name ∷ []; choices = map bare ids })

-- an action as a parent; where no type is given it is `Action`
abbrev pub parent_read : ActionAt → Node QualName
parent_read parent = bare (record { path = Some (bare (unwrap_or (option_map (λ n. n.words) parent.ty) (codes "Action" ∷ []))); eid = parent.id })

abbrev pub parents_read : Option (List ActionAt) → List (Node QualName)
parents_read None = []
parents_read (Some parents) = map parent_read parents

-- the lines of an `appliesTo`
abbrev pub lines_read : AppliesTo → List (Node AppDecl)
lines_read a =
    bare (Types (bare Principal) (map name_read a.principals)) ∷ bare (Types (bare Resource) (map name_read a.resources)) ∷ bare (Context (shape_read a.context)) ∷ []

-- one, unless a list is empty
abbrev pub block_unless : {T : Type 0} → List T → Option (Node (List (Node AppDecl))) → Option (Node (List (Node AppDecl)))
block_unless [] block = None
block_unless (item ∷ items) block = block

abbrev pub block_read : AppliesTo → Option (Node (List (Node AppDecl)))
block_read a = block_unless a.principals (block_unless a.resources (Some (bare (lines_read a))))

abbrev pub applies_read : Option AppliesTo → Option (Node (List (Node AppDecl)))
applies_read None = None
applies_read (Some a) = block_read a

-- an action of this id
abbrev pub action_read : Text → ActionContent → ActionDecl
action_read id a = record { names = bare id ∷ []; parents = parents_read a.member_of; app_decls = applies_read a.applies_to }

-- declarations with their annotations
abbrev pub noted_read : ByKey → Declaration → Annotated (Node Declaration)
noted_read annotations d = record { item = bare d; annotations = annotations_unplaced annotations }

abbrev pub common_entry_read : Text × Declared TypeAt → Annotated (Node Declaration)
common_entry_read e = noted_read e.1.annotations (Common (record { name = bare e.0; def = node_read e.1.content }))

abbrev pub entity_entry_read : Text × Declared EntityContent → Annotated (Node Declaration)
entity_entry_read e = noted_read e.1.annotations (Entity (entity_read e.0 e.1.content))

abbrev pub action_entry_read : Text × Declared ActionContent → Annotated (Node Declaration)
action_entry_read e = noted_read e.1.annotations (Action (action_read e.0 e.1.content))

abbrev pub declarations_read : Definition → List (Annotated (Node Declaration))
declarations_read d = map common_entry_read d.common_types ++ (map entity_entry_read d.entity_types ++ map action_entry_read d.actions)

-- each declaration that stands in no namespace is one of its own
abbrev pub alone_read : Annotated (Node Declaration) → Annotated Namespace
alone_read d = record { item = record { name = None; decls = d ∷ []; loc = None }; annotations = [] }

abbrev pub under_read : Option (List Text) → Definition → Schema
under_read None d = map alone_read (declarations_read d)
under_read (Some words) d = record { item = record { name = Some (bare words); decls = declarations_read d; loc = Some nowhere }; annotations = annotations_unplaced d.annotations } ∷ []

abbrev pub namespace_read : Option (List Text) × Definition → Schema
namespace_read n = under_read n.0 n.1

-- the tree of a fragment
abbrev pub fragment_read : Fragment → Schema
fragment_read F = flat_map namespace_read F
