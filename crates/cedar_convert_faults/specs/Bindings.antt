-- SPDX-License-Identifier: Apache-2.0
-- What is wrong with the names that a schema declares.
use Rattle.std.specs.Prelude.{List, [], ◌∷◌, map, flat_map, cond, Option, Some, None, option_to_list}
use Rattle.std.specs.List.{list_any}
use Rattle.cedar_text.specs.Joining.{joined}
use Rattle.cedar_text.specs.Words.{is_cedar}
use Rattle.cedar_tree.specs.Trees.{Path, Declaration, Entity, Action, Common, Standard, Enum, Schema}
use Rattle.cedar_convert_faults.specs.Gathering.{Gathered, Declarations, namespaces_of}
use Rattle.cedar_convert_faults.specs.Lists.{first_found}
use Rattle.cedar_convert_faults.specs.Repeats.{Names, first_repeat}
use Rattle.cedar_convert_faults.specs.declared.repeats.Repeat.{Repeat}
use Rattle.cedar_convert_faults.specs.declared.bindings.Kind.{Kind}
use Rattle.cedar_convert_faults.specs.declared.bindings.Kind.TheVariants as kinds
use Rattle.cedar_convert_errors.specs.declared.faults.ToJsonSchemaError.{ToJsonSchemaError}
use Rattle.cedar_convert_errors.specs.declared.faults.ToJsonSchemaError.TheVariants.{DuplicateDeclarations, DuplicateNamespaces, ReservedName}

-- the entity types of a declaration
abbrev pub entity_names : Declaration → Names
entity_names (Entity (Standard e)) = e.names
entity_names (Entity (Enum e)) = e.names
entity_names (Action a) = []
entity_names (Common t) = []

-- the actions
abbrev pub action_names : Declaration → Names
action_names (Entity e) = []
action_names (Action a) = a.names
action_names (Common t) = []

-- the common type
abbrev pub common_names : Declaration → Names
common_names (Entity e) = []
common_names (Action a) = []
common_names (Common t) = t.name ∷ []

-- those of one kind
abbrev pub names_of : Kind → Declaration → Names
names_of kinds.EntityType d = entity_names d
names_of kinds.Action d = action_names d
names_of kinds.CommonType d = common_names d

-- the names of one kind that declarations give, in the order of the text
abbrev pub names_in : (Declaration → Names) → Declarations → Names
names_in kind decls = flat_map (λ d. kind d.item.node) decls

-- a name that is declared twice
abbrev pub declared_twice : Repeat → ToJsonSchemaError
declared_twice r = DuplicateDeclarations (record { decl = r.name; loc1 = r.first; loc2 = r.second })

-- the first of these names that is declared twice
abbrev pub repeated_name : Names → List ToJsonSchemaError
repeated_name names = map declared_twice (option_to_list (first_repeat names))

-- the full name of a namespace, where it has one
abbrev pub full_names : Option Path → Names
full_names None = []
full_names (Some path) = record { node = joined path.node; loc = path.loc } ∷ []

-- the full name of a namespace with the component `__cedar`
abbrev pub reserved_namespace : Option Path → List ToJsonSchemaError
reserved_namespace None = []
reserved_namespace (Some path) = cond (list_any is_cedar path.node) (ReservedName (record { name = joined path.node; loc = path.loc }) ∷ []) []

-- what is wrong with the names of a namespace: its own, or else the first that stands twice among its entity types, or else among its actions, or else among its common types
abbrev pub binding_of : Gathered → List ToJsonSchemaError
binding_of g =
    first_found (reserved_namespace g.name ∷ repeated_name (names_in entity_names g.decls) ∷ repeated_name (names_in action_names g.decls) ∷ repeated_name (names_in common_names g.decls) ∷ [])

-- a namespace that stands twice
abbrev pub stands_twice : Repeat → ToJsonSchemaError
stands_twice r = DuplicateNamespaces (record { namespace_id = r.name; loc1 = r.first; loc2 = r.second })

-- the first named namespace that stands again
abbrev pub repeated_namespace : List Gathered → List ToJsonSchemaError
repeated_namespace gs = map stands_twice (option_to_list (first_repeat (flat_map (λ g. full_names g.name) gs)))

-- what is wrong with the names of each namespace, or else the first that stands again
abbrev pub bindings : List Gathered → List ToJsonSchemaError
bindings gs = first_found (flat_map binding_of gs ∷ repeated_namespace gs ∷ [])

-- what is wrong with the names of a schema
abbrev pub binding_faults : Schema → List ToJsonSchemaError
binding_faults s = bindings (namespaces_of s)
