-- SPDX-License-Identifier: Apache-2.0
-- What is wrong with the declarations of a schema.
use Rattle.std.specs.Prelude.{ℕ, Bool, true, false, List, [], ◌∷◌, ◌++◌, map, filter, flat_map, cond, find, Option, Some, None, option_map, option_to_list}
use Rattle.cedar_text.specs.Words.{is_cedar}
use Rattle.cedar_written.specs.CommonTypeIds.{is_reserved_basename}
use Rattle.cedar_tree.specs.Meanings.{place_where}
use Rattle.cedar_tree.specs.Trees.{Node, Place, PR, Principal, Resource, AppDecl, Types, Context, EntityDecl, Standard, Enum, Declaration, Entity, Action, Common, Schema}
use Rattle.cedar_tree.specs.declared.declaration.PR as scope
use Rattle.cedar_tree.specs.declared.declaration.PR.TheVariants as scopes
use Rattle.cedar_convert_errors.specs.declared.faults.ToJsonSchemaError.{ToJsonSchemaError}
use Rattle.cedar_convert_errors.specs.declared.faults.ToJsonSchemaError.TheVariants.{DuplicateContext, DuplicatePrincipalOrResource, NoPrincipalOrResource, ReservedName, ReservedSchemaKeyword}
use Rattle.cedar_convert_faults.specs.Bindings.{bindings, entity_names}
use Rattle.cedar_convert_faults.specs.Gathering.{Declarations, Gathered, namespaces_of}
use Rattle.cedar_convert_faults.specs.Lists.{first_found}
use Rattle.cedar_convert_faults.specs.Repeats.{Names}
use Rattle.cedar_convert_faults.specs.TypeRepeats.{leftmost_repeat, shape_repeat, repeat_fault}

-- the name, as one that is kept for the language
abbrev pub reserved_name : Node (List ℕ) → ToJsonSchemaError
reserved_name n = ReservedName (record { name = n.node; loc = n.loc })

-- each of these names that is `__cedar`
abbrev pub reserved_names : Names → List ToJsonSchemaError
reserved_names names = map reserved_name (filter (λ n. is_cedar n.node) names)

-- the leftmost repeat of a shape, or else of the type of tags
abbrev pub entity_repeat : EntityDecl → List ToJsonSchemaError
entity_repeat (Standard e) = first_found (repeat_fault (shape_repeat e.attrs) ∷ flat_map (λ t. repeat_fault (leftmost_repeat t.node)) (option_to_list e.tags) ∷ [])
entity_repeat (Enum e) = []

-- a declaration of entity types: its leftmost repeat, or else each name that is reserved
abbrev pub entity_faults : Declaration → List ToJsonSchemaError
entity_faults (Entity e) = first_found (entity_repeat e ∷ reserved_names (entity_names (Entity e)) ∷ [])
entity_faults (Action a) = []
entity_faults (Common t) = []

-- `principal` or `resource`, as errors have it
abbrev pub scope_of : PR → scope.PR
scope_of Principal = scopes.Principal
scope_of Resource = scopes.Resource

-- what an `appliesTo` says of its actions, in the order of the text
abbrev pub Clauses : Type 0
Clauses = List (Node AppDecl)

-- whether two lists are said of the same
abbrev pub same_scope : PR → PR → Bool
same_scope Principal Principal = true
same_scope Principal Resource = false
same_scope Resource Principal = false
same_scope Resource Resource = true

-- whether a clause lists types of this kind
abbrev pub lists_types : PR → AppDecl → Bool
lists_types kind (Types which types) = same_scope kind which.node
lists_types kind (Context c) = false

-- whether a clause is a context
abbrev pub is_context : AppDecl → Bool
is_context (Types which types) = false
is_context (Context c) = true

-- whether a clause is of the kind of this one
abbrev pub is_like : AppDecl → AppDecl → Bool
is_like (Types which types) other = lists_types which.node other
is_like (Context c) other = is_context other

-- the place of the first of these clauses that passes, if one does
abbrev pub first_place : (AppDecl → Bool) → Clauses → Option Place
first_place passes clauses = option_map (λ c. c.loc) (find (λ c. passes c.node) clauses)

-- a clause that stands twice, for the action of this name
abbrev pub clause_twice : Node (List ℕ) → AppDecl → Place → Place → ToJsonSchemaError
clause_twice name (Types which types) first second = DuplicatePrincipalOrResource (record { name = name.node; kind = scope_of which.node; loc1 = first; loc2 = second })
clause_twice name (Context c) first second = DuplicateContext (record { name = name.node; loc1 = first; loc2 = second })

-- an action without types of a kind: its list is empty, or there is none
abbrev pub no_types : Node (List ℕ) → PR → Option Place → ToJsonSchemaError
no_types name kind clause = NoPrincipalOrResource (record { name = name.node; kind = scope_of kind; name_loc = name.loc; empty_loc = clause })

-- what is wrong with a clause alone: its list is empty, or its record has a repeat
abbrev pub own_faults : Node (List ℕ) → AppDecl → Place → List ToJsonSchemaError
own_faults name (Types which []) place = no_types name which.node (Some place) ∷ []
own_faults name (Types which (path ∷ paths)) place = []
own_faults name (Context c) place = repeat_fault (shape_repeat c)

-- the first rule that a clause breaks, where the first of its kind stands at this place: it stands twice, or something is wrong with it alone
abbrev pub fault_behind : Node (List ℕ) → Option Place → Node AppDecl → List ToJsonSchemaError
fault_behind name first c = first_found (map (λ place. clause_twice name c.node place c.loc) (option_to_list first) ∷ own_faults name c.node c.loc ∷ [])

-- the same, those before it being of the same `appliesTo`
abbrev pub clause_faults : Node (List ℕ) → Clauses → Node AppDecl → List ToJsonSchemaError
clause_faults name before c = fault_behind name (first_place (is_like c.node) before) c

-- the first faulty clause, some being before all
abbrev pub faults_behind : Node (List ℕ) → Clauses → Clauses → List ToJsonSchemaError
faults_behind name before [] = []
faults_behind name before (c ∷ cs) = first_found (clause_faults name before c ∷ faults_behind name (before ++ c ∷ []) cs ∷ [])

-- an action without types of this kind, the first list of them standing at this place, if there is one
abbrev pub missing_at : Node (List ℕ) → PR → Option Place → List ToJsonSchemaError
missing_at name kind None = no_types name kind None ∷ []
missing_at name kind (Some place) = []

-- no clause lists types of this kind
abbrev pub missing_types : Node (List ℕ) → PR → Clauses → List ToJsonSchemaError
missing_types name kind clauses = missing_at name kind (first_place (lists_types kind) clauses)

-- the first faulty clause, or else the missing resources, or else the missing principals
abbrev pub applies_faults : Node (List ℕ) → Clauses → List ToJsonSchemaError
applies_faults name clauses = first_found (faults_behind name [] clauses ∷ missing_types name Resource clauses ∷ missing_types name Principal clauses ∷ [])

-- the first of these names; a declaration has one at least, so the empty one for none comes up nowhere
abbrev pub first_name : Names → Node (List ℕ)
first_name [] = record { node = []; loc = place_where None }
first_name (name ∷ names) = name

-- a declaration of actions: what is wrong where they apply to something, told of the first of them
abbrev pub action_faults : Declaration → List ToJsonSchemaError
action_faults (Entity e) = []
action_faults (Action a) = flat_map (λ clauses. applies_faults (first_name a.names) clauses.node) (option_to_list a.app_decls)
action_faults (Common t) = []

-- the name, where a common type may not have it as its basename
abbrev pub keyword_faults : Node (List ℕ) → List ToJsonSchemaError
keyword_faults name = cond (is_reserved_basename name.node) (ReservedSchemaKeyword (record { keyword = name.node; loc = name.loc }) ∷ []) []

-- the name of a common type, where it is `__cedar`, or else one of those words
abbrev pub name_faults : Node (List ℕ) → List ToJsonSchemaError
name_faults name = first_found (reserved_names (name ∷ []) ∷ keyword_faults name ∷ [])

-- a common type: its name where it may not have it, or else the leftmost repeat of its type
abbrev pub common_faults : Declaration → List ToJsonSchemaError
common_faults (Entity e) = []
common_faults (Action a) = []
common_faults (Common t) = first_found (name_faults t.name ∷ repeat_fault (leftmost_repeat t.def.node) ∷ [])

-- what is wrong with declarations: with those of entity types, or else with those of actions, or else with the first common type that is wrong
abbrev pub faults_among : Declarations → List ToJsonSchemaError
faults_among decls =
    first_found (
    flat_map (λ d. entity_faults d.item.node) decls
    ∷ flat_map (λ d. action_faults d.item.node) decls
    ∷ first_found (map (λ d. common_faults d.item.node) decls) ∷ [])

-- what is wrong with the declarations of each of these namespaces
abbrev pub declarations : List Gathered → List ToJsonSchemaError
declarations gs = flat_map (λ g. faults_among g.decls) gs

-- what is wrong with these namespaces: with their names, or else with their declarations
abbrev pub faults_of : List Gathered → List ToJsonSchemaError
faults_of gs = first_found (bindings gs ∷ declarations gs ∷ [])

-- what is wrong with the declarations of each namespace of a schema
abbrev pub declaration_faults : Schema → List ToJsonSchemaError
declaration_faults s = declarations (namespaces_of s)

-- what is wrong with a schema: with its names, or else with its declarations
abbrev pub schema_faults : Schema → List ToJsonSchemaError
schema_faults s = faults_of (namespaces_of s)
