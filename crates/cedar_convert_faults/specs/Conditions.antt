-- SPDX-License-Identifier: Apache-2.0
-- What holds of the namespaces of a schema that declares a fragment.
use Rattle.std.specs.Prelude.{◌≡◌, false, List, [], ◌∷◌, map, filter, flat_map, IsTrue, option_to_list, ⊤}
use Rattle.std.specs.List.{AllByRecursion, list_any}
use Rattle.cedar_text.specs.Words.{is_cedar}
use Rattle.cedar_written.specs.CommonTypeIds.{is_reserved_basename}
use Rattle.cedar_tree.specs.Nesting.{types_of_decl}
use Rattle.cedar_tree.specs.Trees.{Path, TypeTree, Set, Ident, Record, Attrs, no_attrs, attr, PR, Principal, Resource, AppDecl, Types, Context, Declaration, Entity, Action, Common, Schema}
use Rattle.cedar_convert_faults.specs.Bindings.{entity_names, action_names, common_names, names_in, full_names}
use Rattle.cedar_convert_faults.specs.Faults.{Clauses, is_context, lists_types}
use Rattle.cedar_convert_faults.specs.Gathering.{Declarations, Gathered, namespaces_of}
use Rattle.cedar_convert_faults.specs.Repeats.{Names, words_of, are_distinct}

-- no name stands twice
abbrev pub AreDistinct : Names → Type 0
AreDistinct names = IsTrue (are_distinct (words_of names))

-- no name is `__cedar`
abbrev pub AreUnreserved : Names → Type 0
AreUnreserved names = AllByRecursion (λ n. is_cedar n.node ≡ false) names

-- no component of the path is `__cedar`
abbrev pub IsUnreserved : Path → Type 0
IsUnreserved path = list_any is_cedar path.node ≡ false

-- the names of attributes
abbrev pub names_of_attrs : Attrs → Names
names_of_attrs no_attrs = []
names_of_attrs (attr annotations name required ty place own others) = name ∷ names_of_attrs others

-- the attributes of each record have distinct names, at every depth
abbrev mutual
  pub HasNoRepeat : TypeTree → Type 0
  HasNoRepeat (Set element place) = HasNoRepeat element
  HasNoRepeat (Ident name) = ⊤
  HasNoRepeat (Record attrs) = AreDistinct (names_of_attrs attrs) × HaveNoRepeat attrs

  pub HaveNoRepeat : Attrs → Type 0
  HaveNoRepeat no_attrs = ⊤
  HaveNoRepeat (attr annotations name required ty place own others) = HasNoRepeat ty × HaveNoRepeat others

-- the types that a clause lists
abbrev pub types_listed : AppDecl → List Path
types_listed (Types which types) = types
types_listed (Context c) = []

-- the clauses that list types of this kind
abbrev pub lists_of : PR → Clauses → Clauses
lists_of kind clauses = filter (λ c. lists_types kind c.node) clauses

-- one clause, which lists types
abbrev pub IsOneList : Clauses → Type 0
IsOneList [] = ⊥
IsOneList (c ∷ []) = types_listed c.node ≡ [] → ⊥
IsOneList (c ∷ d ∷ others) = ⊥

-- at most one clause
abbrev pub IsAtMostOne : Clauses → Type 0
IsAtMostOne (c ∷ d ∷ others) = ⊥
IsAtMostOne _ = ⊤

-- one list of principals and one of resources, each with types, and at most one context
pub record Applies (clauses : Clauses) : Type 0 where
  pub principals : IsOneList (lists_of Principal clauses)
  pub resources : IsOneList (lists_of Resource clauses)
  pub contexts : IsAtMostOne (filter (λ c. is_context c.node) clauses)

-- the `appliesTo` of a declaration
abbrev pub clauses_in : Declaration → List Clauses
clauses_in (Entity e) = []
clauses_in (Action a) = map (λ clauses. clauses.node) (option_to_list a.app_decls)
clauses_in (Common t) = []

-- what holds of the declarations of a namespace, each alone
pub record AreSound (decls : Declarations) : Type 0 where
  pub entities_free : AreUnreserved (names_in entity_names decls)
  pub commons_free : AreUnreserved (names_in common_names decls)
  pub no_keyword : AllByRecursion (λ n. is_reserved_basename n.node ≡ false) (names_in common_names decls)
  pub applies : AllByRecursion Applies (flat_map (λ d. clauses_in d.item.node) decls)
  pub no_repeat : AllByRecursion (λ t. HasNoRepeat t.node) (flat_map (λ d. types_of_decl d.item.node) decls)

-- what holds of the names of a namespace
pub record AreBound (g : Gathered) : Type 0 where
  pub named : AllByRecursion IsUnreserved (option_to_list g.name)
  pub entity_types : AreDistinct (names_in entity_names g.decls)
  pub actions : AreDistinct (names_in action_names g.decls)
  pub common_types : AreDistinct (names_in common_names g.decls)

-- namespaces that declare a fragment: the names of each are bound, its declarations are sound, and no named one stands twice
pub record AreDeclared (gs : List Gathered) : Type 0 where
  pub bound : AllByRecursion AreBound gs
  pub sound : AllByRecursion (λ g. AreSound g.decls) gs
  pub namespaces : AreDistinct (flat_map (λ g. full_names g.name) gs)

-- a schema that declares a fragment
abbrev pub DeclaresOne : Schema → Type 0
DeclaresOne s = AreDeclared (namespaces_of s)
