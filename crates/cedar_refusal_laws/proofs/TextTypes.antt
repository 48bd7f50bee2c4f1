-- SPDX-License-Identifier: Apache-2.0
-- In a type that a text declares no record is open, and no extension type stands; and no action has attributes.
use Rattle.std.proofs.Common.{◌≡◌, Bool, true, false, cond, List, [], ◌∷◌, map, Option, Some, None, option_map, refl}
use Rattle.std.specs.Option.{option_or}
use Rattle.std.specs.Prelude.{unwrap_or}
use Rattle.cedar_data.specs.Firsts.{AllPass}
use Rattle.cedar_data.specs.Maps.{map_of}
use Rattle.cedar_names.specs.Order.{word_cmp}
use Rattle.cedar_names.specs.of_text.Words.{has_word}
use Rattle.cedar_tree.specs.Trees.{Action, ActionDecl, AppDecl, Attrs, ByKey, Common, Context, ContextDecl, Declaration, Entity, EntityDecl, Enum, Ident, Named, Node, Place, Record, Set, Shape, Standard, Text, TypeTree, Types, attr, no_attrs}
use Rattle.cedar_fragment_world.specs.of_convert_faults.Gathering.{Declarations, Gathered, namespace_cmp, namespace_name}
use Rattle.cedar_fragment_world.specs.of_convert_faults.Faults.{Clauses}
use Rattle.cedar_fragment_world.specs.of_convert_fragment.Declares as text
use Rattle.cedar_fragment_world.specs.of_convert_fragment.Declares.{action_content, actions, clauses_of, closed, commons, context_in, declared_by, declared_in, definition_of, each, empty_context, entities, entity_content, entries_of, first_context, fragment_of, free_names, given, is_reserved_name, name_of, shape_type, type_at}
use Rattle.cedar_fragment_world.specs.of_convert_fragment.Fragments.{ActionContent, Declared, Definition, EntityContent, FieldAt, Shaped, TypeAt, fields}
use Rattle.cedar_fragment_world.specs.FragmentWorlds.{action_at, common_at, context_of, entity_at, entity_of, fields_of, form_of, namespace_of, type_of}
use Rattle.cedar_sound.proofs.NothingMissed.{pass_flat, pass_map, pass_map_of, pass_weaker}
use Rattle.cedar_schema_error.specs.FullNames.{FullName}
use Rattle.cedar_schema_error.specs.NameReferences.{NameReference}
use Rattle.cedar_world.specs.of_unfold.Written.{Written, WrittenAttributes}
use Rattle.cedar_refusal_laws.specs.Parts.{Any, EachPart, EachPartOf}
use Rattle.cedar_refusal_laws.proofs.Members.{pass_each_item}
use Rattle.cedar_refusal_laws.proofs.TypesKept.{EntityHas, NamespaceHas}

-- the record isn't open
abbrev pub IsClosed : Bool → Type 0
IsClosed is_open = is_open ≡ false

-- each record of the type is closed, and each of its extension types is one of these words
abbrev pub IsKnown : List Text → Written NameReference → Type 0
IsKnown extensions = EachPart IsClosed (λ e. has_word extensions e ≡ true) (λ k. Any)

-- so with attributes
abbrev HaveKnown : List Text → WrittenAttributes NameReference → Type 0
HaveKnown extensions = EachPartOf IsClosed (λ e. has_word extensions e ≡ true) (λ k. Any)

module _ (extensions : List Text) where
  -- ---- types

  -- the type is so in whatever namespace
  abbrev IsWritten : TypeAt → Type 0
  IsWritten t = (ns : Option FullName) → IsKnown extensions (type_of ns t)

  fields_known : (ns : Option FullName) (es : List (Text × FieldAt)) → AllPass (λ e. IsWritten e.1.ty) es → HaveKnown extensions (fields_of ns (fields es))
  fields_known ns [] all = tt
  fields_known ns (e ∷ es) all = (all.0 ns, fields_known ns es all.1)

  closed_known : (ns : Option FullName) (es : List (Text × FieldAt)) → AllPass (λ e. IsWritten e.1.ty) es → IsKnown extensions (form_of ns (closed es))
  closed_known ns es all = (refl, fields_known ns (map_of word_cmp es) (pass_map_of word_cmp (λ (f : FieldAt). IsWritten f.ty) es all))

  mutual
    tree_written : (t : TypeTree) (place : Place) (ns : Option FullName) → IsKnown extensions (type_of ns (text.type_of t place))
    tree_written (Set element inner) place ns = tree_written element inner ns
    tree_written (Ident path) place ns = tt
    tree_written (Record attrs) place ns = closed_known ns (entries_of attrs) (entries_written attrs)

    entries_written : (attrs : Attrs) → AllPass (λ e. IsWritten e.1.ty) (entries_of attrs)
    entries_written no_attrs = tt
    entries_written (attr annotations name required ty place own others) = (tree_written ty place, entries_written others)

  shape_written : (c : ContextDecl) (ns : Option FullName) → IsKnown extensions (type_of ns (shape_type c))
  shape_written (Named path) ns = tt
  shape_written (Shape attrs) ns = closed_known ns (entries_of attrs.node) (entries_written attrs.node)

  -- ---- contents

  abbrev EntityIsWritten : EntityContent → Type 0
  EntityIsWritten c = (ns : Option FullName) → EntityHas (IsKnown extensions) (entity_of ns c)

  entity_written : (e : EntityDecl) (ns : Option FullName) → EntityHas (IsKnown extensions) (entity_of ns (entity_content e))
  entity_written (Standard e) ns = by e.tags
    where
      by : (tags : Option (Node TypeTree)) → EntityHas (IsKnown extensions) (entity_of ns (Shaped (map name_of e.member_of_types) (shape_type e.attrs) (option_map type_at tags)))
      by None = ((shape_written e.attrs ns, tt), tt)
      by (Some t) = ((shape_written e.attrs ns, tt), (tree_written t.node t.loc ns, tt))
  entity_written (Enum e) ns = (tt, tt)

  context_written : (cs : Clauses) (ns : Option FullName) → IsKnown extensions (type_of ns (unwrap_or (first_context cs) empty_context))
  context_written [] ns = (refl, tt)
  context_written (c ∷ cs) ns = by c.node (context_written cs ns)
    where
      by : (d : AppDecl) → IsKnown extensions (type_of ns (unwrap_or (first_context cs) empty_context)) → IsKnown extensions (type_of ns (unwrap_or (option_or (context_in d) (first_context cs)) empty_context))
      by (Types which types) rest = rest
      by (Context c) rest = shape_written c ns

  -- an action without attributes, whose context is so
  pub record ActionIsWritten (a : ActionContent) : Type 0 where
    pub bare : a.attributes ≡ None
    pub context : (ns : Option FullName) → IsKnown extensions (context_of ns a.applies_to)

  action_written : (a : ActionDecl) → ActionIsWritten (action_content a)
  action_written a = record { bare = refl; context = context_written (clauses_of a.app_decls) }

  -- ---- declarations

  each_written : {A : Type 0} (P : A → Type 0) (names : List Text) (content : A) (annotations : ByKey) (loc : Place) → P content → AllPass (λ (e : Text × Declared A). P e.1.content) (each names content annotations loc)
  each_written {A} P names content annotations loc is = pass_map (λ (e : Text × Declared A). P e.1.content) (λ n. (n, record { content = content; annotations = annotations; loc = Some loc })) names (pass_each_item (λ n. P content) (λ n. is) names)

  commons_written : (d : Declaration) (annotations : ByKey) (loc : Place) → AllPass (λ c. IsWritten c.1.content) (commons d annotations loc)
  commons_written (Entity e) annotations loc = tt
  commons_written (Action a) annotations loc = tt
  commons_written (Common t) annotations loc = each_written IsWritten (free_names (t.name ∷ [])) (type_at t.def) annotations loc (tree_written t.def.node t.def.loc)

  entities_written : (d : Declaration) (annotations : ByKey) (loc : Place) → AllPass (λ e. EntityIsWritten e.1.content) (entities d annotations loc)
  entities_written (Entity (Standard e)) annotations loc = each_written EntityIsWritten (free_names e.names) (entity_content (Standard e)) annotations loc (entity_written (Standard e))
  entities_written (Entity (Enum e)) annotations loc = each_written EntityIsWritten (free_names e.names) (entity_content (Enum e)) annotations loc (entity_written (Enum e))
  entities_written (Action a) annotations loc = tt
  entities_written (Common t) annotations loc = tt

  actions_written : (d : Declaration) (annotations : ByKey) (loc : Place) → AllPass (λ a. ActionIsWritten a.1.content) (actions d annotations loc)
  actions_written (Entity e) annotations loc = tt
  actions_written (Action a) annotations loc = each_written ActionIsWritten (map (λ n. n.node) a.names) (action_content a) annotations loc (action_written a)
  actions_written (Common t) annotations loc = tt

  -- all that a definition declares is so
  pub record IsWrittenOut (d : Definition) : Type 0 where
    pub of_common_types : AllPass (λ c. IsWritten c.1.content) d.common_types
    pub of_entity_types : AllPass (λ e. EntityIsWritten e.1.content) d.entity_types
    pub of_actions : AllPass (λ a. ActionIsWritten a.1.content) d.actions

  given_written : {A : Type 0} (P : A → Type 0) (kind : Declaration → ByKey → Place → List (Text × Declared A))
      → ((d : Declaration) (annotations : ByKey) (loc : Place) → AllPass (λ (e : Text × Declared A). P e.1.content) (kind d annotations loc))
      → (decls : Declarations) → AllPass (λ (e : Text × Declared A). P e.1.content) (map_of word_cmp (given kind decls))
  given_written {A} P kind all decls = pass_map_of word_cmp (λ (d : Declared A). P d.content) (given kind decls)
      (pass_flat (λ (e : Text × Declared A). P e.1.content) (λ d. kind d.item.node d.annotations d.item.loc) decls
      (pass_each_item (λ d. AllPass (λ (e : Text × Declared A). P e.1.content) (kind d.item.node d.annotations d.item.loc)) (λ d. all d.item.node d.annotations d.item.loc) decls))

  definition_written : (annotations : ByKey) (decls : Declarations) → IsWrittenOut (definition_of annotations decls)
  definition_written annotations decls = record {
    of_common_types = given_written IsWritten commons commons_written decls;
    of_entity_types = given_written EntityIsWritten entities entities_written decls;
    of_actions = given_written ActionIsWritten actions actions_written decls;
  }

  declared_written : (g : Gathered) → AllPass (λ n. IsWrittenOut n.1) (declared_in g)
  declared_written g = by (is_reserved_name g.name)
    where
      by : (b : Bool) → AllPass (λ (n : Option FullName × Definition). IsWrittenOut n.1) (cond b [] ((namespace_name g, definition_of g.annotations g.decls) ∷ []))
      by true = tt
      by false = (definition_written g.annotations g.decls, tt)

  -- so with all that a text declares
  pub gathered_written : (gs : List Gathered) → AllPass (λ n. IsWrittenOut n.1) (fragment_of gs)
  gathered_written gs = pass_map_of namespace_cmp IsWrittenOut (declared_by gs)
      (pass_flat (λ n. IsWrittenOut n.1) declared_in gs (pass_each_item (λ g. AllPass (λ n. IsWrittenOut n.1) (declared_in g)) declared_written gs))

  -- ---- the world

  pub namespace_known : (n : Option FullName × Definition) → IsWrittenOut n.1 → NamespaceHas (IsKnown extensions) (namespace_of n)
  namespace_known n is = record {
    of_common_types = pass_map (λ c. IsKnown extensions c.1) (common_at n.0) n.1.common_types (pass_weaker (λ c. IsWritten c.1.content) (λ c. IsKnown extensions (common_at n.0 c).1) (λ c w. w n.0) n.1.common_types is.of_common_types);
    of_entity_types = pass_map (λ e. EntityHas (IsKnown extensions) e.1) (entity_at n.0) n.1.entity_types (pass_weaker (λ e. EntityIsWritten e.1.content) (λ e. EntityHas (IsKnown extensions) (entity_at n.0 e).1) (λ e w. w n.0) n.1.entity_types is.of_entity_types);
    of_actions = pass_map (λ a. IsKnown extensions a.1.context) (action_at n.0) n.1.actions (pass_weaker (λ a. ActionIsWritten a.1.content) (λ a. IsKnown extensions (action_at n.0 a).1.context) (λ a w. w.context n.0) n.1.actions is.of_actions);
  }
