-- SPDX-License-Identifier: Apache-2.0
-- What a schema declares that was read: maps in order, types that nest no deeper than types may, and no reserved name of a common type.
use Rattle.std.proofs.Common.{arith, ◌≡◌, ◌<◌, Bool, true, false, cond, List, [], ◌∷◌, Option, Some, None, IfSome, All, flat_map, option_map, refl, sym, subst, append-nil}
use Rattle.std.specs.Prelude.{unwrap_or, option_to_list}
use Rattle.std.specs.Option.{option_or}
use Rattle.std.proofs.lemmas.Cmp.{nat_list_cmp_total, lists_total}
use Rattle.std.proofs.lemmas.List.Elements.{recursion_from_All}
use Rattle.std.specs.Cmp.Lexicographic.{options_total}
use Rattle.std.specs.List.{AllByRecursion}
use Rattle.std.specs.declared.cmp.Ordering.TheVariants.{Equal}
use Rattle.cedar_data.specs.Maps.{IsSortedMap, map_of}
use Rattle.cedar_names.specs.Order.{word_cmp}
use Rattle.cedar_text.specs.Words.{is_cedar}
use Rattle.cedar_tree.specs.Nesting.{NestsWell, types_of_app, types_of_decl, types_of_namespace, types_of_shape}
use Rattle.cedar_tree.specs.Trees.{Action, ActionDecl, Annotated, AppDecl, ByKey, Common, Context, Declaration, Entity, EntityDecl, Enum, Namespace, Node, Path, Place, Schema, Standard, Text, TypeTree, Types}
use Rattle.cedar_grammar.specs.AsRead.{AnnotatedAsRead, AppAsRead, DeclAsRead, InOrder, NamespaceAsRead, SchemaAsRead, TypeAsRead}
use Rattle.cedar_grammar.proofs.MapsSorted.{map_of-sorted}
use Rattle.cedar_convert_faults.specs.Bindings.{common_names, entity_names, names_in}
use Rattle.cedar_convert_faults.specs.Conditions.{AreSound}
use Rattle.cedar_convert_faults.specs.Faults.{Clauses}
use Rattle.cedar_convert_faults.specs.Gathering.{Declarations, Gathered, loose, loose_declarations, named, named_namespaces, namespace_cmp, namespace_name, namespaces_of, unnamed}
use Rattle.cedar_convert_faults.specs.Repeats.{Names, words_of}
use Rattle.cedar_convert_fragment.specs.Declares.{Declares, action_content, actions, clauses_of, closed, commons, context_in, declared_by, declared_in, definition_of, each, empty_context, entities, entity_content, first_context, free_name, free_names, given, is_reserved_name, type_at}
use Rattle.cedar_convert_fragment.specs.Fragments.{ByName, Fragment, TypeAt}
use Rattle.cedar_json_schema_laws.proofs.DeclaredTypes.{IsShallow, ShapeFits, closed_fits, shallow_fits, shape_fits}
use Rattle.cedar_json_schema_laws.proofs.Entries.{all_append, all_flat, all_of_map}
use Rattle.cedar_resolving_laws.proofs.MapsBack.{all_first, all_second}
use Rattle.cedar_json_schema_laws.specs.Bare.{IsBare}
use Rattle.cedar_json_schema_laws.proofs.SeenFragments.{ActionFits, AnyKey, CommonFits, DefinitionFits, EntityFits, EntryIs, FragmentFits, FreeKey, NamespaceFits}
use Rattle.cedar_json_schema_laws.proofs.SeenTypes.{Fits, form_depth}

-- ---- declarations

-- no types nest too deep
abbrev Shallow : List (Node TypeTree) → Type 0
Shallow = AllByRecursion IsShallow

-- the context of no attributes
empty_fits : ShapeFits empty_context
empty_fits =
    let fits = closed_fits 0 [] tt in
    let deep : form_depth (closed []) < 2 = fits.0 in
    (omega arith, fits.1)

-- the first context among clauses
context_fits : (cs : Clauses) → AllByRecursion {X = Node AppDecl} (λ c. AppAsRead c.node) cs → Shallow (flat_map (λ c. types_of_app c.node) cs) → IfSome (first_context cs) ShapeFits
context_fits [] read shallow = tt
context_fits (c ∷ cs) read shallow =
    by c.node read.0 (all_first IsShallow (types_of_app c.node) (flat_map (λ c. types_of_app c.node) cs) shallow)
    (context_fits cs read.1 (all_second IsShallow (types_of_app c.node) (flat_map (λ c. types_of_app c.node) cs) shallow))
  where
    by : (app : AppDecl) → AppAsRead app → Shallow (types_of_app app) → IfSome (first_context cs) ShapeFits → IfSome (option_or (context_in app) (first_context cs)) ShapeFits
    by (Types which types) read shallow later = later
    by (Context shape) read shallow later = shape_fits shape shallow read

or_empty : (context : Option TypeAt) → IfSome context ShapeFits → ShapeFits (unwrap_or context empty_context)
or_empty None fits = empty_fits
or_empty (Some context) fits = fits

action_fits : (a : ActionDecl) → DeclAsRead (Action a) → Shallow (types_of_decl (Action a)) → ActionFits (action_content a)
action_fits a read shallow = (refl, or_empty (first_context (clauses_of a.app_decls)) (by a.app_decls read.1 shallow))
  where
    by : (apps : Option (Node Clauses)) → IfSome apps (λ lines. All (λ line. AppAsRead line.node) lines.node) → Shallow (flat_map (λ d. types_of_app d.node) (flat_map (λ apps. apps.node) (option_to_list apps)))
        → IfSome (first_context (clauses_of apps)) ShapeFits
    by None read shallow = tt
    by (Some lines) read shallow =
        context_fits lines.node (recursion_from_All (λ line. AppAsRead line.node) lines.node read)
        (subst (λ cs. Shallow (flat_map (λ d. types_of_app d.node) cs)) (append-nil lines.node) shallow)

tags_fit : (tags : Option (Node TypeTree)) → IfSome tags (λ t. TypeAsRead t.node) → Shallow (option_to_list tags) → IfSome (option_map type_at tags) (Fits 129)
tags_fit None read shallow = tt
tags_fit (Some t) read shallow = shallow_fits t shallow.0 read

entity_fits : (e : EntityDecl) → DeclAsRead (Entity e) → Shallow (types_of_decl (Entity e)) → EntityFits (entity_content e)
entity_fits (Standard e) read shallow = (
  shape_fits e.attrs (all_first IsShallow (types_of_shape e.attrs) (option_to_list e.tags) shallow) read.2,
  tags_fit e.tags read.3 (all_second IsShallow (types_of_shape e.attrs) (option_to_list e.tags) shallow),
)
entity_fits (Enum e) read shallow = tt

-- ---- what declarations give

-- each name with a content
each_is : {A : Type 0} (Key : Text → Type 0) (Content : A → Type 0) (content : A) (annotations : ByKey) (loc : Place) → Content content → InOrder annotations
    → (names : List Text) → AllByRecursion Key names → AllByRecursion (EntryIs Key Content) (each names content annotations loc)
each_is Key Content content annotations loc fits sorted [] keys = tt
each_is Key Content content annotations loc fits sorted (n ∷ names) keys = ((keys.0, fits, sorted), each_is Key Content content annotations loc fits sorted names keys.1)

any_key : (names : List Text) → AllByRecursion AnyKey names
any_key [] = tt
any_key (n ∷ names) = (tt, any_key names)

-- names but for `__cedar`
free_keys : (names : Names) → AllByRecursion {X = Node Text} (λ n. FreeKey n.node) names → AllByRecursion FreeKey (free_names names)
free_keys = all_flat (λ (n : Node Text). FreeKey n.node) FreeKey free_name (λ n free. by n free (is_cedar n.node))
  where
    by : (n : Node Text) → FreeKey n.node → (b : Bool) → AllByRecursion FreeKey (cond b [] (n.node ∷ []))
    by n free true = tt
    by n free false = (free, tt)

-- a declaration as it is read, whose types nest not too deep
abbrev IsKnown : Annotated (Node Declaration) → Type 0
IsKnown d = AnnotatedAsRead d × Shallow (types_of_decl d.item.node)

-- no name of a common type is reserved
abbrev AreFree : Names → Type 0
AreFree = AllByRecursion (λ n. FreeKey n.node)

commons_are : (d : Declaration) (annotations : ByKey) (loc : Place) → InOrder annotations → DeclAsRead d → Shallow (types_of_decl d) → AreFree (common_names d) → AllByRecursion (EntryIs FreeKey CommonFits) (commons d annotations loc)
commons_are (Entity e) annotations loc sorted read shallow free = tt
commons_are (Action a) annotations loc sorted read shallow free = tt
commons_are (Common t) annotations loc sorted read shallow free = each_is FreeKey CommonFits (type_at t.def) annotations loc (shallow_fits t.def shallow.0 read.1) sorted (free_names (t.name ∷ [])) (free_keys (t.name ∷ []) free)

entities_are : (d : Declaration) (annotations : ByKey) (loc : Place) → InOrder annotations → DeclAsRead d → Shallow (types_of_decl d) → AllByRecursion (EntryIs AnyKey EntityFits) (entities d annotations loc)
entities_are (Entity e) annotations loc sorted read shallow =
    let names = free_names (entity_names (Entity e)) in
    each_is AnyKey EntityFits (entity_content e) annotations loc (entity_fits e read shallow) sorted names (any_key names)
entities_are (Action a) annotations loc sorted read shallow = tt
entities_are (Common t) annotations loc sorted read shallow = tt

actions_are : (d : Declaration) (annotations : ByKey) (loc : Place) → InOrder annotations → DeclAsRead d → Shallow (types_of_decl d) → AllByRecursion (EntryIs AnyKey ActionFits) (actions d annotations loc)
actions_are (Entity e) annotations loc sorted read shallow = tt
actions_are (Action a) annotations loc sorted read shallow = each_is AnyKey ActionFits (action_content a) annotations loc (action_fits a read shallow) sorted (words_of a.names) (any_key (words_of a.names))
actions_are (Common t) annotations loc sorted read shallow = tt

-- the common types that declarations give
commons_given : (decls : Declarations) → AllByRecursion IsKnown decls → AreFree (names_in common_names decls) → AllByRecursion (EntryIs FreeKey CommonFits) (given commons decls)
commons_given [] known free = tt
commons_given (d ∷ decls) known free =
    let here = known.0 in
    all_append (EntryIs FreeKey CommonFits) (commons d.item.node d.annotations d.item.loc) (given commons decls)
    (commons_are d.item.node d.annotations d.item.loc here.0.0 here.0.1 here.1 (all_first (λ (n : Node Text). FreeKey n.node) (common_names d.item.node) (names_in common_names decls) free))
    (commons_given decls known.1 (all_second (λ (n : Node Text). FreeKey n.node) (common_names d.item.node) (names_in common_names decls) free))

-- the map of what is given of one kind
map_is : {A : Type 0} (Key : Text → Type 0) (Content : A → Type 0) (given : ByName A) → AllByRecursion (EntryIs Key Content) given → IsSortedMap word_cmp (map_of word_cmp given) × AllByRecursion (EntryIs Key Content) (map_of word_cmp given)
map_is Key Content given all =
    (map_of-sorted word_cmp nat_list_cmp_total given, all_of_map word_cmp (EntryIs Key Content) (λ k k' v v' is new old. (old.0, new.1, new.2)) given all)

definition_fits : (annotations : ByKey) (decls : Declarations) → InOrder annotations → AllByRecursion IsKnown decls → AreFree (names_in common_names decls) → DefinitionFits (definition_of annotations decls)
definition_fits annotations decls sorted known free = (
  map_is FreeKey CommonFits (given commons decls) (commons_given decls known free),
  map_is AnyKey EntityFits (given entities decls) (all_flat IsKnown (EntryIs AnyKey EntityFits) (λ d. entities d.item.node d.annotations d.item.loc) (λ d here. entities_are d.item.node d.annotations d.item.loc here.0.0 here.0.1 here.1) decls known),
  map_is AnyKey ActionFits (given actions decls) (all_flat IsKnown (EntryIs AnyKey ActionFits) (λ d. actions d.item.node d.annotations d.item.loc) (λ d here. actions_are d.item.node d.annotations d.item.loc here.0.0 here.0.1 here.1) decls known),
  sorted,
)

-- ---- namespaces

-- a namespace as it is read
abbrev IsKnownNamespace : Annotated Namespace → Type 0
IsKnownNamespace n = InOrder n.annotations × AllByRecursion IsKnown n.item.decls

known_declarations : (decls : Declarations) → AllByRecursion AnnotatedAsRead decls → Shallow (flat_map (λ d. types_of_decl d.item.node) decls) → AllByRecursion IsKnown decls
known_declarations [] read shallow = tt
known_declarations (d ∷ decls) read shallow =
    let rest = flat_map (λ d. types_of_decl d.item.node) decls in
    ((read.0, all_first IsShallow (types_of_decl d.item.node) rest shallow), known_declarations decls read.1 (all_second IsShallow (types_of_decl d.item.node) rest shallow))

known_namespaces : (s : Schema) → AllByRecursion NamespaceAsRead s → Shallow (flat_map types_of_namespace s) → AllByRecursion IsKnownNamespace s
known_namespaces [] read shallow = tt
known_namespaces (n ∷ s) read shallow =
    let here = read.0 in
    let rest = flat_map types_of_namespace s in (
      (here.0, known_declarations n.item.decls (recursion_from_All AnnotatedAsRead n.item.decls here.2) (all_first IsShallow (types_of_namespace n) rest shallow)),
      known_namespaces s read.1 (all_second IsShallow (types_of_namespace n) rest shallow),
    )

-- a gathered namespace
abbrev IsKnownGathered : Gathered → Type 0
IsKnownGathered g = IsBare (namespace_name g) g.annotations × InOrder g.annotations × AllByRecursion IsKnown g.decls

named_known : (name : Option Path) (annotations : ByKey) (decls : Declarations) → InOrder annotations → AllByRecursion IsKnown decls → AllByRecursion IsKnownGathered (named name annotations decls)
named_known None annotations decls sorted known = tt
named_known (Some path) annotations decls sorted known = ((tt, sorted, known), tt)

loose_known : (name : Option Path) (decls : Declarations) → AllByRecursion IsKnown decls → AllByRecursion IsKnown (loose name decls)
loose_known None decls known = known
loose_known (Some path) decls known = tt

unnamed_known : (decls : Declarations) → AllByRecursion IsKnown decls → AllByRecursion IsKnownGathered (unnamed decls)
unnamed_known [] known = tt
unnamed_known (d ∷ decls) known = ((refl, map_of-sorted {V = Node Text} word_cmp nat_list_cmp_total [], known), tt)

gathered_known : (s : Schema) → AllByRecursion IsKnownNamespace s → AllByRecursion IsKnownGathered (namespaces_of s)
gathered_known s known =
    all_append IsKnownGathered (named_namespaces s) (unnamed (loose_declarations s))
    (all_flat IsKnownNamespace IsKnownGathered (λ n. named n.item.name n.annotations n.item.decls) (λ n here. named_known n.item.name n.annotations n.item.decls here.0 here.1) s known)
    (unnamed_known (loose_declarations s) (all_flat IsKnownNamespace IsKnown (λ n. loose n.item.name n.item.decls) (λ n here. loose_known n.item.name n.item.decls here.1) s known))

-- ---- the fragment

declared_fit : (g : Gathered) → IsKnownGathered g → AreSound g.decls → AllByRecursion NamespaceFits (declared_in g)
declared_fit g known sound = by (is_reserved_name g.name)
  where
    by : (b : Bool) → AllByRecursion NamespaceFits (cond b [] ((namespace_name g, definition_of g.annotations g.decls) ∷ []))
    by true = tt
    by false = ((known.0, definition_fits g.annotations g.decls known.1 known.2 sound.no_keyword), tt)

all_declared_fit : (gs : List Gathered) → AllByRecursion IsKnownGathered gs → AllByRecursion {X = Gathered} (λ g. AreSound g.decls) gs → AllByRecursion NamespaceFits (declared_by gs)
all_declared_fit [] known sound = tt
all_declared_fit (g ∷ gs) known sound = all_append NamespaceFits (declared_in g) (declared_by gs) (declared_fit g known.0 sound.0) (all_declared_fit gs known.1 sound.1)

-- an equal name of a namespace is unnamed alike
bare_alike : (k k' : Option (List Text)) (annotations : ByKey) → namespace_cmp k k' ≡ Equal → IsBare k annotations → IsBare k' annotations
bare_alike k (Some name) annotations is bare = tt
bare_alike None None annotations is bare = bare
bare_alike (Some name) None annotations is bare = absurd cc

pub declared_fragment_fits : (s : Schema) (F : Fragment) → SchemaAsRead s → NestsWell s → Declares s F → FragmentFits F
declared_fragment_fits s F read nests declares =
    let gs = namespaces_of s in
    let known = gathered_known s (known_namespaces s (recursion_from_All NamespaceAsRead s read) (recursion_from_All IsShallow (flat_map types_of_namespace s) nests)) in
    let entries = all_declared_fit gs known declares.declares_one.sound in
    subst FragmentFits (sym declares.fragment_is) (
      map_of-sorted namespace_cmp (options_total (lists_total nat_list_cmp_total)) (declared_by gs),
      all_of_map namespace_cmp NamespaceFits (λ k k' v v' is new old. (bare_alike k k' v.annotations is new.0, new.1)) (declared_by gs) entries,
    )
