-- SPDX-License-Identifier: Apache-2.0
-- The warnings of a schema that declares a fragment are those of the fragment.
use Rattle.std.proofs.Common.{◌≡◌, Bool, true, false, cond, List, [], ◌∷◌, ◌++◌, map, flat_map, Option, Some, None, option_to_list, refl, sym, ap, ◌∙◌}
use Rattle.std.specs.Cmp.Lexicographic.{texts_ties}
use Rattle.std.specs.List.{AllByRecursion}
use Rattle.std.specs.Map.{keys_of}
use Rattle.std.specs.Prelude.{◌||◌, if◌then◌else◌}
use Rattle.std.specs.Str.{bytes_eq}
use Rattle.cedar_data.specs.Maps.{get, map_of}
use Rattle.cedar_data.proofs.MapsMade.{map-map_of}
use Rattle.cedar_names.specs.Order.{word_cmp}
use Rattle.cedar_text.proofs.Members.{map-append}
use Rattle.cedar_text.specs.Words.{has_word, is_cedar}
use Rattle.cedar_tree.specs.Unplaced.{nowhere}
use Rattle.cedar_tree.specs.Trees.{Action, ByKey, Common, Declaration, Entity, Enum, Node, Path, Place, Schema, Standard, Text}
use Rattle.cedar_convert_faults.specs.Bindings.{common_names, entity_names, names_in}
use Rattle.cedar_convert_faults.specs.Conditions.{AreBound, AreSound, AreUnreserved, IsUnreserved}
use Rattle.cedar_convert_faults.specs.Gathering.{Declarations, Gathered, namespace_cmp, namespace_name, namespaces_of}
use Rattle.cedar_convert_faults.specs.Repeats.{Names}
use Rattle.cedar_convert_fragment.specs.Declares.{Declares, commons, declared_by, definition_of, each, entities, entity_content, fragment_of, free_names, given, is_reserved_name, type_at}
use Rattle.cedar_convert_fragment.specs.Fragments.{ByName, Definition, Fragment}
use Rattle.cedar_convert_warnings.specs.Shadowing.{builtin_shadowed, common_shadows, entity_shadowed, is_builtin, namespace_entry, namespace_shadows, places_by_name, shadows, shadows_by_namespace, warnings}
use Rattle.cedar_convert_warnings.specs.declared.warnings.SchemaWarning.{SchemaWarning}
use Rattle.cedar_convert_warnings.specs.declared.warnings.SchemaWarning.TheVariants.{ShadowsBuiltin, ShadowsEntity}
use Rattle.cedar_convert_laws.specs.Unplaced.{by_name_unplaced, declared_unplaced, definition_unplaced, fragment_unplaced}
use Rattle.cedar_convert_laws.specs.Warnings.{builtin_warned, common_warned, definition_warnings, entity_warned, warning_unplaced, warnings_of}
use Rattle.cedar_convert_laws.proofs.Lists.{kept, kept_lists, moved_lists}

-- ---- the warnings of one name

builtin_same : (extensions : List Text) (name : Text × Place) → builtin_warned extensions name.0 ≡ map warning_unplaced (builtin_shadowed extensions name)
builtin_same extensions name = by (is_builtin extensions name.0)
  where
    by : (b : Bool) → ◌≡◌ {A = List SchemaWarning} (cond b (ShadowsBuiltin (record { name = name.0; loc = nowhere }) ∷ []) []) (map warning_unplaced (cond b (ShadowsBuiltin (record { name = name.0; loc = name.1 }) ∷ []) []))
    by true = refl
    by false = refl

entity_same : (es : List (Text × Place)) (name : Text × Place) → entity_warned (keys_of es) name.0 ≡ map warning_unplaced (entity_shadowed es name)
entity_same [] name = refl
entity_same (e ∷ es) name = rw (sym (texts_ties name.0 e.0)) (by (bytes_eq name.0 e.0) (entity_same es name))
  where
    shadowed : Option Place → List SchemaWarning
    shadowed entity = map (λ place. ShadowsEntity (record { name = name.0; entity_loc = place; common_loc = name.1 })) (option_to_list entity)

    by : (b : Bool) → entity_warned (keys_of es) name.0 ≡ map warning_unplaced (shadowed (get word_cmp es name.0))
        → ◌≡◌ {A = List SchemaWarning} (cond (b || has_word (keys_of es) name.0) (ShadowsEntity (record { name = name.0; entity_loc = nowhere; common_loc = nowhere }) ∷ []) []) (map warning_unplaced (shadowed (if b then Some e.1 else get word_cmp es name.0)))
    by true others = refl
    by false others = others

common_same : (extensions : List Text) (es : List (Text × Place)) (name : Text × Place) → common_warned extensions (keys_of es) name.0 ≡ map warning_unplaced (common_shadows extensions es name)
common_same extensions es name = (λ i. entity_same es name i ++ builtin_same extensions name i) ∙ sym (map-append warning_unplaced (entity_shadowed es name) (builtin_shadowed extensions name))

-- ---- the names of a namespace

-- a key alone
abbrev seen : {V : Type 0} → Text × V → Text × Unit {0}
seen e = (e.0, tt)

keys_seen : {V : Type 0} (es : List (Text × V)) → keys_of (map seen es) ≡ keys_of es
keys_seen [] = refl
keys_seen (e ∷ es) = ap (λ ks. e.0 ∷ ks) (keys_seen es)

-- maps of pairs with the same keys have the same keys
keys_alike : {V W : Type 0} (es : List (Text × V)) (fs : List (Text × W)) → map seen es ≡ map seen fs → keys_of (map_of word_cmp es) ≡ keys_of (map_of word_cmp fs)
keys_alike es fs same =
    sym (keys_seen (map_of word_cmp es)) ∙ ap keys_of (map-map_of word_cmp word_cmp (λ k. k) (λ _. tt) (λ a b. refl) es ∙ ap (map_of word_cmp) same ∙ sym (map-map_of word_cmp word_cmp (λ k. k) (λ _. tt) (λ a b. refl) fs))
    ∙ keys_seen (map_of word_cmp fs)

abbrev placed_name : Node Text → Text × Place
placed_name n = (n.node, n.loc)

all_first : {X : Type 0} (P : X → Type 0) (xs ys : List X) → AllByRecursion P (xs ++ ys) → AllByRecursion P xs
all_first P [] ys all = tt
all_first P (x ∷ xs) ys all = (all.0, all_first P xs ys all.1)

all_second : {X : Type 0} (P : X → Type 0) (xs ys : List X) → AllByRecursion P (xs ++ ys) → AllByRecursion P ys
all_second P [] ys all = all
all_second P (x ∷ xs) ys all = all_second P xs ys all.1

each_seen : {A : Type 0} (names : Names) (content : A) (annotations : ByKey) (loc : Place) → AreUnreserved names → map seen (each (free_names names) content annotations loc) ≡ map seen (map placed_name names)
each_seen [] content annotations loc free = refl
each_seen (n ∷ names) content annotations loc free = rw free.0 (ap (λ es. (n.node, tt) ∷ es) (each_seen names content annotations loc free.1))

commons_seen : (d : Declaration) (annotations : ByKey) (loc : Place) → AreUnreserved (common_names d) → map seen (commons d annotations loc) ≡ map seen (map placed_name (common_names d))
commons_seen (Entity e) annotations loc free = refl
commons_seen (Action a) annotations loc free = refl
commons_seen (Common t) annotations loc free = each_seen (t.name ∷ []) (type_at t.def) annotations loc free

entities_seen : (d : Declaration) (annotations : ByKey) (loc : Place) → AreUnreserved (entity_names d) → map seen (entities d annotations loc) ≡ map seen (map placed_name (entity_names d))
entities_seen (Entity (Standard e)) annotations loc free = each_seen e.names (entity_content (Standard e)) annotations loc free
entities_seen (Entity (Enum e)) annotations loc free = each_seen e.names (entity_content (Enum e)) annotations loc free
entities_seen (Action a) annotations loc free = refl
entities_seen (Common t) annotations loc free = refl

module _ {A : Type 0} (kind : Declaration → ByKey → Place → ByName A) (names : Declaration → Names)
    (same : (d : Declaration) (annotations : ByKey) (loc : Place) → AreUnreserved (names d) → map seen (kind d annotations loc) ≡ map seen (map placed_name (names d))) where
  given_seen : (decls : Declarations) → AreUnreserved (names_in names decls) → map seen (given kind decls) ≡ map seen (map placed_name (names_in names decls))
  given_seen [] free = refl
  given_seen (d ∷ decls) free =
      let here = names d.item.node in
      let others = names_in names decls in
      let first = same d.item.node d.annotations d.item.loc (all_first (λ n. is_cedar n.node ≡ false) here others free) in
      let rest = given_seen decls (all_second (λ n. is_cedar n.node ≡ false) here others free) in
      map-append seen (kind d.item.node d.annotations d.item.loc) (given kind decls)
      ∙ (λ i. first i ++ rest i)
      ∙ sym (ap (map seen) (map-append placed_name here others) ∙ map-append seen (map placed_name here) (map placed_name others))

  -- the names that are declared are those whose warnings are given
  names_declared : (decls : Declarations) → AreUnreserved (names_in names decls) → keys_of (map_of word_cmp (given kind decls)) ≡ keys_of (places_by_name (names_in names decls))
  names_declared decls free = keys_alike (given kind decls) (map placed_name (names_in names decls)) (given_seen decls free)

-- ---- the warnings of a namespace

namespace_same : (extensions : List Text) (annotations : ByKey) (decls : Declarations) → AreSound decls → definition_warnings extensions (definition_of annotations decls) ≡ map warning_unplaced (namespace_shadows extensions decls)
namespace_same extensions annotations decls sound =
    let entity_places = places_by_name (names_in entity_names decls) in
    let common_places = places_by_name (names_in common_names decls) in
    let entity_keys = names_declared entities entity_names entities_seen decls sound.entities_free in
    let common_keys = names_declared commons common_names commons_seen decls sound.commons_free in
    (λ i. flat_map (common_warned extensions (entity_keys i)) (common_keys i) ++ flat_map (builtin_warned extensions) (entity_keys i))
    ∙ (λ i. moved_lists (λ e. e.0) (common_warned extensions (keys_of entity_places)) (common_shadows extensions entity_places) warning_unplaced (common_same extensions entity_places) common_places i
    ++ moved_lists (λ e. e.0) (builtin_warned extensions) (builtin_shadowed extensions) warning_unplaced (builtin_same extensions) entity_places i)
    ∙ sym (map-append warning_unplaced (flat_map (common_shadows extensions entity_places) common_places) (flat_map (builtin_shadowed extensions) entity_places))

-- ---- the warnings of a schema

module _ (extensions : List Text) where
  abbrev of_entry : Option (List Text) × List SchemaWarning → Option (List Text) × List SchemaWarning
  of_entry e = (e.0, map warning_unplaced e.1)

  abbrev of_definition : Option (List Text) × Definition → Option (List Text) × List SchemaWarning
  of_definition e = (e.0, definition_warnings extensions e.1)

  unreserved : (name : Option Path) → AllByRecursion IsUnreserved (option_to_list name) → is_reserved_name name ≡ false
  unreserved None free = refl
  unreserved (Some path) free = free.0

  entries_same : (gs : List Gathered) → AllByRecursion AreBound gs → AllByRecursion (λ g. AreSound g.decls) gs → map of_definition (declared_by gs) ≡ map of_entry (map (namespace_entry extensions) gs)
  entries_same [] bound sound = refl
  entries_same (g ∷ gs) bound sound =
      let here = namespace_same extensions g.annotations g.decls sound.0 in
      let others = entries_same gs bound.1 sound.1 in
      rw (unreserved g.name bound.0.named) (λ i. (namespace_name g, here i) ∷ others i)

  fragment_same : (gs : List Gathered) → AllByRecursion AreBound gs → AllByRecursion (λ g. AreSound g.decls) gs → map warning_unplaced (shadows extensions gs) ≡ warnings_of extensions (fragment_of gs)
  fragment_same gs bound sound =
      sym (moved_lists of_entry (λ e. e.1) (λ e. e.1) warning_unplaced (λ e. refl) (shadows_by_namespace extensions gs))
      ∙ ap (flat_map (λ e. e.1)) (map-map_of namespace_cmp namespace_cmp (λ k. k) (map warning_unplaced) (λ a b. refl) (map (namespace_entry extensions) gs)
      ∙ ap (map_of namespace_cmp) (sym (entries_same gs bound sound))
      ∙ sym (map-map_of namespace_cmp namespace_cmp (λ k. k) (definition_warnings extensions) (λ a b. refl) (declared_by gs)))
      ∙ kept_lists of_definition (λ e. e.1) (λ e. definition_warnings extensions e.1) (λ e. refl) (fragment_of gs)

  pub warned_as : (s : Schema) (fragment : Fragment) → Declares s fragment → map warning_unplaced (warnings extensions s) ≡ warnings_of extensions fragment
  warned_as s fragment d = fragment_same (namespaces_of s) d.declares_one.bound d.declares_one.sound ∙ ap (warnings_of extensions) (sym d.fragment_is)

  -- ---- places

  keys_unplaced : {A : Type 0} (f : A → A) (es : ByName A) → keys_of (by_name_unplaced f es) ≡ keys_of es
  keys_unplaced f es = kept (λ e. (e.0, declared_unplaced f e.1)) (λ e. e.0) (λ e. e.0) (λ e. refl) es

  definition_alike : (d : Definition) → definition_warnings extensions (definition_unplaced d) ≡ definition_warnings extensions d
  definition_alike d =
      let commons_keys = keys_unplaced _ d.common_types in
      let entities_keys = keys_unplaced _ d.entity_types in
      λ i. flat_map (common_warned extensions (entities_keys i)) (commons_keys i) ++ flat_map (builtin_warned extensions) (entities_keys i)

  unplaced_alike : (fragment : Fragment) → warnings_of extensions (fragment_unplaced fragment) ≡ warnings_of extensions fragment
  unplaced_alike fragment = kept_lists (λ n. (n.0, definition_unplaced n.1)) (λ n. definition_warnings extensions n.1) (λ n. definition_warnings extensions n.1) (λ n. definition_alike n.1) fragment

  pub warned_alike : (fragment other : Fragment) → fragment_unplaced fragment ≡ fragment_unplaced other → warnings_of extensions fragment ≡ warnings_of extensions other
  warned_alike fragment other same = sym (unplaced_alike fragment) ∙ ap (warnings_of extensions) same ∙ unplaced_alike other
