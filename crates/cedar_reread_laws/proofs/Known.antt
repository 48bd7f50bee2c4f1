-- SPDX-License-Identifier: Apache-2.0
-- What is known of a printable fragment: its names are free of `__cedar`, and its world is printable.
use Rattle.std.proofs.Common.{◌≡◌, ◌++◌, ◌||◌, Bool, true, false, not, List, [], ◌∷◌, map, Option, Some, None, refl, sym, subst, inl, inr}
use Rattle.std.specs.Prelude.{◌⊎◌}
use Rattle.std.proofs.lemmas.Bool.{and_parts}
use Rattle.std.specs.BTreeMap.{is_at}
use Rattle.std.specs.List.{AllByRecursion, flat_map, list_all, list_any}
use Rattle.std.specs.Map.{keys_of}
use Rattle.std.specs.Ordering.{is_eq}
use Rattle.std.specs.declared.cmp.Ordering.{Ordering}
use Rattle.std.specs.declared.cmp.Ordering.TheVariants.{Less, Equal, Greater}
use Rattle.cedar_data.specs.Sets.{contains}
use Rattle.cedar_names.specs.Components.{has_cedar}
use Rattle.cedar_names.specs.Identifiers.{unreserved_word}
use Rattle.cedar_names.specs.Names.{name_words}
use Rattle.cedar_names.specs.Order.{words_cmp}
use Rattle.cedar_names.specs.declared.id.UnreservedId.{UnreservedId}
use Rattle.cedar_names.specs.declared.name.Name.{Name}
use Rattle.cedar_declared.specs.Names.{is_common, is_declared, is_entity}
use Rattle.cedar_schema_error.specs.FullNames.{FullName, basename}
use Rattle.cedar_sound.proofs.NameOrders.{names_exact}
use Rattle.cedar_text.specs.Words.{has_word, is_cedar, is_id, is_primitive_word, is_unreserved_id, primitive_words}
use Rattle.cedar_tree.specs.Trees.{Text}
use Rattle.cedar_world.specs.Worlds.{World, own}
use Rattle.cedar_written.specs.declared.common_type_id.CommonTypeId.{CommonTypeId}
use Rattle.cedar_written.specs.declared.raw_name.RawName.{RawName}
use Rattle.cedar_written.specs.declared.reference_type.ReferenceType.TheVariants as kind
use Rattle.cedar_fragment.specs.ActionUids.{over_raw}
use Rattle.cedar_fragment.specs.declared.definitions.CommonType.{CommonType}
use Rattle.cedar_fragment.specs.declared.definitions.EntityType.{EntityType}
use Rattle.cedar_fragment.specs.declared.definitions.Fragment as held
use Rattle.cedar_fragment.specs.declared.definitions.NamespaceDefinition.{NamespaceDefinition}
use Rattle.cedar_convert_fragment.specs.Fragments.{ByName, Declared, EntityContent, Fragment, TypeAt}
use Rattle.cedar_convert_fragment.specs.Views.{commons_seen, entities_seen, fragment_seen, namespace_words, namespaces_seen}
use Rattle.cedar_fragment_world.specs.FragmentWorlds.{common_at, entity_at, full_name, namespaces_of, world_of_fragment}
use Rattle.cedar_reread_declares.proofs.Lists.{all_append}
use Rattle.cedar_reread_declares.specs.Rereadable.{RereadableName}
use Rattle.cedar_reread_print.proofs.Names.{components_are_ids}
use Rattle.cedar_reread.proofs.Paths.{AreIds}
use Rattle.cedar_reread_world.specs.Rewritten as worlds
use Rattle.cedar_reread_laws.specs.Printable.{IsPrintable}
use Rattle.cedar_reread_laws.proofs.Wholes.{AreFree, NamespaceIsFree}
use Rattle.cedar_reread_laws.proofs.WorldReread.{no_cedar_in}

-- ---- held fragments have free names

pub is_not : (t : Bool) → not t ≡ true → t ≡ false
is_not true e = cc
is_not false e = refl

free_id : (id : UnreservedId) → is_cedar (unreserved_word id) ≡ false
free_id id = is_not (is_cedar (unreserved_word id)) id.unreserved

unreserved_ids : (ws : List Text) → list_all is_id ws ≡ true → has_cedar ws ≡ false → list_all is_unreserved_id ws ≡ true
unreserved_ids [] ids free = refl
unreserved_ids (w ∷ ws) ids free =
    let parts = and_parts (is_id w) (list_all is_id ws) ids in
    by (is_cedar w) refl parts.0 (unreserved_ids ws parts.1) free
  where
    by : (t : Bool) → is_cedar w ≡ t → is_id w ≡ true → (has_cedar ws ≡ false → list_all is_unreserved_id ws ≡ true) → (t || has_cedar ws) ≡ false → list_all is_unreserved_id (w ∷ ws) ≡ true
    by true is id others free = cc
    by false is id others free = rw (id, is, others free) refl

named_by : (words : List Text) → AreIds words → has_cedar words ≡ false → RereadableName (Some words)
named_by [] ids free = absurd ids
named_by (w ∷ ws) ids free = unreserved_ids (w ∷ ws) ids free

free_name : (name : Option Name) → RereadableName (namespace_words name)
free_name None = tt
free_name (Some name) = named_by (name_words name) (components_are_ids name.internal) (is_not (has_cedar (name_words name)) name.unreserved)

free_commons : (es : List (CommonTypeId × CommonType RawName)) → AreFree (commons_seen es)
free_commons [] = tt
free_commons (e ∷ es) = (free_id e.0.id, free_commons es)

free_entities : (es : List (UnreservedId × EntityType RawName)) → AreFree (entities_seen es)
free_entities [] = tt
free_entities (e ∷ es) = (free_id e.0, free_entities es)

free_namespaces : (es : List (Option Name × NamespaceDefinition RawName over_raw)) → AllByRecursion NamespaceIsFree (namespaces_seen es)
free_namespaces [] = tt
free_namespaces (e ∷ es) = ((free_name e.0, free_commons e.1.common_types, free_entities e.1.entity_types), free_namespaces es)

pub names_free : (F : held.Fragment RawName over_raw) → AllByRecursion NamespaceIsFree (fragment_seen F)
names_free F = free_namespaces F.0

-- ---- what holds of each key holds of what is declared

pub equal : (o : Ordering) → is_eq o ≡ true → o ≡ Equal
equal Less e = cc
equal Equal e = refl
equal Greater e = cc

contains_all : (P : FullName → Type 0) (keys : List FullName) (name : FullName) → contains words_cmp keys name ≡ true → AllByRecursion P keys → P name
contains_all P [] name e all = cc
contains_all P (key ∷ keys) name e all = by (is_at (words_cmp name) key) refl e (λ later. contains_all P keys name later all.1)
  where
    by : (t : Bool) → is_at (words_cmp name) key ≡ t → (t || contains words_cmp keys name) ≡ true → (contains words_cmp keys name ≡ true → P name) → P name
    by true is e later = subst P (sym (names_exact.exact name key (equal (words_cmp name key) is))) all.0
    by false is e later = later e

-- ---- full names

basename_in : (ns : FullName) (w : Text) → basename (ns ++ w ∷ []) ≡ w
basename_in [] w = refl
basename_in (a ∷ []) w = refl
basename_in (a ∷ b ∷ bs) w = basename_in (b ∷ bs) w

basename_of : (ns : Option FullName) (w : Text) → basename (full_name ns w) ≡ w
basename_of None w = refl
basename_of (Some ns) w = basename_in ns w

free_behind : (ns : FullName) (w : Text) → has_cedar ns ≡ false → is_cedar w ≡ false → has_cedar (ns ++ w ∷ []) ≡ false
free_behind [] w free is = rw is refl
free_behind (a ∷ ns) w free is = by (is_cedar a) (λ rest. free_behind ns w rest is) free
  where
    by : (t : Bool) → (has_cedar ns ≡ false → has_cedar (ns ++ w ∷ []) ≡ false) → (t || has_cedar ns) ≡ false → (t || has_cedar (ns ++ w ∷ [])) ≡ false
    by true others e = cc
    by false others e = others e

free_full : (ns : Option FullName) (w : Text) → RereadableName ns → is_cedar w ≡ false → has_cedar (full_name ns w) ≡ false
free_full None w named is = rw is refl
free_full (Some []) w named is = absurd named
free_full (Some (a ∷ ns)) w named is = free_behind (a ∷ ns) w (no_cedar_in (a ∷ ns) named) is

-- ---- the world of a fragment

module _ (P : Option FullName → Text → Type 0) (Q : FullName → Type 0) (each : (ns : Option FullName) (w : Text) → P ns w → Q (full_name ns w)) where
  keys_commons : (ns : Option FullName) (es : ByName TypeAt) → AllByRecursion {X = Text × Declared TypeAt} (λ e. P ns e.0) es → AllByRecursion Q (keys_of (map (common_at ns) es))
  keys_commons ns [] all = tt
  keys_commons ns (e ∷ es) all = (each ns e.0 all.0, keys_commons ns es all.1)

  keys_entities : (ns : Option FullName) (es : ByName EntityContent) → AllByRecursion {X = Text × Declared EntityContent} (λ e. P ns e.0) es → AllByRecursion Q (keys_of (map (entity_at ns) es))
  keys_entities ns [] all = tt
  keys_entities ns (e ∷ es) all = (each ns e.0 all.0, keys_entities ns es all.1)

  all_commons : (F : Fragment) → AllByRecursion (λ n. AllByRecursion (λ e. P n.0 e.0) n.1.common_types) F → AllByRecursion Q (flat_map (λ ns. keys_of ns.common_types) (namespaces_of F))
  all_commons [] all = tt
  all_commons (n ∷ F) all = all_append Q (keys_of (map (common_at n.0) n.1.common_types)) _ (keys_commons n.0 n.1.common_types all.0) (all_commons F all.1)

  all_entities : (F : Fragment) → AllByRecursion (λ n. AllByRecursion (λ e. P n.0 e.0) n.1.entity_types) F → AllByRecursion Q (flat_map (λ ns. keys_of ns.entity_types) (namespaces_of F))
  all_entities [] all = tt
  all_entities (n ∷ F) all = all_append Q (keys_of (map (entity_at n.0) n.1.entity_types)) _ (keys_entities n.0 n.1.entity_types all.0) (all_entities F all.1)

-- a name of one kind or the other
either_kind : (a b : Bool) → (a || b) ≡ true → (a ≡ true) ⊎ (b ≡ true)
either_kind true b e = inl refl
either_kind false b e = inr e

module _ (F : Fragment) (extensions : List Text) (free : AllByRecursion NamespaceIsFree F) (printable : IsPrintable F extensions) (no_primitive : list_any is_primitive_word extensions ≡ false) where
  abbrev W : World
  W = world_of_fragment F extensions

  free_types : (G : Fragment) → AllByRecursion NamespaceIsFree G → AllByRecursion (λ n. AllByRecursion (λ e. RereadableName n.0 × (is_cedar e.0 ≡ false)) n.1.common_types) G
      × AllByRecursion (λ n. AllByRecursion (λ e. RereadableName n.0 × (is_cedar e.0 ≡ false)) n.1.entity_types) G
  free_types [] all = (tt, tt)
  free_types (n ∷ G) all =
      let rest = free_types G all.1 in
      ((with_name n.0 (λ e. is_cedar e.0 ≡ false) n.1.common_types all.0.0 all.0.1, rest.0), (with_name n.0 (λ e. is_cedar e.0 ≡ false) n.1.entity_types all.0.0 all.0.2, rest.1))
    where
      with_name : {X : Type 0} (ns : Option (List Text)) (P : X → Type 0) (xs : List X) → RereadableName ns → AllByRecursion P xs → AllByRecursion (λ x. RereadableName ns × P x) xs
      with_name ns P [] named all = tt
      with_name ns P (x ∷ xs) named all = ((named, all.0), with_name ns P xs named all.1)

  abbrev IsFreeKey : Option FullName → Text → Type 0
  IsFreeKey ns w = RereadableName ns × (is_cedar w ≡ false)

  unreserved : (name : FullName) → is_declared (own W) kind.CommonOrEntity name ≡ true → has_cedar name ≡ false
  unreserved name declared = elim (either_kind (is_common (own W) name) (is_entity (own W) name) declared) [
    | inl common ↦ contains_all (λ n. has_cedar n ≡ false) (own W).common_types name common (all_commons IsFreeKey (λ n. has_cedar n ≡ false) (λ ns w is. free_full ns w is.0 is.1) F (free_types F free).0)
    | inr entity ↦ contains_all (λ n. has_cedar n ≡ false) (own W).entity_types name entity (all_entities IsFreeKey (λ n. has_cedar n ≡ false) (λ ns w is. free_full ns w is.0 is.1) F (free_types F free).1)
  ]

  abbrev IsOther : FullName → Type 0
  IsOther name = has_word (primitive_words ++ extensions) (basename name) ≡ false

  no_builtin_word : (name : FullName) → is_entity (own W) name ≡ true → IsOther name
  no_builtin_word name entity =
      contains_all IsOther (own W).entity_types name entity
      (all_entities (λ ns w. has_word (primitive_words ++ extensions) w ≡ false) IsOther (λ ns w is. subst (λ v. has_word (primitive_words ++ extensions) v ≡ false) (sym (basename_of ns w)) is) F printable.no_builtin)

  pub world_printable : worlds.Printable W
  world_printable = record { one_kind = printable.one_kind; no_builtin_word = no_builtin_word; unreserved = unreserved; no_primitive_word = no_primitive }
