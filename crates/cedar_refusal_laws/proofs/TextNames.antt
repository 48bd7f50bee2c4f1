-- SPDX-License-Identifier: Apache-2.0
-- Each namespace that a text names is named by a word at least; so what a text declares stands once.
use Rattle.std.proofs.Common.{◌≡◌, Bool, true, false, cond, List, [], ◌∷◌, Option, Some, None, option_map, inl, inr, sym, subst}
use Rattle.cedar_data.proofs.Exact.{texts_exact}
use Rattle.cedar_data.specs.Firsts.{AllPass}
use Rattle.cedar_data.specs.Maps.{IsSortedMap}
use Rattle.cedar_names.specs.Order.{word_cmp}
use Rattle.cedar_tree.specs.Trees.{Annotated, ByKey, Namespace, Node, Path, Schema, TypeTree}
use Rattle.cedar_grammar.specs.Grammar.{Reads, annots, item_behind, namespace, path, type_upto}
use Rattle.cedar_grammar.specs.Productions.{Production, ReadsMany, more, none, ◌>>=◌}
use Rattle.cedar_tokens.specs.Lexemes.{TextToken}
use Rattle.cedar_fragment_world.specs.of_convert_faults.Gathering.{Declarations, Gathered, loose_declarations, named, named_namespaces, namespace_cmp, namespace_name, namespaces_of, unnamed}
use Rattle.cedar_fragment_world.specs.of_convert_fragment.Declares.{actions, commons, declared_by, declared_in, definition_of, entities, fragment_of, given, is_reserved_name}
use Rattle.cedar_fragment_world.specs.of_convert_fragment.Fragments.{Definition}
use Rattle.cedar_fragment_world.specs.FragmentFaults.{is_reserved}
use Rattle.cedar_schema_error.specs.FullNames.{FullName}
use Rattle.cedar_sound.proofs.NothingMissed.{pass_append, pass_flat, pass_map_of, pass_weaker}
use Rattle.cedar_sound.proofs.SortedMaps.{sorted-map_of}
use Rattle.cedar_refusal_laws.proofs.DeclaredOnce.{DeclaresByMaps, IsNamed, namespaces_total}
use Rattle.cedar_refusal_laws.proofs.FragmentKinds.{IsFreeNamespace}
use Rattle.cedar_refusal_laws.proofs.Members.{pass_both, pass_keys}
use Rattle.cedar_refusal_laws.proofs.TextsFree.{gathered_free}

-- ---- what the grammar reads

-- the words of the name, if there is one
abbrev words_in : Option Path → Option FullName
words_in name = option_map (λ (p : Path). p.node) name

path_named : (ts : List TextToken) (p : Path) (rest : List TextToken) → path.reads ts p rest → IsNamed (Some p.node)
path_named ts p rest (n, mid, first, (others, left, next, is)) = subst (λ (q : Path). IsNamed (Some q.node)) (sym is.0) tt

module _ (type : Production TextToken (Node TypeTree)) where
  namespace_named : (ts : List TextToken) (n : Namespace) (rest : List TextToken) → (namespace type).reads ts n rest → IsNamed (words_in n.name)
  namespace_named ts n rest (k, behind, word, (p, mid, reads, (ds, left, braced, is))) =
      subst (λ (m : Namespace). IsNamed (words_in m.name)) (sym is.0) (path_named behind p mid reads)

  item_named : (annotations : ByKey) (ts : List TextToken) (a : Annotated Namespace) (rest : List TextToken) → (item_behind type annotations).reads ts a rest → IsNamed (words_in a.item.name)
  item_named annotations ts a rest (inl (n, mid, reads, is)) = subst (λ (b : Annotated Namespace). IsNamed (words_in b.item.name)) (sym is.0) (namespace_named ts n mid reads)
  item_named annotations ts a rest (inr (d, mid, reads, is)) = subst (λ (b : Annotated Namespace). IsNamed (words_in b.item.name)) (sym is.0) tt

  items_named : (ts : List TextToken) (s : Schema) (rest : List TextToken) → ReadsMany (annots >>= item_behind type).reads ts s rest → AllPass (λ a. IsNamed (words_in a.item.name)) s
  items_named ts _ _ none = tt
  items_named ts _ rest (more {mid = mid} {x = x} {xs = xs} (annotations, behind, noted, reads) others) = (item_named annotations behind x mid reads, items_named mid xs rest others)

schema_named : (ts : List TextToken) (s : Schema) → Reads ts s → AllPass (λ a. IsNamed (words_in a.item.name)) s
schema_named ts s reads = items_named (type_upto reads.0) ts s [] reads.1

-- ---- namespaces

named_named : (name : Option Path) (annotations : ByKey) (decls : Declarations) → IsNamed (words_in name) → AllPass (λ g. IsNamed (namespace_name g)) (named name annotations decls)
named_named None annotations decls is = tt
named_named (Some p) annotations decls is = (is, tt)

unnamed_named : (decls : Declarations) → AllPass (λ g. IsNamed (namespace_name g)) (unnamed decls)
unnamed_named [] = tt
unnamed_named (d ∷ decls) = (tt, tt)

gathered_named : (s : Schema) → AllPass (λ a. IsNamed (words_in a.item.name)) s → AllPass (λ g. IsNamed (namespace_name g)) (namespaces_of s)
gathered_named s all = pass_append (λ g. IsNamed (namespace_name g)) (named_namespaces s) (unnamed (loose_declarations s))
    (pass_flat (λ g. IsNamed (namespace_name g)) (λ n. named n.item.name n.annotations n.item.decls) s
    (pass_weaker (λ a. IsNamed (words_in a.item.name)) (λ n. AllPass (λ g. IsNamed (namespace_name g)) (named n.item.name n.annotations n.item.decls)) (λ n is. named_named n.item.name n.annotations n.item.decls is) s all))
    (unnamed_named (loose_declarations s))

-- ---- what they declare

-- the definition declares by maps
pub record IsOfMaps (d : Definition) : Type 0 where
  pub of_common_types : IsSortedMap word_cmp d.common_types
  pub of_entity_types : IsSortedMap word_cmp d.entity_types
  pub of_actions : IsSortedMap word_cmp d.actions

definition_of_maps : (annotations : ByKey) (decls : Declarations) → IsOfMaps (definition_of annotations decls)
definition_of_maps annotations decls = record {
  of_common_types = sorted-map_of texts_exact.total (given commons decls);
  of_entity_types = sorted-map_of texts_exact.total (given entities decls);
  of_actions = sorted-map_of texts_exact.total (given actions decls);
}

-- the name is one of a word at least, and the definition declares by maps
pub record IsReadSo (n : Option FullName × Definition) : Type 0 where
  pub has_name : IsNamed n.0
  pub of_maps : IsOfMaps n.1

declared_so : (g : Gathered) → IsNamed (namespace_name g) → AllPass IsReadSo (declared_in g)
declared_so g named = by (is_reserved_name g.name)
  where
    by : (b : Bool) → AllPass IsReadSo (cond b [] ((namespace_name g, definition_of g.annotations g.decls) ∷ []))
    by true = tt
    by false = (record { has_name = named; of_maps = definition_of_maps g.annotations g.decls }, tt)

-- a fragment is a map of its namespaces
pub fragment_ascends : (gs : List Gathered) → IsSortedMap namespace_cmp (fragment_of gs)
fragment_ascends gs = sorted-map_of namespaces_total (declared_by gs)

module _ (gs : List Gathered) (named : AllPass (λ g. IsNamed (namespace_name g)) gs) where
  all_so : AllPass IsReadSo (declared_by gs)
  all_so = pass_flat IsReadSo declared_in gs (pass_weaker (λ g. IsNamed (namespace_name g)) (λ g. AllPass IsReadSo (declared_in g)) declared_so gs named)

  pub fragment_of_maps : AllPass DeclaresByMaps (fragment_of gs)
  fragment_of_maps =
      pass_both (λ n. is_reserved n.0 ≡ false) IsReadSo DeclaresByMaps
      (λ n free so. record { named = so.has_name; unreserved = free; common_types = so.of_maps.of_common_types; entity_types = so.of_maps.of_entity_types; actions = so.of_maps.of_actions })
      (fragment_of gs)
      (pass_weaker IsFreeNamespace (λ n. is_reserved n.0 ≡ false) (λ n h. h.name) (fragment_of gs) (gathered_free gs))
      (pass_both (λ n. IsNamed n.0) (λ n. IsOfMaps n.1) IsReadSo (λ n name maps. record { has_name = name; of_maps = maps }) (fragment_of gs)
      (pass_keys namespace_cmp IsNamed (declared_by gs) (pass_weaker IsReadSo (λ n. IsNamed n.0) (λ n so. so.has_name) (declared_by gs) all_so))
      (pass_map_of namespace_cmp IsOfMaps (declared_by gs) (pass_weaker IsReadSo (λ n. IsOfMaps n.1) (λ n so. so.of_maps) (declared_by gs) all_so)))

-- what a schema declares that was read
pub read_of_maps : (ts : List TextToken) (s : Schema) → Reads ts s → AllPass DeclaresByMaps (fragment_of (namespaces_of s))
read_of_maps ts s reads = fragment_of_maps (namespaces_of s) (gathered_named s (schema_named ts s reads))
