-- SPDX-License-Identifier: Apache-2.0
-- Whether a schema declares a fragment does not depend on places.
use Rattle.std.proofs.Common.{◌≡◌, ℕ, ◌↔◌, false, IsTrue, List, [], ◌∷◌, ◌++◌, map, filter, flat_map, Option, Some, None, option_map, option_to_list, refl, sym, ap, ◌∙◌, subst}
use Rattle.std.specs.Bool.{⊤}
use Rattle.std.specs.List.{AllByRecursion}
use Rattle.cedar_text.proofs.Members.{map-append}
use Rattle.cedar_text.specs.Words.{is_cedar}
use Rattle.cedar_written.specs.CommonTypeIds.{is_reserved_basename}
use Rattle.cedar_tree.specs.Nesting.{types_of_app, types_of_decl, types_of_shape}
use Rattle.cedar_tree.specs.Trees.{Action, AppDecl, Attrs, Common, Context, ContextDecl, Declaration, Entity, Enum, Ident, Named, Node, PR, Path, Principal, Record, Resource, Schema, Set, Shape, Standard, TypeTree, Types, attr, no_attrs}
use Rattle.cedar_tree.specs.Unplaced.{annotated_unplaced, anywhere, attrs_unplaced, context_unplaced, decl_unplaced, line_unplaced, schema_unplaced, type_unplaced, unplaced}
use Rattle.cedar_convert_faults.specs.Bindings.{action_names, common_names, entity_names, full_names, names_in}
use Rattle.cedar_convert_faults.specs.Conditions.{Applies, AreBound, AreDeclared, AreDistinct, AreSound, HasNoRepeat, HaveNoRepeat, IsAtMostOne, IsOneList, IsUnreserved, clauses_in, lists_of, names_of_attrs, types_listed}
use Rattle.cedar_convert_faults.specs.Faults.{Clauses, is_context, lists_types}
use Rattle.cedar_convert_faults.specs.Gathering.{Declarations, Gathered, namespaces_of}
use Rattle.cedar_convert_faults.specs.Repeats.{Names, are_distinct, words_of}
use Rattle.cedar_convert_fragment.specs.Declares.{Declares, fragment_of}
use Rattle.cedar_convert_fragment.specs.Fragments.{Fragment}
use Rattle.cedar_convert_laws.specs.Unplaced.{fragment_unplaced}
use Rattle.cedar_convert_laws.proofs.ByKind.{decls_unplaced, words_moved}
use Rattle.cedar_convert_laws.proofs.Lists.{after, all_same, at_equal, both, itself, moved_filter, moved_lists, moved_some}
use Rattle.cedar_convert_laws.proofs.Spaces.{fragment_moved, gathered_unplaced, namespaces_moved}

-- ---- names

distinct_same : (names names' : Names) → names' ≡ map anywhere names → AreDistinct names' ↔ AreDistinct names
distinct_same names names' is = at_equal (λ ws. IsTrue (are_distinct ws)) (words_of names') (words_of names) (ap words_of is ∙ words_moved names)

entity_names_moved : (d : Declaration) → entity_names (decl_unplaced d) ≡ map anywhere (entity_names d)
entity_names_moved (Entity (Standard e)) = refl
entity_names_moved (Entity (Enum e)) = refl
entity_names_moved (Action a) = refl
entity_names_moved (Common t) = refl

action_names_moved : (d : Declaration) → action_names (decl_unplaced d) ≡ map anywhere (action_names d)
action_names_moved (Entity e) = refl
action_names_moved (Action a) = refl
action_names_moved (Common t) = refl

common_names_moved : (d : Declaration) → common_names (decl_unplaced d) ≡ map anywhere (common_names d)
common_names_moved (Entity e) = refl
common_names_moved (Action a) = refl
common_names_moved (Common t) = refl

names_moved : (kind : Declaration → Names) → ((d : Declaration) → kind (decl_unplaced d) ≡ map anywhere (kind d)) → (decls : Declarations) → names_in kind (decls_unplaced decls) ≡ map anywhere (names_in kind decls)
names_moved kind same decls = moved_lists (annotated_unplaced (unplaced decl_unplaced)) (λ d. kind d.item.node) (λ d. kind d.item.node) anywhere (λ d. same d.item.node) decls

-- what holds of the words of all names of a kind
all_names_same : (P : List ℕ → Type 0) (kind : Declaration → Names) → ((d : Declaration) → kind (decl_unplaced d) ≡ map anywhere (kind d)) → (decls : Declarations)
    → AllByRecursion (λ n. P n.node) (names_in kind (decls_unplaced decls)) ↔ AllByRecursion (λ n. P n.node) (names_in kind decls)
all_names_same P kind same decls =
    after (at_equal (AllByRecursion (λ n. P n.node)) (names_in kind (decls_unplaced decls)) (map anywhere (names_in kind decls)) (names_moved kind same decls))
    (all_same anywhere (λ n. P n.node) (λ n. P n.node) (λ n. itself (P n.node)) (names_in kind decls))

-- ---- clauses

abbrev clause_unplaced : Node AppDecl → Node AppDecl
clause_unplaced = unplaced line_unplaced

not_none : {A : Type 0} (x : A) (xs : List A) → x ∷ xs ≡ [] → ⊥
not_none x xs e = cc

listed_same : (line : AppDecl) → (types_listed (line_unplaced line) ≡ [] → ⊥) ↔ (types_listed line ≡ [] → ⊥)
listed_same (Types which []) = itself (◌≡◌ {A = List Path} [] [] → ⊥)
listed_same (Types which (path ∷ paths)) = ((λ _. not_none path paths), (λ _. not_none (anywhere path) (map anywhere paths)))
listed_same (Context c) = itself (◌≡◌ {A = List Path} [] [] → ⊥)

one_list_same : (clauses : Clauses) → IsOneList (map clause_unplaced clauses) ↔ IsOneList clauses
one_list_same [] = itself ⊥
one_list_same (c ∷ []) = listed_same c.node
one_list_same (c ∷ d ∷ others) = itself ⊥

at_most_same : (clauses : Clauses) → IsAtMostOne (map clause_unplaced clauses) ↔ IsAtMostOne clauses
at_most_same [] = itself ⊤
at_most_same (c ∷ []) = itself ⊤
at_most_same (c ∷ d ∷ others) = itself ⊥

lists_types_kept : (kind : PR) (line : AppDecl) → lists_types kind (line_unplaced line) ≡ lists_types kind line
lists_types_kept kind (Types which types) = refl
lists_types_kept kind (Context c) = refl

is_context_kept : (line : AppDecl) → is_context (line_unplaced line) ≡ is_context line
is_context_kept (Types which types) = refl
is_context_kept (Context c) = refl

lists_same : (kind : PR) (clauses : Clauses) → IsOneList (lists_of kind (map clause_unplaced clauses)) ↔ IsOneList (lists_of kind clauses)
lists_same kind clauses =
    after (at_equal IsOneList (lists_of kind (map clause_unplaced clauses)) (map clause_unplaced (lists_of kind clauses)) (moved_filter clause_unplaced (λ c. lists_types kind c.node) (λ c. lists_types kind c.node) (λ c. lists_types_kept kind c.node) clauses))
    (one_list_same (lists_of kind clauses))

contexts_same : (clauses : Clauses) → IsAtMostOne (filter (λ c. is_context c.node) (map clause_unplaced clauses)) ↔ IsAtMostOne (filter (λ c. is_context c.node) clauses)
contexts_same clauses =
    after (at_equal IsAtMostOne (filter (λ c. is_context c.node) (map clause_unplaced clauses)) (map clause_unplaced (filter (λ c. is_context c.node) clauses)) (moved_filter clause_unplaced (λ c. is_context c.node) (λ c. is_context c.node) (λ c. is_context_kept c.node) clauses))
    (at_most_same (filter (λ c. is_context c.node) clauses))

applies_same : (clauses : Clauses) → Applies (map clause_unplaced clauses) ↔ Applies clauses
applies_same clauses =
    let principals = lists_same Principal clauses in
    let resources = lists_same Resource clauses in
    let contexts = contexts_same clauses in (
      (λ a. record { principals = principals.0 a.principals; resources = resources.0 a.resources; contexts = contexts.0 a.contexts }),
      (λ a. record { principals = principals.1 a.principals; resources = resources.1 a.resources; contexts = contexts.1 a.contexts }),
    )

clauses_moved : (d : Declaration) → clauses_in (decl_unplaced d) ≡ map (map clause_unplaced) (clauses_in d)
clauses_moved (Entity e) = refl
clauses_moved (Action a) = by a.app_decls
  where
    by : (clauses : Option (Node Clauses)) → map (λ cs. cs.node) (option_to_list (option_map (unplaced (map clause_unplaced)) clauses)) ≡ map (map clause_unplaced) (map (λ cs. cs.node) (option_to_list clauses))
    by None = refl
    by (Some cs) = refl
clauses_moved (Common t) = refl

-- ---- types

names_of_attrs_moved : (attrs : Attrs) → names_of_attrs (attrs_unplaced attrs) ≡ map anywhere (names_of_attrs attrs)
names_of_attrs_moved no_attrs = refl
names_of_attrs_moved (attr annotations name required ty place own others) = ap (λ ns. anywhere name ∷ ns) (names_of_attrs_moved others)

mutual
  no_repeat_same : (t : TypeTree) → HasNoRepeat (type_unplaced t) ↔ HasNoRepeat t
  no_repeat_same (Set element place) = no_repeat_same element
  no_repeat_same (Ident name) = itself ⊤
  no_repeat_same (Record attrs) = both (distinct_same (names_of_attrs attrs) (names_of_attrs (attrs_unplaced attrs)) (names_of_attrs_moved attrs)) (no_repeats_same attrs)

  no_repeats_same : (attrs : Attrs) → HaveNoRepeat (attrs_unplaced attrs) ↔ HaveNoRepeat attrs
  no_repeats_same no_attrs = itself ⊤
  no_repeats_same (attr annotations name required ty place own others) = both (no_repeat_same ty) (no_repeats_same others)

shapes_moved : (c : ContextDecl) → types_of_shape (context_unplaced c) ≡ map (unplaced type_unplaced) (types_of_shape c)
shapes_moved (Named path) = refl
shapes_moved (Shape attrs) = refl

apps_moved : (line : AppDecl) → types_of_app (line_unplaced line) ≡ map (unplaced type_unplaced) (types_of_app line)
apps_moved (Types which types) = refl
apps_moved (Context c) = shapes_moved c

types_moved : (d : Declaration) → types_of_decl (decl_unplaced d) ≡ map (unplaced type_unplaced) (types_of_decl d)
types_moved (Entity (Standard e)) =
    (λ i. shapes_moved e.attrs i ++ moved_some (unplaced type_unplaced) e.tags i) ∙ sym (map-append (unplaced type_unplaced) (types_of_shape e.attrs) (option_to_list e.tags))
types_moved (Entity (Enum e)) = refl
types_moved (Action a) =
    let whole : (cs : Option (Node Clauses)) → Clauses = λ cs. flat_map (λ apps. apps.node) (option_to_list cs) in
    let clauses : whole (option_map (unplaced (map clause_unplaced)) a.app_decls) ≡ map clause_unplaced (whole a.app_decls) =
    ap (flat_map (λ apps. apps.node)) (moved_some (unplaced (map clause_unplaced)) a.app_decls) ∙ moved_lists (unplaced (map clause_unplaced)) (λ apps. apps.node) (λ apps. apps.node) clause_unplaced (λ apps. refl) (option_to_list a.app_decls) in
    ap (flat_map (λ d. types_of_app d.node)) clauses ∙ moved_lists clause_unplaced (λ d. types_of_app d.node) (λ d. types_of_app d.node) (unplaced type_unplaced) (λ d. apps_moved d.node) (whole a.app_decls)
types_moved (Common t) = refl

-- ---- declarations and namespaces

sound_same : (decls : Declarations) → AreSound (decls_unplaced decls) ↔ AreSound decls
sound_same decls =
    let entities = all_names_same (λ w. is_cedar w ≡ false) entity_names entity_names_moved decls in
    let commons = all_names_same (λ w. is_cedar w ≡ false) common_names common_names_moved decls in
    let keywords = all_names_same (λ w. is_reserved_basename w ≡ false) common_names common_names_moved decls in
    let clauses_at : Declarations → List Clauses = λ ds. flat_map (λ d. clauses_in d.item.node) ds in
    let types_at : Declarations → List (Node TypeTree) = λ ds. flat_map (λ d. types_of_decl d.item.node) ds in
    let here = annotated_unplaced (unplaced decl_unplaced) in
    let applies =
    after (at_equal (AllByRecursion Applies) (clauses_at (decls_unplaced decls)) (map (map clause_unplaced) (clauses_at decls)) (moved_lists here (λ d. clauses_in d.item.node) (λ d. clauses_in d.item.node) (map clause_unplaced) (λ d. clauses_moved d.item.node) decls))
    (all_same (map clause_unplaced) Applies Applies applies_same (clauses_at decls)) in
    let repeats =
    after (at_equal (AllByRecursion (λ t. HasNoRepeat t.node)) (types_at (decls_unplaced decls)) (map (unplaced type_unplaced) (types_at decls)) (moved_lists here (λ d. types_of_decl d.item.node) (λ d. types_of_decl d.item.node) (unplaced type_unplaced) (λ d. types_moved d.item.node) decls))
    (all_same (unplaced type_unplaced) (λ t. HasNoRepeat t.node) (λ t. HasNoRepeat t.node) (λ t. no_repeat_same t.node) (types_at decls)) in (
      (λ s. record { entities_free = entities.0 s.entities_free; commons_free = commons.0 s.commons_free; no_keyword = keywords.0 s.no_keyword; applies = applies.0 s.applies; no_repeat = repeats.0 s.no_repeat }),
      (λ s. record { entities_free = entities.1 s.entities_free; commons_free = commons.1 s.commons_free; no_keyword = keywords.1 s.no_keyword; applies = applies.1 s.applies; no_repeat = repeats.1 s.no_repeat }),
    )

named_same : (name : Option Path) → AllByRecursion IsUnreserved (option_to_list (option_map anywhere name)) ↔ AllByRecursion IsUnreserved (option_to_list name)
named_same None = itself ⊤
named_same (Some path) = itself (IsUnreserved path × ⊤)

bound_same : (g : Gathered) → AreBound (gathered_unplaced g) ↔ AreBound g
bound_same g =
    let named = named_same g.name in
    let distinct : (kind : Declaration → Names) → ((d : Declaration) → kind (decl_unplaced d) ≡ map anywhere (kind d)) → AreDistinct (names_in kind (decls_unplaced g.decls)) ↔ AreDistinct (names_in kind g.decls) =
    λ kind same. distinct_same (names_in kind g.decls) (names_in kind (decls_unplaced g.decls)) (names_moved kind same g.decls) in
    let entities = distinct entity_names entity_names_moved in
    let acts = distinct action_names action_names_moved in
    let commons = distinct common_names common_names_moved in (
      (λ b. record { named = named.0 b.named; entity_types = entities.0 b.entity_types; actions = acts.0 b.actions; common_types = commons.0 b.common_types }),
      (λ b. record { named = named.1 b.named; entity_types = entities.1 b.entity_types; actions = acts.1 b.actions; common_types = commons.1 b.common_types }),
    )

full_names_moved : (name : Option Path) → full_names (option_map anywhere name) ≡ map anywhere (full_names name)
full_names_moved None = refl
full_names_moved (Some path) = refl

declared_same : (gs : List Gathered) → AreDeclared (map gathered_unplaced gs) ↔ AreDeclared gs
declared_same gs =
    let bound = all_same gathered_unplaced AreBound AreBound bound_same gs in
    let sound = all_same gathered_unplaced (λ g. AreSound g.decls) (λ g. AreSound g.decls) (λ g. sound_same g.decls) gs in
    let names = distinct_same (flat_map (λ g. full_names g.name) gs) (flat_map (λ g. full_names g.name) (map gathered_unplaced gs)) (moved_lists gathered_unplaced (λ g. full_names g.name) (λ g. full_names g.name) anywhere (λ g. full_names_moved g.name) gs) in (
      (λ d. record { bound = bound.0 d.bound; sound = sound.0 d.sound; namespaces = names.0 d.namespaces }),
      (λ d. record { bound = bound.1 d.bound; sound = sound.1 d.sound; namespaces = names.1 d.namespaces }),
    )

-- a schema that is the same as another but for places declares a fragment where that does, the same but for places
pub declares_too : (s s' : Schema) → schema_unplaced s ≡ schema_unplaced s' → (fragment : Fragment) → Declares s fragment
    → (other : Fragment) × Declares s' other × (fragment_unplaced fragment ≡ fragment_unplaced other)
declares_too s s' same fragment d =
    let between : map gathered_unplaced (namespaces_of s) ≡ map gathered_unplaced (namespaces_of s') = sym (namespaces_moved s) ∙ ap namespaces_of same ∙ namespaces_moved s' in (
      fragment_of (namespaces_of s'),
      record { declares_one = (declared_same (namespaces_of s')).0 (subst AreDeclared between ((declared_same (namespaces_of s)).1 d.declares_one)); fragment_is = refl },
      ap fragment_unplaced d.fragment_is ∙ sym (fragment_moved (namespaces_of s)) ∙ ap fragment_of between ∙ fragment_moved (namespaces_of s'),
    )

-- a schema declares one fragment at most
pub one_declared : (s : Schema) (fragment other : Fragment) → Declares s fragment → Declares s other → fragment ≡ other
one_declared s fragment other d d' = d.fragment_is ∙ sym d'.fragment_is
