-- SPDX-License-Identifier: Apache-2.0
-- What declarations without places declare.
use Rattle.std.proofs.Common.{◌≡◌, cond, List, [], ◌∷◌, map, Option, Some, None, option_map, unwrap_or, refl, sym, ap, ◌∙◌}
use Rattle.std.specs.Option.{option_or}
use Rattle.cedar_data.specs.Maps.{map_of}
use Rattle.cedar_data.proofs.MapsMade.{map-map_of}
use Rattle.cedar_names.specs.Order.{word_cmp}
use Rattle.cedar_tree.specs.Trees.{ActionDecl, AppDecl, ByKey, Common, Context, Declaration, Entity, EntityDecl, Enum, Action, Node, PR, Principal, Resource, Place, QualName, Standard, Text, Types}
use Rattle.cedar_tree.specs.Unplaced as tree
use Rattle.cedar_tree.specs.Unplaced.{annotated_unplaced, annotations_unplaced, anywhere, decl_unplaced, entity_unplaced, line_unplaced, nowhere, reference_unplaced, unplaced}
use Rattle.cedar_convert_faults.specs.Bindings.{entity_names}
use Rattle.cedar_convert_faults.specs.Faults.{Clauses, same_scope}
use Rattle.cedar_convert_faults.specs.Gathering.{Declarations}
use Rattle.cedar_convert_faults.specs.Repeats.{Names, words_of}
use Rattle.cedar_convert_fragment.specs.Declares.{action_content, actions, applies_to, clauses_of, commons, context_in, definition_of, each, empty_context, entities, entity_content, first_context, free_name, free_names, given, listed_in, listed_of, name_of, parent_of, parents_of, type_at}
use Rattle.cedar_convert_fragment.specs.Fragments.{ByName, Listed, Shaped, TypeAt}
use Rattle.cedar_convert_laws.specs.Unplaced.{action_unplaced, applies_unplaced, by_name_unplaced, content_unplaced, declared_unplaced, definition_unplaced, name_unplaced, parent_unplaced, type_unplaced}
use Rattle.cedar_convert_laws.proofs.Lists.{kept, kept_lists, moved, moved_cond, moved_lists, moved_option}
use Rattle.cedar_convert_laws.proofs.Types.{names_moved, shape_moved, tags_moved, type_at_moved}

-- ---- entity types

content_moved : (e : EntityDecl) → entity_content (entity_unplaced e) ≡ content_unplaced (entity_content e)
content_moved (Standard e) = λ i. Shaped (names_moved e.member_of_types i) (shape_moved e.attrs i) (tags_moved e.tags i)
content_moved (Enum e) = ap Listed (kept anywhere (λ c. c.node) (λ c. c.node) (λ c. refl) e.choices)

-- ---- actions

abbrev clause_unplaced : Node AppDecl → Node AppDecl
clause_unplaced = unplaced line_unplaced

listed_moved : (kind : PR) (line : AppDecl) → map name_of (listed_in kind (line_unplaced line)) ≡ map name_unplaced (map name_of (listed_in kind line))
listed_moved kind (Types which types) = ap (map name_of) (moved_cond anywhere (same_scope kind which.node) types) ∙ names_moved (cond (same_scope kind which.node) types [])
listed_moved kind (Context c) = refl

lists_moved : (kind : PR) (clauses : Clauses) → listed_of kind (map clause_unplaced clauses) ≡ map name_unplaced (listed_of kind clauses)
lists_moved kind clauses =
    moved_lists clause_unplaced (λ c. map name_of (listed_in kind c.node)) (λ c. map name_of (listed_in kind c.node)) name_unplaced (λ c. listed_moved kind c.node) clauses

context_before : (line : AppDecl) (rest rest' : Option TypeAt) → rest ≡ option_map type_unplaced rest' → option_or (context_in (line_unplaced line)) rest ≡ option_map type_unplaced (option_or (context_in line) rest')
context_before (Types which types) rest rest' is = is
context_before (Context c) rest rest' is = ap Some (shape_moved c)

context_moved : (clauses : Clauses) → first_context (map clause_unplaced clauses) ≡ option_map type_unplaced (first_context clauses)
context_moved [] = refl
context_moved (c ∷ clauses) = context_before c.node (first_context (map clause_unplaced clauses)) (first_context clauses) (context_moved clauses)

or_empty : (o : Option TypeAt) → unwrap_or (option_map type_unplaced o) empty_context ≡ type_unplaced (unwrap_or o empty_context)
or_empty None = refl
or_empty (Some t) = refl

applies_moved : (clauses : Clauses) → applies_to (map clause_unplaced clauses) ≡ applies_unplaced (applies_to clauses)
applies_moved clauses = λ i. record {
  resources = lists_moved Resource clauses i;
  principals = lists_moved Principal clauses i;
  context = (ap (λ o. unwrap_or o empty_context) (context_moved clauses) ∙ or_empty (first_context clauses)) i;
}

clauses_moved : (clauses : Option (Node Clauses)) → clauses_of (option_map (unplaced (map clause_unplaced)) clauses) ≡ map clause_unplaced (clauses_of clauses)
clauses_moved None = refl
clauses_moved (Some clauses) = refl

parent_moved : (q : QualName) → parent_of (reference_unplaced q) ≡ parent_unplaced (parent_of q)
parent_moved q = λ i. record { ty = moved_option anywhere name_of name_of name_unplaced (λ p. refl) q.path i; id = q.eid }

parents_moved : (parents : List (Node QualName)) → parents_of (map (unplaced reference_unplaced) parents) ≡ option_map (map parent_unplaced) (parents_of parents)
parents_moved [] = refl
parents_moved (parent ∷ parents) =
    ap Some (moved (unplaced reference_unplaced) (λ p. parent_of p.node) (λ p. parent_of p.node) parent_unplaced (λ p. parent_moved p.node) (parent ∷ parents))

acting_moved : (a : ActionDecl) → action_content (tree.action_unplaced a) ≡ action_unplaced (action_content a)
acting_moved a = λ i. record {
  attributes = None;
  applies_to = Some ((ap applies_to (clauses_moved a.app_decls) ∙ applies_moved (clauses_of a.app_decls)) i);
  member_of = parents_moved a.parents i;
}

-- ---- declarations by name

free_moved : (names : Names) → free_names (map anywhere names) ≡ free_names names
free_moved names = kept_lists anywhere free_name free_name (λ n. refl) names

pub words_moved : (names : Names) → words_of (map anywhere names) ≡ words_of names
words_moved names = kept anywhere (λ n. n.node) (λ n. n.node) (λ n. refl) names

each_moved : {A : Type 0} (f : A → A) (names : List Text) (content content' : A) (annotations : ByKey) (place : Place) → content' ≡ f content
    → each names content' (annotations_unplaced annotations) nowhere ≡ by_name_unplaced f (each names content annotations place)
each_moved {A} f names content content' annotations place is =
    ap (λ c. each names c (annotations_unplaced annotations) nowhere) is
    ∙ sym (kept (λ n. (n, record { content = content; annotations = annotations; loc = Some place })) (λ e. (e.0, declared_unplaced f e.1)) (λ n. (n, record { content = f content; annotations = annotations_unplaced annotations; loc = Some nowhere })) (λ n. refl) names)

entities_moved : (d : Declaration) (annotations : ByKey) (place : Place) → entities (decl_unplaced d) (annotations_unplaced annotations) nowhere ≡ by_name_unplaced content_unplaced (entities d annotations place)
entities_moved (Entity e) annotations place =
    ap (λ ns. each ns (entity_content (entity_unplaced e)) (annotations_unplaced annotations) nowhere) (names e)
    ∙ each_moved content_unplaced (free_names (entity_names (Entity e))) (entity_content e) (entity_content (entity_unplaced e)) annotations place (content_moved e)
  where
    names : (e : EntityDecl) → free_names (entity_names (Entity (entity_unplaced e))) ≡ free_names (entity_names (Entity e))
    names (Standard e) = free_moved e.names
    names (Enum e) = free_moved e.names
entities_moved (Action a) annotations place = refl
entities_moved (Common t) annotations place = refl

actions_moved : (d : Declaration) (annotations : ByKey) (place : Place) → actions (decl_unplaced d) (annotations_unplaced annotations) nowhere ≡ by_name_unplaced action_unplaced (actions d annotations place)
actions_moved (Entity e) annotations place = refl
actions_moved (Action a) annotations place =
    ap (λ ns. each ns (action_content (tree.action_unplaced a)) (annotations_unplaced annotations) nowhere) (words_moved a.names)
    ∙ each_moved action_unplaced (words_of a.names) (action_content a) (action_content (tree.action_unplaced a)) annotations place (acting_moved a)
actions_moved (Common t) annotations place = refl

commons_moved : (d : Declaration) (annotations : ByKey) (place : Place) → commons (decl_unplaced d) (annotations_unplaced annotations) nowhere ≡ by_name_unplaced type_unplaced (commons d annotations place)
commons_moved (Entity e) annotations place = refl
commons_moved (Action a) annotations place = refl
commons_moved (Common t) annotations place =
    each_moved type_unplaced (free_names (t.name ∷ [])) (type_at t.def) (type_at (unplaced tree.type_unplaced t.def)) annotations place (type_at_moved t.def)

-- ---- those of a namespace

abbrev pub decls_unplaced : Declarations → Declarations
decls_unplaced decls = map (annotated_unplaced (unplaced decl_unplaced)) decls

given_moved : {A : Type 0} (kind : Declaration → ByKey → Place → ByName A) (f : A → A)
    → ((d : Declaration) (annotations : ByKey) (place : Place) → kind (decl_unplaced d) (annotations_unplaced annotations) nowhere ≡ by_name_unplaced f (kind d annotations place))
    → (decls : Declarations) → map_of word_cmp (given kind (decls_unplaced decls)) ≡ by_name_unplaced f (map_of word_cmp (given kind decls))
given_moved kind f same decls =
    ap (map_of word_cmp) (moved_lists (annotated_unplaced (unplaced decl_unplaced)) (λ d. kind d.item.node d.annotations d.item.loc) (λ d. kind d.item.node d.annotations d.item.loc) (λ e. (e.0, declared_unplaced f e.1)) (λ d. same d.item.node d.annotations d.item.loc) decls)
    ∙ sym (map-map_of word_cmp word_cmp (λ k. k) (declared_unplaced f) (λ a b. refl) (given kind decls))

pub definition_moved : (annotations : ByKey) (decls : Declarations) → definition_of (annotations_unplaced annotations) (decls_unplaced decls) ≡ definition_unplaced (definition_of annotations decls)
definition_moved annotations decls = λ i. record {
  common_types = given_moved commons type_unplaced commons_moved decls i;
  entity_types = given_moved entities content_unplaced entities_moved decls i;
  actions = given_moved actions action_unplaced actions_moved decls i;
  annotations = annotations_unplaced annotations;
}
