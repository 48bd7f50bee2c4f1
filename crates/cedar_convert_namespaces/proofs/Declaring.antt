-- SPDX-License-Identifier: Apache-2.0
-- What a namespace declares, and what all do, by name.
use Rattle.std.proofs.Common.{◌≡◌, ℕ, true, false, cond, List, [], ◌∷◌, ◌++◌, Option, Some, None, option_map, refl, sym, ap, ◌∙◌}
use Rattle.std.proofs.lemmas.List.{append-nil}
use Rattle.std.specs.Option.{option_cmp}
use Rattle.std.specs.declared.cmp.Ordering.{Ordering}
use Rattle.cedar_data.specs.Maps.{map_of}
use Rattle.cedar_names.specs.Identifiers.{unreserved_word}
use Rattle.cedar_names.specs.Names.{name_cmp, name_words}
use Rattle.cedar_names.specs.Order.{word_cmp}
use Rattle.cedar_names.specs.declared.annotation.Annotations.{Annotations}
use Rattle.cedar_names.specs.declared.id.UnreservedId.{UnreservedId}
use Rattle.cedar_names.specs.declared.name.Name.{Name}
use Rattle.cedar_text.proofs.Members.{map-append, seen_map}
use Rattle.cedar_tree.specs.Meanings.{annotations_tree}
use Rattle.cedar_tree.specs.Trees.{ByKey}
use Rattle.cedar_fragment.specs.ActionUids.{over_raw}
use Rattle.cedar_fragment.specs.declared.definitions.ActionType.{ActionType}
use Rattle.cedar_fragment.specs.declared.definitions.CommonType.{CommonType}
use Rattle.cedar_fragment.specs.declared.definitions.EntityType.{EntityType}
use Rattle.cedar_fragment.specs.declared.definitions.NamespaceDefinition.{NamespaceDefinition}
use Rattle.cedar_written.specs.declared.common_type_id.CommonTypeId.{CommonTypeId}
use Rattle.cedar_written.specs.declared.raw_name.RawName.{RawName}
use Rattle.cedar_convert_declarations.specs.of_convert_faults.Gathering.{Declarations, Gathered, namespace_cmp, namespace_name}
use Rattle.cedar_convert_declarations.specs.of_convert_fragment.Declares.{actions, commons, declared_in, definition_of, entities, given, is_reserved_name}
use Rattle.cedar_convert_declarations.specs.of_convert_fragment.Fragments as seen
use Rattle.cedar_convert_declarations.specs.of_convert_fragment.Views.{action_seen, actions_seen, common_seen, common_word, commons_seen, definition_seen, entities_seen, entity_seen, namespace_words, namespaces_seen}

-- a namespace
pub namespace-added : (g : Gathered) (name : Option Name) (definition : NamespaceDefinition RawName over_raw) (old new : List (Option Name × NamespaceDefinition RawName over_raw)) → namespace_words name ≡ namespace_name g → is_reserved_name g.name ≡ false
    → definition_seen definition ≡ definition_of g.annotations g.decls → new ≡ old ++ (name, definition) ∷ [] → namespaces_seen new ≡ namespaces_seen old ++ declared_in g
namespace-added g name definition old new named free is put =
    ap namespaces_seen put ∙ map-append (λ e. (namespace_words e.0, definition_seen e.1)) old ((name, definition) ∷ [])
    ∙ (λ i. namespaces_seen old ++ (named i, is i) ∷ [])
    ∙ ap (λ b. namespaces_seen old ++ cond b [] ((namespace_name g, definition_of g.annotations g.decls) ∷ [])) (sym free)

pub namespace-left : (g : Gathered) (old : List (Option Name × NamespaceDefinition RawName over_raw)) → is_reserved_name g.name ≡ true → namespaces_seen old ≡ namespaces_seen old ++ declared_in g
namespace-left g old reserved =
    sym (append-nil (namespaces_seen old)) ∙ ap (λ b. namespaces_seen old ++ cond b [] ((namespace_name g, definition_of g.annotations g.decls) ∷ [])) (sym reserved)

pub ruleset spaces = (namespace-added, namespace-left)

-- a definition by name
pub definition-made : {common : CommonTypeId → CommonTypeId → Ordering} {unreserved : UnreservedId → UnreservedId → Ordering} → ((a b : CommonTypeId) → common a b ≡ word_cmp (common_word a) (common_word b)) → ((a b : UnreservedId) → unreserved a b ≡ word_cmp (unreserved_word a) (unreserved_word b))
    → (types cs : List (CommonTypeId × CommonType RawName)) (kinds es : List (UnreservedId × EntityType RawName)) (acts given_acts : List (List ℕ × ActionType RawName over_raw)) (annotations : Annotations)
    → types ≡ map_of common cs → kinds ≡ map_of unreserved es → acts ≡ map_of word_cmp given_acts
    → definition_seen (record { common_types = types; entity_types = kinds; actions = acts; annotations = annotations })
    ≡ record { common_types = map_of word_cmp (commons_seen cs); entity_types = map_of word_cmp (entities_seen es); actions = map_of word_cmp (actions_seen given_acts); annotations = annotations_tree annotations }
definition-made {common} {unreserved} same same' types cs kinds es acts given_acts annotations c e a = λ i. record {
  common_types = seen_map common word_cmp common_word common_seen same types cs (commons_seen cs) c refl i;
  entity_types = seen_map unreserved word_cmp unreserved_word entity_seen same' kinds es (entities_seen es) e refl i;
  actions = seen_map word_cmp word_cmp (λ k. k) action_seen (λ x y. refl) acts given_acts (actions_seen given_acts) a refl i;
  annotations = annotations_tree annotations;
}

-- after the last declaration
pub definition-end : (made : NamespaceDefinition RawName over_raw) (cs : List (CommonTypeId × CommonType RawName)) (es : List (UnreservedId × EntityType RawName)) (given_acts : List (List ℕ × ActionType RawName over_raw)) (annotations : ByKey) (left decls : Declarations) → left ≡ []
    → commons_seen cs ++ given commons left ≡ given commons decls → entities_seen es ++ given entities left ≡ given entities decls → actions_seen given_acts ++ given actions left ≡ given actions decls
    → definition_seen made ≡ record { common_types = map_of word_cmp (commons_seen cs); entity_types = map_of word_cmp (entities_seen es); actions = map_of word_cmp (actions_seen given_acts); annotations = annotations }
    → definition_seen made ≡ definition_of annotations decls
definition-end made cs es given_acts annotations left decls none c e a is =
    let commons_are : commons_seen cs ≡ given commons decls = sym (append-nil (commons_seen cs)) ∙ ap (λ l. commons_seen cs ++ given commons l) (sym none) ∙ c in
    let entities_are : entities_seen es ≡ given entities decls = sym (append-nil (entities_seen es)) ∙ ap (λ l. entities_seen es ++ given entities l) (sym none) ∙ e in
    let actions_are : actions_seen given_acts ≡ given actions decls = sym (append-nil (actions_seen given_acts)) ∙ ap (λ l. actions_seen given_acts ++ given actions l) (sym none) ∙ a in
    is ∙ (λ i. record { common_types = map_of word_cmp (commons_are i); entity_types = map_of word_cmp (entities_are i); actions = map_of word_cmp (actions_are i); annotations = annotations })

pub ruleset ending = (definition-end)

-- names are ordered as their words are
same_order : (a b : Option Name) → option_cmp name_cmp a b ≡ namespace_cmp (option_map name_words a) (option_map name_words b)
same_order None None = refl
same_order None (Some b) = refl
same_order (Some a) None = refl
same_order (Some a) (Some b) = refl

-- a fragment by name
pub fragment-made : {cmp : Option Name → Option Name → Ordering} → ((a b : Option Name) → cmp a b ≡ option_cmp name_cmp a b) → (made pairs : List (Option Name × NamespaceDefinition RawName over_raw)) (entries : seen.Fragment) → made ≡ map_of cmp pairs → namespaces_seen pairs ≡ entries
    → namespaces_seen made ≡ map_of namespace_cmp entries
fragment-made {cmp} same made pairs entries is seen = seen_map cmp namespace_cmp namespace_words definition_seen (λ a b. same a b ∙ same_order a b) made pairs entries is seen
