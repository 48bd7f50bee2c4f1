-- SPDX-License-Identifier: Apache-2.0
-- What the declarations of a namespace declare.
use Rattle.std.proofs.Common.{◌≡◌, ◌++◌, Bool, false, List, [], ◌∷◌, map, refl, sym, ap, ◌∙◌, subst, None}
use Rattle.std.proofs.lemmas.Cmp.{nat_list_cmp_total}
use Rattle.std.specs.List.{AllByRecursion}
use Rattle.std.specs.List.Sorted.{IsStrictlySortedBy}
use Rattle.std.specs.Map.{keys_of}
use Rattle.cedar_data.specs.Maps.{IsSortedMap, map_of}
use Rattle.cedar_names.specs.Order.{word_cmp}
use Rattle.cedar_text.specs.Words.{is_cedar}
use Rattle.cedar_written.specs.CommonTypeIds.{is_reserved_basename}
use Rattle.cedar_tree.specs.Nesting.{types_of_decl}
use Rattle.cedar_tree.specs.Trees.{ByKey, Node, Text}
use Rattle.cedar_tree.specs.Unplaced.{annotations_unplaced}
use Rattle.cedar_convert_faults.specs.Bindings.{action_names, common_names, entity_names, names_in}
use Rattle.cedar_convert_faults.specs.Conditions.{AreDistinct, AreSound, Applies, HasNoRepeat, clauses_in}
use Rattle.cedar_convert_faults.specs.Repeats.{Names, are_distinct, words_of}
use Rattle.cedar_convert_fragment.specs.Declares.{actions, commons, definition_of, entities, given}
use Rattle.cedar_convert_fragment.specs.Fragments.{ActionContent, ByName, Declared, Definition, EntityContent, TypeAt}
use Rattle.cedar_reread.specs.Placeless.{action_placeless, by_name_placeless, definition_placeless, entity_placeless, type_placeless}
use Rattle.cedar_reread.specs.Rereading.{action_reread, by_name_reread, definition_reread, entity_reread, type_reread}
use Rattle.cedar_reread.specs.TreesRead.{action_entry_read, common_entry_read, declarations_read, entity_entry_read}
use Rattle.cedar_reread_declares.specs.Rereadable.{RereadableActionEntry, RereadableCommonEntry, RereadableDefinition, RereadableEntityEntry}
use Rattle.cedar_reread_declares.proofs.Actions.{action_applies, action_declared, action_distinct}
use Rattle.cedar_reread_declares.proofs.Entities.{Distinct, entity_declared, entity_distinct}
use Rattle.cedar_reread_declares.proofs.GivenNames.{Noted, action_again, action_names_are, common_again, common_names_are, entity_again, entity_names_are, entry_declared, given_actions, given_commons, given_entities, named, words_named}
use Rattle.cedar_reread.proofs.Sorted.{of_itself}
use Rattle.cedar_reread_declares.proofs.Lists.{all_append, all_flat, all_map, sorted_distinct}
use Rattle.cedar_reread_declares.proofs.Types.{annotations_twice, type_declared, type_distinct}

-- ---- maps

module _ {A : Type 0} (bare : A → A) (declare : Text → A → A) (again : A → A) (Good : Text × Declared A → Type 0)
    (same : (e : Text × Declared A) → Good e → bare (declare e.0 e.1.content) ≡ bare (again e.1.content)) where
  entries_declared : (es : ByName A) → AllByRecursion Good es → by_name_placeless bare (map (entry_declared declare) es) ≡ by_name_placeless bare (by_name_reread again es)
  entries_declared [] all = refl
  entries_declared (e ∷ es) all =
      let content = same e all.0 in
      let annotations = annotations_twice e.1.annotations in
      let others = entries_declared es all.1 in
      λ i. (e.0, record { content = content i; annotations = annotations i; loc = None }) ∷ others i

  keys_declared : (es : ByName A) → keys_of (map (entry_declared declare) es) ≡ keys_of es
  keys_declared [] = refl
  keys_declared (e ∷ es) = ap (λ (ks : List Text). e.0 ∷ ks) (keys_declared es)

  -- the map of what is read of a map in order
  map_declared : (es made : ByName A) → made ≡ map (entry_declared declare) es → IsSortedMap word_cmp es → AllByRecursion Good es
      → by_name_placeless bare (map_of word_cmp made) ≡ by_name_placeless bare (by_name_reread again es)
  map_declared es made is sorted all =
      let in_order = subst (λ (ks : List Text). IsStrictlySortedBy word_cmp ks) (sym (keys_declared es)) sorted in
      ap (λ (l : ByName A). by_name_placeless bare (map_of word_cmp l)) is
      ∙ ap (by_name_placeless bare) (of_itself word_cmp nat_list_cmp_total (map (entry_declared declare) es) in_order)
      ∙ entries_declared es all

-- ---- the definition

pub definition_declared : (d : Definition) (annotations own : ByKey) → annotations_unplaced annotations ≡ annotations_unplaced own → RereadableDefinition d
    → definition_placeless (definition_of annotations (declarations_read d)) ≡ definition_placeless (definition_reread d own)
definition_declared d annotations own noted is =
    let ds = declarations_read d in
    let first = map_declared type_placeless common_again type_reread RereadableCommonEntry (λ e good. type_declared e.1.content good.2) d.common_types (given commons ds) (given_commons d is.0.1) is.0.0 is.0.1 in
    let second = map_declared entity_placeless entity_again entity_reread RereadableEntityEntry (λ e good. entity_declared e.0 e.1.content good.1) d.entity_types (given entities ds) (given_entities d is.1.1) is.1.0 is.1.1 in
    let third = map_declared action_placeless action_again action_reread RereadableActionEntry (λ e good. action_declared e.0 e.1.content good) d.actions (given actions ds) (given_actions d) is.2.0 is.2.1 in
    λ i. record { common_types = first i; entity_types = second i; actions = third i; annotations = noted i }

-- ---- names

distinct_from : {A : Type 0} (names : Names) (es : ByName A) → names ≡ map named es → IsSortedMap word_cmp es → AreDistinct names
distinct_from names es are sorted = ap (λ (ns : Names). are_distinct (words_of ns)) are ∙ ap are_distinct (words_named es) ∙ sorted_distinct (keys_of es) sorted

pub entities_distinct : (d : Definition) → RereadableDefinition d → AreDistinct (names_in entity_names (declarations_read d))
entities_distinct d is = distinct_from (names_in entity_names (declarations_read d)) d.entity_types (entity_names_are d) is.1.0

pub actions_distinct : (d : Definition) → RereadableDefinition d → AreDistinct (names_in action_names (declarations_read d))
actions_distinct d is = distinct_from (names_in action_names (declarations_read d)) d.actions (action_names_are d) is.2.0

pub commons_distinct : (d : Definition) → RereadableDefinition d → AreDistinct (names_in common_names (declarations_read d))
commons_distinct d is = distinct_from (names_in common_names (declarations_read d)) d.common_types (common_names_are d) is.0.0

names_free : {A : Type 0} (P : Text × Declared A → Type 0) (test : Text → Bool) (names : Names) (es : ByName A) → names ≡ map named es
    → ((e : Text × Declared A) → P e → test e.0 ≡ false) → AllByRecursion P es
    → AllByRecursion {X = Node Text} (λ n. test n.node ≡ false) names
names_free P test names es are each all = subst (λ (ns : Names). AllByRecursion {X = Node Text} (λ n. test n.node ≡ false) ns) (sym are) (all_map P (λ (n : Node Text). test n.node ≡ false) named each es all)

-- ---- what holds of each declaration

each_declaration : (P : Noted → Type 0) → ((e : Text × Declared TypeAt) → RereadableCommonEntry e → P (common_entry_read e))
    → ((e : Text × Declared EntityContent) → RereadableEntityEntry e → P (entity_entry_read e))
    → ((e : Text × Declared ActionContent) → RereadableActionEntry e → P (action_entry_read e)) → (d : Definition) → RereadableDefinition d → AllByRecursion P (declarations_read d)
each_declaration P common entity action d is =
    all_append P (map common_entry_read d.common_types) (map entity_entry_read d.entity_types ++ map action_entry_read d.actions)
    (all_map RereadableCommonEntry P common_entry_read common d.common_types is.0.1)
    (all_append P (map entity_entry_read d.entity_types) (map action_entry_read d.actions)
    (all_map RereadableEntityEntry P entity_entry_read entity d.entity_types is.1.1)
    (all_map RereadableActionEntry P action_entry_read action d.actions is.2.1))

abbrev DeclApplies : Noted → Type 0
DeclApplies d = AllByRecursion Applies (clauses_in d.item.node)

abbrev DeclDistinct : Noted → Type 0
DeclDistinct d = Distinct (types_of_decl d.item.node)

-- the declarations are sound
pub definition_sound : (d : Definition) → RereadableDefinition d → AreSound (declarations_read d)
definition_sound d is =
    let ds = declarations_read d in
    record {
      entities_free = names_free RereadableEntityEntry is_cedar (names_in entity_names ds) d.entity_types (entity_names_are d) (λ e good. good.0) is.1.1;
      commons_free = names_free RereadableCommonEntry is_cedar (names_in common_names ds) d.common_types (common_names_are d) (λ e good. good.0) is.0.1;
      no_keyword = names_free RereadableCommonEntry is_reserved_basename (names_in common_names ds) d.common_types (common_names_are d) (λ e good. good.1) is.0.1;
      applies = all_flat DeclApplies Applies (λ d. clauses_in d.item.node) (λ d all. all) ds
          (each_declaration DeclApplies (λ e good. tt) (λ e good. tt) (λ e good. action_applies e.0 e.1.content good) d is);
      no_repeat = all_flat DeclDistinct (λ t. HasNoRepeat t.node) (λ d. types_of_decl d.item.node) (λ d all. all) ds
          (each_declaration DeclDistinct (λ e good. (type_distinct e.1.content good.2, tt)) (λ e good. entity_distinct e.0 e.1.content good.1) (λ e good. action_distinct e.0 e.1.content good) d is);
    }
