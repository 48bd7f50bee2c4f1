-- SPDX-License-Identifier: Apache-2.0
-- The faults of a fragment are those of what it declares.
use Rattle.std.proofs.Common.{◌≡◌, ◌++◌, ℕ, List, Option, Some, None, option_map, is_some, codes, refl, ap, ◌∙◌}
use Rattle.std.specs.Str.{bytes_eq}
use Rattle.cedar_names.specs.Components.{components}
use Rattle.cedar_names.specs.Identifiers.{id_of, unreserved_word}
use Rattle.cedar_names.specs.Names.{internal_of}
use Rattle.cedar_names.specs.declared.id.UnreservedId.{UnreservedId}
use Rattle.cedar_names.specs.declared.internal_name.InternalName.{InternalName}
use Rattle.cedar_names.specs.declared.name.Name.{Name}
use Rattle.cedar_written.specs.Qualifying.{action_id}
use Rattle.cedar_written.specs.declared.raw_name.RawName.{RawName}
use Rattle.cedar_fragment.specs.ActionUids.{over_raw}
use Rattle.cedar_fragment.specs.declared.definitions.ActionType.{ActionType}
use Rattle.cedar_fragment.specs.declared.definitions.EntityType.{EntityType}
use Rattle.cedar_fragment.specs.declared.definitions.NamespaceDefinition.{NamespaceDefinition}
use Rattle.cedar_schema_error.specs.FullNames.{FullName}
use Rattle.cedar_schema_error.specs.Refusals.{ActionEntityTypeDeclared}
use Rattle.cedar_schema_error.specs.declared.action_behavior.ActionBehavior.{ActionBehavior}
use Rattle.cedar_namespace_definitions.specs.Faults as held
use Rattle.cedar_namespace_definitions.specs.Faults.{attribute_faults, prohibited}
use Rattle.cedar_namespace_definitions.specs.NamesIn as held_names
use Rattle.cedar_convert_fragment.specs.Fragments.{ActionContent, Declared, EntityContent}
use Rattle.cedar_convert_fragment.specs.Views.{action_seen, definition_seen, entity_seen, namespace_words, namespaces_seen}
use Rattle.cedar_fragment_world.specs.FragmentFaults.{action_faults, declaration_faults, definition_faults, entity_faults, fragment_faults, reserved_in}
use Rattle.cedar_fragment_world.proofs.Lists.{seen_lists, seen_passing}
use Rattle.cedar_fragment_world.proofs.NamesSeen.{named, words_of, words_seen}

-- an entity type and an action by their words, as the fragment has them
abbrev entity_entry : UnreservedId × EntityType RawName → List ℕ × Declared EntityContent
entity_entry e = (unreserved_word e.0, entity_seen e.1)

abbrev action_entry : List ℕ × ActionType RawName over_raw → List ℕ × Declared ActionContent
action_entry a = (a.0, action_seen a.1)

declarations_alike : (behavior : ActionBehavior) (d : NamespaceDefinition RawName over_raw) → held.declaration_faults behavior d ≡ declaration_faults behavior (definition_seen d)
declarations_alike behavior d =
    let types = seen_passing (λ e. ActionEntityTypeDeclared) (λ e. ActionEntityTypeDeclared) (λ e. bytes_eq e.0 (codes "Action")) entity_entry (λ e. refl) d.entity_types in
    let actions = seen_passing (λ a. a.0) (λ a. a.0) (λ (a : List ℕ × Declared ActionContent). is_some a.1.content.attributes) action_entry (λ a. refl) d.actions in
    λ i. types i ++ prohibited behavior (actions i)

module _ (ns : Option InternalName) where
  reserved_alike : (name : FullName) → held_names.reserved_in ns name ≡ reserved_in (words_of ns) name
  reserved_alike name = by ns
    where
      by : (ns : Option InternalName) → held_names.reserved_in ns name ≡ reserved_in (words_of ns) name
      by None = refl
      by (Some ns) = refl

  action_alike : (a : List ℕ × ActionType RawName over_raw) → held.action_faults ns a ≡ action_faults (words_of ns) (action_entry a)
  unfolding held.action_faults
  action_alike a =
      ap (λ faults. faults ++ attribute_faults (held.action_uid_in ns a.0) a.1.attributes) (reserved_alike (components (held_names.action_type_in ns)))
      ∙ ap (λ ty. reserved_in (words_of ns) ty ++ attribute_faults (record { ty = ty; id = a.0 }) a.1.attributes) (named ns action_id None)

  entity_alike : (e : UnreservedId × EntityType RawName) → held.entity_faults ns e ≡ entity_faults (words_of ns) (entity_entry e)
  unfolding held.entity_faults
  entity_alike e = reserved_alike (components (held_names.name_at ns e.0 e.1.loc)) ∙ ap (reserved_in (words_of ns)) (named ns (id_of e.0) e.1.loc)

  definition_alike : (behavior : ActionBehavior) (d : NamespaceDefinition RawName over_raw) → held.definition_faults behavior ns d ≡ definition_faults behavior (words_of ns, definition_seen d)
  definition_alike behavior d =
      let actions = seen_lists (held.action_faults ns) (action_faults (words_of ns)) action_entry action_alike d.actions in
      let entities = seen_lists (held.entity_faults ns) (entity_faults (words_of ns)) entity_entry entity_alike d.entity_types in
      λ i. declarations_alike behavior d i ++ (actions i ++ entities i)

-- all faults of a fragment
pub faults_alike : (behavior : ActionBehavior) (ns : List (Option Name × NamespaceDefinition RawName over_raw)) → held.fragment_faults behavior (record { 0 = ns }) ≡ fragment_faults behavior (namespaces_seen ns)
faults_alike behavior ns =
    seen_lists (λ n. held.definition_faults behavior (option_map internal_of n.0) n.1) (definition_faults behavior) (λ n. (namespace_words n.0, definition_seen n.1))
    (λ n. definition_alike (option_map internal_of n.0) behavior n.1 ∙ ap (λ name. definition_faults behavior (name, definition_seen n.1)) (words_seen n.0)) ns
