-- SPDX-License-Identifier: Apache-2.0
-- A fragment without its places has the same faults.
use Rattle.std.proofs.Common.{◌≡◌, ℕ, Bool, true, false, List, [], ◌∷◌, ◌++◌, Option, map, option_map, codes, refl, ap, ◌∙◌}
use Rattle.std.specs.Prelude.{is_some, if◌then◌else◌}
use Rattle.std.specs.List.{flat_map}
use Rattle.std.specs.Str.{bytes_eq}
use Rattle.cedar_data.specs.Maps.{map_values}
use Rattle.cedar_names.specs.Identifiers.{unreserved_word}
use Rattle.cedar_names.specs.declared.id.UnreservedId.{UnreservedId}
use Rattle.cedar_names.specs.declared.name.Name.{Name}
use Rattle.cedar_written.specs.declared.raw_name.RawName.{RawName}
use Rattle.cedar_fragment.specs.ActionUids.{over_raw}
use Rattle.cedar_fragment.specs.declared.definitions.ActionType.{ActionType}
use Rattle.cedar_fragment.specs.declared.definitions.EntityType.{EntityType}
use Rattle.cedar_fragment.specs.declared.definitions.Fragment.{Fragment}
use Rattle.cedar_fragment.specs.declared.definitions.NamespaceDefinition.{NamespaceDefinition}
use Rattle.cedar_schema_error.specs.FullNames.{FullName}
use Rattle.cedar_schema_error.specs.Refusals.{ActionEntityTypeDeclared}
use Rattle.cedar_schema_error.specs.declared.action_behavior.ActionBehavior.{ActionBehavior}
use Rattle.cedar_namespace_definitions.specs.Faults.{prohibited}
use Rattle.cedar_convert_fragment.specs.Views.{action_seen, actions_seen, definition_seen, entities_seen, entity_seen, fragment_seen, namespace_words, namespaces_seen}
use Rattle.cedar_fragment_world.specs.FragmentFaults.{action_faults, action_types, definition_faults, entity_faults, fragment_faults, with_attributes}
use Rattle.cedar_json_written_laws.specs.Unplaced.{action_unplaced, entity_unplaced, fragment_unplaced, namespace_unplaced, path_unplaced}
use Rattle.cedar_json_schema_laws.proofs.WorldsUnplaced.{words_alike}

-- entries that a test takes or leaves alike, as what is made of them
taken : {X Y : Type 0} (f : X → Y) (b : Bool) (x z : X) (xs zs : List X) → f x ≡ f z → map f xs ≡ map f zs → map f (if b then x ∷ xs else xs) ≡ map f (if b then z ∷ zs else zs)
taken f true x z xs zs first rest = λ i. first i ∷ rest i
taken f false x z xs zs first rest = rest

-- entity types that are named `Action`
named_alike : (es : List (UnreservedId × EntityType RawName)) → action_types (entities_seen (map_values entity_unplaced es)) ≡ action_types (entities_seen es)
named_alike [] = refl
named_alike (e ∷ es) = taken (λ x. ActionEntityTypeDeclared) (bytes_eq (unreserved_word e.0) (codes "Action")) _ _ _ _ refl (named_alike es)

-- actions with attributes
noted_alike : (es : List (List ℕ × ActionType RawName over_raw)) → with_attributes (actions_seen (map_values action_unplaced es)) ≡ with_attributes (actions_seen es)
noted_alike [] = refl
noted_alike (e ∷ es) = taken (λ x. x.0) (is_some e.1.attributes) _ _ _ _ refl (noted_alike es)

-- each action, each entity type
actions_alike : (ns : Option FullName) (es : List (List ℕ × ActionType RawName over_raw)) → flat_map (action_faults ns) (actions_seen (map_values action_unplaced es)) ≡ flat_map (action_faults ns) (actions_seen es)
actions_alike ns [] = refl
actions_alike ns (e ∷ es) = ap (λ rest. action_faults ns (e.0, action_seen e.1) ++ rest) (actions_alike ns es)

entities_alike : (ns : Option FullName) (es : List (UnreservedId × EntityType RawName)) → flat_map (entity_faults ns) (entities_seen (map_values entity_unplaced es)) ≡ flat_map (entity_faults ns) (entities_seen es)
entities_alike ns [] = refl
entities_alike ns (e ∷ es) = ap (λ rest. entity_faults ns (unreserved_word e.0, entity_seen e.1) ++ rest) (entities_alike ns es)

-- what a namespace of this name declares
definition_alike : (behavior : ActionBehavior) (ns : Option FullName) (n : NamespaceDefinition RawName over_raw)
    → definition_faults behavior (ns, definition_seen (namespace_unplaced n)) ≡ definition_faults behavior (ns, definition_seen n)
definition_alike behavior ns n =
    λ i. (named_alike n.entity_types i ++ prohibited behavior (noted_alike n.actions i)) ++ (actions_alike ns n.actions i ++ entities_alike ns n.entity_types i)

namespaces_alike : (behavior : ActionBehavior) (es : List (Option Name × NamespaceDefinition RawName over_raw))
    → flat_map (definition_faults behavior) (namespaces_seen (map (λ e. (option_map path_unplaced e.0, namespace_unplaced e.1)) es)) ≡ flat_map (definition_faults behavior) (namespaces_seen es)
namespaces_alike behavior [] = refl
namespaces_alike behavior (e ∷ es) =
    λ i. (ap (λ ns. definition_faults behavior (ns, definition_seen (namespace_unplaced e.1))) (words_alike e.0) ∙ definition_alike behavior (namespace_words e.0) e.1) i ++ namespaces_alike behavior es i

pub faults_alike : (behavior : ActionBehavior) (F : Fragment RawName over_raw) → fragment_faults behavior (fragment_seen (fragment_unplaced F)) ≡ fragment_faults behavior (fragment_seen F)
faults_alike behavior F = namespaces_alike behavior F.0
