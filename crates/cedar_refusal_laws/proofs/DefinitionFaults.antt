-- SPDX-License-Identifier: Apache-2.0
-- A test of refusals that none of the faults of a definition passes, kind by kind.
use Rattle.std.proofs.Common.{◌≡◌, ℕ, Bool, false, List, Option, codes}
use Rattle.std.specs.List.{filter, flat_map}
use Rattle.std.specs.Str.{bytes_eq}
use Rattle.cedar_data.specs.Firsts.{AllPass}
use Rattle.cedar_schema_error.specs.FullNames.{FullName}
use Rattle.cedar_schema_error.specs.Refusals.{ActionEntityTypeDeclared, Refusal}
use Rattle.cedar_schema_error.specs.declared.action_behavior.ActionBehavior.{ActionBehavior}
use Rattle.cedar_fragment_world.specs.of_convert_fragment.Fragments.{ActionContent, ByName, Declared, Definition, EntityContent}
use Rattle.cedar_fragment_world.specs.FragmentFaults.{action_faults, action_types, declaration_faults, definition_faults, each_fault, entity_faults, reserved_in, with_attributes}
use Rattle.cedar_fragment_world.specs.FragmentWorlds.{action_type, action_uid, full_name}
use Rattle.cedar_fragment_world.specs.of_namespace_definitions.Faults.{attribute_faults, prohibited}
use Rattle.cedar_sound.proofs.NothingMissed.{pass_append, pass_flat, pass_map, pass_weaker}
use Rattle.cedar_refusal_laws.proofs.Causes.{Fails}
use Rattle.cedar_refusal_laws.proofs.Members.{pass_each_item}

module _ (test : Refusal → Bool) (behavior : ActionBehavior) (n : Option FullName × Definition) where
  -- what a definition may be refused for fails the test
  pub record SparesDefinition : Type 0 where
    pub of_types : test ActionEntityTypeDeclared ≡ false
    pub of_names : (name : FullName) → AllPass (Fails test) (reserved_in n.0 name)
    pub of_actions : AllPass (Fails test) (prohibited behavior (with_attributes n.1.actions))
    pub of_attributes : AllPass (λ a. AllPass (Fails test) (attribute_faults (action_uid n.0 a.0) a.1.content.attributes)) n.1.actions

  module _ (spares : SparesDefinition) where
    abbrev IsSpared : List ℕ × Declared ActionContent → Type 0
    IsSpared a = AllPass (Fails test) (attribute_faults (action_uid n.0 a.0) a.1.content.attributes)

    abbrev named : ByName EntityContent
    named = filter (λ e. bytes_eq e.0 (codes "Action")) n.1.entity_types

    declarations_fail : AllPass (Fails test) (declaration_faults behavior n.1)
    declarations_fail = pass_append (Fails test) (action_types n.1.entity_types) (prohibited behavior (with_attributes n.1.actions))
        (pass_map (Fails test) (λ e. ActionEntityTypeDeclared) named (pass_each_item (λ e. Fails test ActionEntityTypeDeclared) (λ e. spares.of_types) named)) spares.of_actions

    each_fails : AllPass (Fails test) (each_fault n.0 n.1)
    each_fails = pass_append (Fails test) (flat_map (action_faults n.0) n.1.actions) (flat_map (entity_faults n.0) n.1.entity_types)
        (pass_flat (Fails test) (action_faults n.0) n.1.actions (pass_weaker IsSpared (λ a. AllPass (Fails test) (action_faults n.0 a)) (λ a is.
        pass_append (Fails test) (reserved_in n.0 (action_type n.0)) (attribute_faults (action_uid n.0 a.0) a.1.content.attributes) (spares.of_names (action_type n.0)) is) n.1.actions spares.of_attributes))
        (pass_flat (Fails test) (entity_faults n.0) n.1.entity_types (pass_each_item (λ e. AllPass (Fails test) (entity_faults n.0 e)) (λ e. spares.of_names (full_name n.0 e.0)) n.1.entity_types))

    -- so does each of its faults
    pub definition_fails : AllPass (Fails test) (definition_faults behavior n)
    definition_fails = pass_append (Fails test) (declaration_faults behavior n.1) (each_fault n.0 n.1) declarations_fail each_fails
