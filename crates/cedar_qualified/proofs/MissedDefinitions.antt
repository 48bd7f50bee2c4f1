-- SPDX-License-Identifier: Apache-2.0
-- What definitions miss is what their namespaces miss.
use Rattle.std.proofs.Common.{◌≡◌, ◌++◌, List, [], map, refl, sym, ap, ◌∙◌}
use Rattle.std.proofs.lemmas.List.{map-append}
use Rattle.std.proofs.lemmas.List.Elements.{filter-append}
use Rattle.std.specs.List.{filter, flat_map}
use Rattle.cedar_missing.specs.of_declared.Names.{Names, undefined_actions}
use Rattle.cedar_missing.specs.of_definitions.declared.structures.ValidatorNamespaceDef.{ValidatorNamespaceDef}
use Rattle.cedar_fragment.specs.ActionUids.{over_conditional}
use Rattle.cedar_missing.specs.Undeclared.{Parent, missing_in_common, missing_in_definition, missing_in_each, missing_in_values}
use Rattle.cedar_missing.specs.Undeclared as code
use Rattle.cedar_missing.specs.declared.missing.Missing.{Missing}
use Rattle.cedar_names.specs.Components.{components, has_cedar}
use Rattle.cedar_schema_error.specs.NameReferences.{action_reference_of, reference_of}
use Rattle.cedar_world.specs.DefinitionViews.{action_in, common_type_in, entity_type_in, namespace_in}
use Rattle.cedar_world.specs.Missing.{memberships, missing_actions, missing_in, missing_in_namespace, missing_types, reserved_targets}
use Rattle.cedar_world.specs.Missing as world
use Rattle.cedar_written.specs.declared.conditional_name.ConditionalName.{ConditionalName}
use Rattle.cedar_qualified.specs.Agreeing.{AgreeingNames}
use Rattle.cedar_qualified.proofs.MissedParts.{action_missed, action_parents_missed, action_reserved, entity_missed, entity_reserved, entity_without_actions, type_missed}
use Rattle.cedar_qualified.proofs.Seen.{all_seen, nothing_given, passing_seen}

-- a definition of code
abbrev Definition : Type 0
Definition = ValidatorNamespaceDef ConditionalName ConditionalName over_conditional

module _ (a b : Names) (agree : AgreeingNames a b) where
  module _ (d : Definition) where
    abbrev of_commons : Missing
    of_commons = missing_in_values (missing_in_common a) d.common_types.defs

    abbrev of_entities : Missing
    of_entities = missing_in_values (code.missing_in_entity a) d.entity_types.defs

    abbrev of_actions : Missing
    of_actions = missing_in_values (code.missing_in_action a) d.actions.actions

    commons_missed : map reference_of of_commons.types ≡ flat_map (λ c. missing_in b c.1) (map common_type_in d.common_types.defs)
    commons_missed = all_seen reference_of common_type_in (λ e. (missing_in_common a e.1).types) (λ c. missing_in b c.1) (λ e. type_missed a b agree e.1) d.common_types.defs

    entities_missed : map reference_of of_entities.types ≡ flat_map (λ e. world.missing_in_entity b e.1) (map entity_type_in d.entity_types.defs)
    entities_missed = all_seen reference_of entity_type_in (λ e. (code.missing_in_entity a e.1).types) (λ e. world.missing_in_entity b e.1) (λ e. entity_missed a b agree e.1) d.entity_types.defs

    actions_missed_there : map reference_of of_actions.types ≡ flat_map (λ e. world.missing_in_action b e.1) (map action_in d.actions.actions)
    actions_missed_there = all_seen reference_of action_in (λ e. (code.missing_in_action a e.1).types) (λ e. world.missing_in_action b e.1) (λ e. action_missed a b agree e.1) d.actions.actions

    definition_types : map reference_of (missing_in_definition a d).types ≡ missing_in_namespace b (namespace_in d)
    definition_types =
        map-append reference_of (of_commons.types ++ of_entities.types) of_actions.types
        ∙ ap (λ l. l ++ map reference_of of_actions.types) (map-append reference_of of_commons.types of_entities.types)
        ∙ (λ i. (commons_missed i ++ entities_missed i) ++ actions_missed_there i)

    no_common_actions : of_commons.actions ≡ []
    no_common_actions = nothing_given (λ e. (missing_in_common a e.1).actions) (λ e. refl) d.common_types.defs

    no_entity_actions : of_entities.actions ≡ []
    no_entity_actions = nothing_given (λ e. (code.missing_in_entity a e.1).actions) (λ e. entity_without_actions a b agree e.1) d.entity_types.defs

    definition_actions : map action_reference_of (missing_in_definition a d).actions ≡ flat_map (λ e. undefined_actions b e.1.parents) (namespace_in d).actions
    definition_actions =
        (λ i. map action_reference_of ((no_common_actions i ++ no_entity_actions i) ++ of_actions.actions))
        ∙ all_seen action_reference_of action_in (λ e. (code.missing_in_action a e.1).actions) (λ e. undefined_actions b e.1.parents) (λ e. action_parents_missed a b agree e.1) d.actions.actions

    no_common_reserved : of_commons.reserved ≡ []
    no_common_reserved = nothing_given (λ e. (missing_in_common a e.1).reserved) (λ e. refl) d.common_types.defs

    entities_reserved : map components of_entities.reserved ≡ filter has_cedar (flat_map (λ e. world.entity_memberships b e.1) (map entity_type_in d.entity_types.defs))
    entities_reserved =
        passing_seen components has_cedar entity_type_in (λ e. (code.missing_in_entity a e.1).reserved) (λ e. world.entity_memberships b e.1) (λ e. entity_reserved a b agree e.1) d.entity_types.defs

    actions_reserved : map components of_actions.reserved ≡ filter has_cedar (flat_map (λ e. world.action_memberships b e.1) (map action_in d.actions.actions))
    actions_reserved =
        passing_seen components has_cedar action_in (λ e. (code.missing_in_action a e.1).reserved) (λ e. world.action_memberships b e.1) (λ e. action_reserved a b agree e.1) d.actions.actions

    definition_reserved : map components (missing_in_definition a d).reserved ≡ filter has_cedar (memberships b (namespace_in d))
    definition_reserved =
        (λ i. map components ((no_common_reserved i ++ of_entities.reserved) ++ of_actions.reserved))
        ∙ map-append components of_entities.reserved of_actions.reserved
        ∙ (λ i. entities_reserved i ++ actions_reserved i)
        ∙ sym (filter-append has_cedar (flat_map (λ e. world.entity_memberships b e.1) (namespace_in d).entity_types) (flat_map (λ e. world.action_memberships b e.1) (namespace_in d).actions))

  pub types_missed : (ds : List Definition) → map reference_of (missing_in_each (missing_in_definition a) ds).types ≡ missing_types b (map namespace_in ds)
  types_missed = all_seen reference_of namespace_in (λ d. (missing_in_definition a d).types) (missing_in_namespace b) definition_types

  pub actions_missed : (ds : List Definition) → map action_reference_of (missing_in_each (missing_in_definition a) ds).actions ≡ missing_actions b (map namespace_in ds)
  actions_missed = all_seen action_reference_of namespace_in (λ d. (missing_in_definition a d).actions) (λ ns. flat_map (λ e. undefined_actions b e.1.parents) ns.actions) definition_actions

  pub reserved_meant : (ds : List Definition) → map components (missing_in_each (missing_in_definition a) ds).reserved ≡ reserved_targets b (map namespace_in ds)
  reserved_meant = passing_seen components has_cedar namespace_in (λ d. (missing_in_definition a d).reserved) (memberships b) definition_reserved
