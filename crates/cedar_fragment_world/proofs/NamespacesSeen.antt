-- SPDX-License-Identifier: Apache-2.0
-- The definitions that a fragment becomes define the namespaces that it denotes.
use Rattle.std.proofs.Common.{◌≡◌, ℕ, List, [], ◌∷◌, map, Option, None, option_map, refl, sym, ap, ◌∙◌}
use Rattle.cedar_names.specs.Components.{components}
use Rattle.cedar_names.specs.Identifiers.{id_of}
use Rattle.cedar_names.specs.Names.{internal_of}
use Rattle.cedar_names.specs.declared.id.UnreservedId.{UnreservedId}
use Rattle.cedar_names.specs.declared.internal_name.InternalName.{InternalName}
use Rattle.cedar_names.specs.declared.name.Name.{Name}
use Rattle.cedar_written.specs.CommonTypeIds.{unreserved_of}
use Rattle.cedar_written.specs.Qualifying.{action_id}
use Rattle.cedar_written.specs.declared.common_type_id.CommonTypeId.{CommonTypeId}
use Rattle.cedar_written.specs.declared.conditional_name.ConditionalName.{ConditionalName}
use Rattle.cedar_written.specs.declared.raw_name.RawName.{RawName}
use Rattle.cedar_fragment.specs.ActionUids.{over_conditional, over_raw}
use Rattle.cedar_fragment.specs.declared.definitions.ActionType.{ActionType}
use Rattle.cedar_fragment.specs.declared.definitions.CommonType.{CommonType}
use Rattle.cedar_fragment.specs.declared.definitions.EntityType.{EntityType}
use Rattle.cedar_fragment.specs.declared.definitions.NamespaceDefinition.{NamespaceDefinition}
use Rattle.cedar_schema_error.specs.FullNames.{FullName, Uid}
use Rattle.cedar_schema_error.specs.NameReferences.{ActionReference, NameReference}
use Rattle.cedar_namespace_definitions.specs.of_definitions.declared.structures.ActionFragment.{ActionFragment}
use Rattle.cedar_namespace_definitions.specs.of_definitions.declared.structures.EntityTypeFragment.{EntityTypeFragment}
use Rattle.cedar_namespace_definitions.specs.of_definitions.declared.structures.ValidatorNamespaceDef.{ValidatorNamespaceDef}
use Rattle.cedar_namespace_definitions.specs.Definitions as defined
use Rattle.cedar_namespace_definitions.specs.Definitions.{AreDefinitionsOf, IsDefinitionOf}
use Rattle.cedar_namespace_definitions.specs.NamesIn.{ActionKey, action_key, entity_key}
use Rattle.cedar_world.specs.Definitions.{ActionDefinition, EntityDefinition}
use Rattle.cedar_world.specs.DefinitionViews as views
use Rattle.cedar_world.specs.DefinitionViews.{common_type_in, kind_in, namespace_in}
use Rattle.cedar_convert_fragment.specs.Views.{action_seen, common_seen, common_word, definition_seen, entity_seen, namespaces_seen}
use Rattle.cedar_names.specs.Identifiers.{unreserved_word}
use Rattle.cedar_fragment_world.specs.FragmentWorlds.{action_at, common_at, entity_at, namespace_of, namespaces_of}
use Rattle.cedar_fragment_world.proofs.ActionsSeen.{action_alike}
use Rattle.cedar_fragment_world.proofs.EntitiesSeen.{entity_alike}
use Rattle.cedar_fragment_world.proofs.Lists.{seen_both, seen_twice}
use Rattle.cedar_fragment_world.proofs.NamesSeen.{named, words_of, words_seen}
use Rattle.cedar_fragment_world.proofs.TypesSeen.{type_alike}

-- an entity type that is told by its name
abbrev entity_told : InternalName × EntityTypeFragment ConditionalName → FullName × EntityDefinition NameReference
entity_told e = (components e.0, kind_in e.1)

-- an action that is told by its key
abbrev action_told : ActionKey × ActionFragment ConditionalName ConditionalName over_conditional → Uid × ActionDefinition NameReference ActionReference
action_told a = (record { ty = components a.0.ty; id = a.0.id }, views.action_of a.1)

module _ (ns : Option InternalName) where
  common_is : (c : CommonTypeId × CommonType RawName) → common_type_in (defined.common_in ns c) ≡ common_at (words_of ns) (common_word c.0, common_seen c.1)
  common_is c = λ i. (named ns (id_of (unreserved_of c.0)) c.1.loc i, type_alike ns c.1.ty i)

  entity_is : (e : UnreservedId × EntityType RawName) → entity_told (defined.entity_in ns e) ≡ entity_at (words_of ns) (unreserved_word e.0, entity_seen e.1)
  entity_is e = λ i. (named ns (id_of e.0) e.1.loc i, entity_alike ns e.1 i)

  action_is : (a : List ℕ × ActionType RawName over_raw) → action_told (defined.action_in ns a) ≡ action_at (words_of ns) (a.0, action_seen a.1)
  action_is a = λ i. (record { ty = named ns action_id None i; id = a.0 }, action_alike ns a.1 i)

  -- the definition of a namespace
  namespace_is : (n : NamespaceDefinition RawName over_raw) (d : ValidatorNamespaceDef ConditionalName ConditionalName over_conditional) → IsDefinitionOf ns n d → namespace_in d ≡ namespace_of (words_of ns, definition_seen n)
  namespace_is n d is =
      let commons = ap (map common_type_in) is.common_types_are
      ∙ seen_both common_type_in (defined.common_in ns) (common_at (words_of ns)) (λ c. (common_word c.0, common_seen c.1)) common_is n.common_types in
      let entities = sym (seen_twice entity_told (λ e. (entity_key e.0, e.1)) views.entity_type_in (λ e. refl) d.entity_types.defs)
      ∙ ap (map entity_told) is.entity_types_are.types_are
      ∙ seen_both entity_told (defined.entity_in ns) (entity_at (words_of ns)) (λ e. (unreserved_word e.0, entity_seen e.1)) entity_is n.entity_types in
      let actions = sym (seen_twice action_told (λ a. (action_key a.0, a.1)) views.action_in (λ a. refl) d.actions.actions)
      ∙ ap (map action_told) is.actions_are
      ∙ seen_both action_told (defined.action_in ns) (action_at (words_of ns)) (λ a. (a.0, action_seen a.1)) action_is n.actions in
      λ i. record { common_types = commons i; entity_types = entities i; actions = actions i }

-- those of all namespaces
pub namespaces_are : (ns : List (Option Name × NamespaceDefinition RawName over_raw)) (ds : List (ValidatorNamespaceDef ConditionalName ConditionalName over_conditional)) → AreDefinitionsOf ns ds → map namespace_in ds ≡ namespaces_of (namespaces_seen ns)
namespaces_are [] [] are = refl
namespaces_are [] (d ∷ ds) are = elim are [ ]
namespaces_are (n ∷ ns) [] are = elim are [ ]
namespaces_are (n ∷ ns) (d ∷ ds) are =
    let first = namespace_is (option_map internal_of n.0) n.1 d are.0 ∙ ap (λ name. namespace_of (name, definition_seen n.1)) (words_seen n.0) in
    λ i. first i ∷ namespaces_are ns ds are.1 i
