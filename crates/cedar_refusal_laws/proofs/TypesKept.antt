-- SPDX-License-Identifier: Apache-2.0
-- What holds of each type that namespaces define, and of the builtin types and their aliases, holds of the types in the tables of their world.
use Rattle.std.proofs.Common.{◌++◌, List, map}
use Rattle.std.specs.List.{flat_map}
use Rattle.cedar_data.specs.Firsts.{AllPass}
use Rattle.cedar_names.specs.Order.{words_cmp}
use Rattle.cedar_sound.proofs.NothingMissed.{pass_append, pass_flat, pass_map, pass_map_of, pass_weaker}
use Rattle.cedar_schema_error.specs.FullNames.{uid_cmp}
use Rattle.cedar_schema_error.specs.NameReferences.{ActionReference, NameReference}
use Rattle.cedar_schema_error.specs.Refusals.{Context, Shape, Tags, UsePlace}
use Rattle.cedar_world.specs.of_unfold.Written.{Written}
use Rattle.cedar_world.specs.Definitions.{ActionDefinition, EntityDefinition, Namespace, shape_of, tags_of}
use Rattle.cedar_world.specs.Worlds.{World, actions, aliases, all_namespaces, builtins, common_types, entity_types, own, uses}

module _ (P : Written NameReference → Type 0) where
  -- so it is with the types of an entity type
  abbrev pub EntityHas : EntityDefinition NameReference → Type 0
  EntityHas e = AllPass P (shape_of e) × AllPass P (tags_of e)

  -- and with all types that a namespace defines
  pub record NamespaceHas (ns : Namespace) : Type 0 where
    pub of_common_types : AllPass (λ c. P c.1) ns.common_types
    pub of_entity_types : AllPass (λ e. EntityHas e.1) ns.entity_types
    pub of_actions : AllPass (λ a. P a.1.context) ns.actions

  module _ (W : World) (each : AllPass NamespaceHas W.namespaces) (builtin : AllPass (λ c. P c.1) (builtins W.extensions)) (alias : AllPass (λ c. P c.1) (aliases (own W) W.extensions)) where
    namespaces_have : AllPass NamespaceHas (all_namespaces W)
    namespaces_have = pass_append NamespaceHas W.namespaces _ each (
      record { of_common_types = pass_map_of words_cmp P (builtins W.extensions) builtin; of_entity_types = tt; of_actions = tt },
      (record { of_common_types = pass_map_of words_cmp P (aliases (own W) W.extensions) alias; of_entity_types = tt; of_actions = tt }, tt),
    )

    -- its common types
    pub commons_have : AllPass (λ c. P c.1) (common_types W)
    commons_have = pass_map_of words_cmp P (flat_map (λ ns. ns.common_types) (all_namespaces W)) (pass_flat (λ c. P c.1) (λ ns. ns.common_types) (all_namespaces W)
        (pass_weaker NamespaceHas (λ ns. AllPass (λ c. P c.1) ns.common_types) (λ ns h. h.of_common_types) (all_namespaces W) namespaces_have))

    entities_have : AllPass (λ e. EntityHas e.1) (entity_types W)
    entities_have = pass_map_of words_cmp EntityHas (flat_map (λ ns. ns.entity_types) (all_namespaces W)) (pass_flat (λ e. EntityHas e.1) (λ ns. ns.entity_types) (all_namespaces W)
        (pass_weaker NamespaceHas (λ ns. AllPass (λ e. EntityHas e.1) ns.entity_types) (λ ns h. h.of_entity_types) (all_namespaces W) namespaces_have))

    contexts_have : AllPass (λ a. P a.1.context) (actions W)
    contexts_have = pass_map_of uid_cmp (λ (a : ActionDefinition NameReference ActionReference). P a.context) (flat_map (λ ns. ns.actions) (all_namespaces W)) (pass_flat (λ a. P a.1.context) (λ ns. ns.actions) (all_namespaces W)
        (pass_weaker NamespaceHas (λ ns. AllPass (λ a. P a.1.context) ns.actions) (λ ns h. h.of_actions) (all_namespaces W) namespaces_have))

    -- its uses of types
    pub uses_have : AllPass (λ u. P u.1) (uses W)
    uses_have = pass_append (λ u. P u.1) (shapes ++ tags) contexts
        (pass_append (λ u. P u.1) shapes tags
        (pass_flat (λ u. P u.1) (λ e. map (λ t. (Shape e.0, t)) (shape_of e.1)) (entity_types W)
        (pass_weaker (λ e. EntityHas e.1) (λ e. AllPass (λ u. P u.1) (map (λ t. (Shape e.0, t)) (shape_of e.1))) (λ e h. pass_map (λ u. P u.1) (λ t. (Shape e.0, t)) (shape_of e.1) h.0) (entity_types W) entities_have))
        (pass_flat (λ u. P u.1) (λ e. map (λ t. (Tags e.0, t)) (tags_of e.1)) (entity_types W)
        (pass_weaker (λ e. EntityHas e.1) (λ e. AllPass (λ u. P u.1) (map (λ t. (Tags e.0, t)) (tags_of e.1))) (λ e h. pass_map (λ u. P u.1) (λ t. (Tags e.0, t)) (tags_of e.1) h.1) (entity_types W) entities_have)))
        (pass_map (λ u. P u.1) (λ a. (Context a.0, a.1.context)) (actions W) contexts_have)
      where
        shapes : List (UsePlace × Written NameReference)
        shapes = flat_map (λ e. map (λ t. (Shape e.0, t)) (shape_of e.1)) (entity_types W)

        tags : List (UsePlace × Written NameReference)
        tags = flat_map (λ e. map (λ t. (Tags e.0, t)) (tags_of e.1)) (entity_types W)

        contexts : List (UsePlace × Written NameReference)
        contexts = map (λ a. (Context a.0, a.1.context)) (actions W)
