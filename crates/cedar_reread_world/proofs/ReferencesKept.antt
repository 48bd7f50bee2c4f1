-- SPDX-License-Identifier: Apache-2.0
-- The world that is read again declares nothing twice, each of its references has a target, and none that it may not have.
use Rattle.std.proofs.Common.{◌≡◌, ◌++◌, List, [], map, sym, ap, ◌∙◌, subst}
use Rattle.std.proofs.lemmas.Grind.{flat_map-append}
use Rattle.std.specs.List.{filter, flat_map}
use Rattle.std.specs.Map.{keys_of}
use Rattle.cedar_data.specs.Firsts.{AllPass, NoneAgain}
use Rattle.cedar_declared.specs.Names.{Names, targets, undefined, undefined_actions}
use Rattle.cedar_duplicates.specs.Duplicates.{Action, CommonType, EntityType, same_declared}
use Rattle.cedar_names.specs.Components.{has_cedar}
use Rattle.cedar_reread_world.specs.Rewritten.{ActionRewritten, EntityRewritten, NamespacesRewritten, SameKey, TypeRewritten}
use Rattle.cedar_reread_world.proofs.DescentsKept.{same_parents}
use Rattle.cedar_reread_world.proofs.NothingMissing.{ApplicationsWhole, ParentsWhole, action_none, applications_whole, contexts_whole, empty_left, empty_right, entities_whole, entity_none, from_each, parents_whole, unfolds_whole}
use Rattle.cedar_reread_world.proofs.Once.{each_action, each_common, each_entity_type}
use Rattle.cedar_reread_world.proofs.SameNames.{all_kept, flat_related, names_same, others, others_same}
use Rattle.cedar_reread_world.proofs.Zipped.{pass_both, pass_zip, zip_keys, zip_same}
use Rattle.cedar_sound.proofs.NothingMissed.{AreWhole, IsWhole, pass_left, pass_weaker}
use Rattle.cedar_sound.specs.References.{ReferencesPass, reference_phases}
use Rattle.cedar_sound.specs.Sound.{all_declared, declared_in}
use Rattle.cedar_unfold.specs.UnfoldPhases.{UnfoldsWithin, UsePasses}
use Rattle.cedar_world.specs.Definitions.{Namespace}
use Rattle.cedar_world.specs.Missing.{action_memberships, entity_memberships, memberships, missing_actions, missing_in, missing_in_action, missing_in_entity, missing_in_namespace, missing_types, parent_types, reserved_targets}
use Rattle.cedar_world.specs.Worlds.{World, all_namespaces, builtin_namespaces, common_types, meanings, names, own, uses}

module _ (W V : World) (same_extensions : V.extensions ≡ W.extensions) (rewrites : NamespacesRewritten W.namespaces V.namespaces) where
  -- the same is declared, in the same order
  declared_same : all_declared (all_namespaces V) ≡ all_declared (all_namespaces W)
  declared_same = all_kept W V same_extensions rewrites declared_in
      (λ a b h. λ i. map CommonType (zip_keys TypeRewritten a.common_types b.common_types h.common_types i)
      ++ (map EntityType (zip_keys EntityRewritten a.entity_types b.entity_types h.entity_types i) ++ map Action (zip_keys ActionRewritten a.actions b.actions h.actions i)))
      (λ a h. λ i. map CommonType (keys_of (h.common_types i)) ++ (map EntityType (keys_of (h.entity_types i)) ++ map Action (keys_of (h.actions i))))

  -- so nothing twice
  pub once_there : NoneAgain same_declared [] (all_declared (all_namespaces W)) → NoneAgain same_declared [] (all_declared (all_namespaces V))
  once_there once = subst (NoneAgain same_declared []) (sym declared_same) once

  abbrev others_there : List Namespace
  others_there = builtin_namespaces (own V) V.extensions

  -- what holds of all that is declared holds of what the caller declares
  callers : {A : Type 0} (P : A → Type 0) (f : Namespace → List A) → AllPass P (flat_map f (all_namespaces V)) → AllPass P (flat_map f V.namespaces)
  callers P f h = pass_left P (flat_map f V.namespaces) (flat_map f others_there) (subst (AllPass P) (flat_map-append f V.namespaces others_there) h)

  module _ (once : NoneAgain same_declared [] (all_declared (all_namespaces V))) (commons : AllPass (λ c. UnfoldsWithin (meanings V) c.1) (common_types V)) (passes : AllPass (UsePasses (meanings V)) (uses V)) where
    abbrev N : Names
    N = names V

    commons_none : AllPass (λ c. missing_in N c.1 ≡ []) (flat_map (λ (ns : Namespace). ns.common_types) V.namespaces)
    commons_none = callers (λ c. missing_in N c.1 ≡ []) (λ ns. ns.common_types)
        (each_common (all_namespaces V) once (λ c. missing_in N c.1 ≡ []) (pass_weaker (λ c. UnfoldsWithin (meanings V) c.1) (λ c. missing_in N c.1 ≡ []) (λ c h. unfolds_whole V c.1 h.0 h.1) (common_types V) commons))

    module _ (none : missing_types N (all_namespaces W) ≡ []) where
      parts : missing_types N W.namespaces ++ missing_types N (others W V same_extensions rewrites) ≡ []
      parts = sym (flat_map-append (missing_in_namespace N) W.namespaces (others W V same_extensions rewrites)) ∙ none

      own_none : missing_types N W.namespaces ≡ []
      own_none = empty_left (missing_types N W.namespaces) (missing_types N (others W V same_extensions rewrites)) parts

      others_none : missing_types N others_there ≡ []
      others_none = ap (missing_types N) (others_same W V same_extensions rewrites) ∙ empty_right (missing_types N W.namespaces) (missing_types N (others W V same_extensions rewrites)) parts

      entities_none : AllPass (λ e. missing_in_entity N e.1 ≡ []) (flat_map (λ (ns : Namespace). ns.entity_types) V.namespaces)
      entities_none = pass_weaker (λ e. ParentsWhole N e.1 × AreWhole N e.1) (λ e. missing_in_entity N e.1 ≡ []) (λ e h. entity_none N e.1 h.0 h.1) (flat_map (λ (ns : Namespace). ns.entity_types) V.namespaces)
          (pass_both (λ e. ParentsWhole N e.1) (λ e. AreWhole N e.1) (flat_map (λ (ns : Namespace). ns.entity_types) V.namespaces)
          (pass_zip (λ e. ParentsWhole N e.1) (λ e. ParentsWhole N e.1) (SameKey EntityRewritten) (λ x y p h. ap (undefined N) (same_parents x.1 y.1 h.value) ∙ p)
          (flat_map (λ (ns : Namespace). ns.entity_types) W.namespaces) (flat_map (λ (ns : Namespace). ns.entity_types) V.namespaces) (parents_whole N W.namespaces own_none)
          (flat_related (SameKey EntityRewritten) (λ ns. ns.entity_types) (λ a b h. h.entity_types) (λ a h. h.entity_types) W.namespaces V.namespaces rewrites))
          (callers (λ e. AreWhole N e.1) (λ ns. ns.entity_types) (each_entity_type (all_namespaces V) once (λ e. AreWhole N e.1) (entities_whole V passes))))

      actions_none : AllPass (λ a. missing_in_action N a.1 ≡ []) (flat_map (λ (ns : Namespace). ns.actions) V.namespaces)
      actions_none = pass_weaker (λ a. ApplicationsWhole N a.1 × IsWhole N a.1.context) (λ a. missing_in_action N a.1 ≡ []) (λ a h. action_none N a.1 h.0 h.1) (flat_map (λ (ns : Namespace). ns.actions) V.namespaces)
          (pass_both (λ a. ApplicationsWhole N a.1) (λ a. IsWhole N a.1.context) (flat_map (λ (ns : Namespace). ns.actions) V.namespaces)
          (pass_zip (λ a. ApplicationsWhole N a.1) (λ a. ApplicationsWhole N a.1) (SameKey ActionRewritten) (λ x y p h. (λ i. undefined N (h.value.principals i) ++ undefined N (h.value.resources i)) ∙ p)
          (flat_map (λ (ns : Namespace). ns.actions) W.namespaces) (flat_map (λ (ns : Namespace). ns.actions) V.namespaces) (applications_whole N W.namespaces own_none)
          (flat_related (SameKey ActionRewritten) (λ ns. ns.actions) (λ a b h. h.actions) (λ a h. h.actions) W.namespaces V.namespaces rewrites))
          (callers (λ a. IsWhole N a.1.context) (λ ns. ns.actions) (each_action (all_namespaces V) once (λ a. IsWhole N a.1.context) (contexts_whole V passes))))

      -- no type is missing
      types_there : missing_types N (all_namespaces V) ≡ []
      types_there = flat_map-append (missing_in_namespace N) V.namespaces others_there ∙ (λ i. from_each N V.namespaces commons_none entities_none actions_none i ++ others_none i)

    -- the same actions are
    actions_same : missing_actions N (all_namespaces V) ≡ missing_actions N (all_namespaces W)
    actions_same = all_kept W V same_extensions rewrites (λ ns. flat_map (λ a. undefined_actions N a.1.parents) ns.actions)
        (λ a b h. zip_same (SameKey ActionRewritten) (λ x. undefined_actions N x.1.parents) (λ y. undefined_actions N y.1.parents) (λ x y k. ap (undefined_actions N) k.value.parents) a.actions b.actions h.actions)
        (λ a h. ap (flat_map (λ a. undefined_actions N a.1.parents)) h.actions)

    -- and the same is meant by parents, principals and resources
    memberships_same : flat_map (memberships N) (all_namespaces V) ≡ flat_map (memberships N) (all_namespaces W)
    memberships_same = all_kept W V same_extensions rewrites (memberships N)
        (λ a b h. λ i. zip_same (SameKey EntityRewritten) (λ x. entity_memberships N x.1) (λ y. entity_memberships N y.1) (λ x y k. ap (targets N) (same_parents x.1 y.1 k.value)) a.entity_types b.entity_types h.entity_types i
        ++ zip_same (SameKey ActionRewritten) (λ x. action_memberships N x.1) (λ y. action_memberships N y.1)
        (λ x y k. λ i. (targets N (k.value.principals i) ++ targets N (k.value.resources i)) ++ parent_types N (k.value.parents i)) a.actions b.actions h.actions i)
        (λ a h. λ i. flat_map (λ e. entity_memberships N e.1) (h.entity_types i) ++ flat_map (λ a. action_memberships N a.1) (h.actions i))

    pub references_there : AllPass (ReferencesPass (names W) (all_namespaces W)) reference_phases → AllPass (ReferencesPass (names V) (all_namespaces V)) reference_phases
    references_there h =
        let same = names_same W V same_extensions rewrites in (
          types_there (ap (λ (N : Names). missing_types N (all_namespaces W)) same ∙ h.0),
          (
            actions_same ∙ ap (λ (N : Names). missing_actions N (all_namespaces W)) same ∙ h.1.0,
            (ap (filter has_cedar) memberships_same ∙ ap (λ (N : Names). reserved_targets N (all_namespaces W)) same ∙ h.1.1.0, tt),
          ),
        )
