-- SPDX-License-Identifier: Apache-2.0
-- Entities made of actions, one after another.
use Rattle.std.proofs.Common.{◌≡◌, cond, List, [], ◌∷◌, ◌++◌, None, map, sym, ap, ◌∙◌, subst, append_assoc}
use Rattle.std.specs.BTreeMap.{is_at}
use Rattle.std.specs.List.Sorted.{IsStrictlySortedBy}
use Rattle.cedar_data.specs.Maps.{get, IsSortedMap}
use Rattle.cedar_names.specs.declared.entity_uid.EntityUID.{EntityUID}
use Rattle.cedar_resolved.proofs.AncestorLemmas.{sorted_passing}
use Rattle.cedar_resolved.proofs.NotedLemmas.{AllNoted, still_noted}
use Rattle.cedar_resolved.specs.Ancestors.{noted_of}
use Rattle.cedar_resolved.specs.Queries.{action_is_above, actions_above, entity_of_action}
use Rattle.cedar_resolved.specs.Schemas.{action_attributes, action_types, uid_cmp}
use Rattle.cedar_resolved.specs.declared.action.ValidatorActionId.{ValidatorActionId}
use Rattle.cedar_resolved.specs.declared.entity.Entity.{Entity}
use Rattle.cedar_resolved.specs.declared.schema.ValidatorSchema.{ValidatorSchema}

-- an action as an entity with these ancestors
abbrev pub entity_with : EntityUID → ValidatorActionId → List EntityUID → Entity
entity_with name action ancestors = record { uid = name; attributes = action_attributes action; ancestors = ancestors }

-- the entities so far, with those of the actions that are left, are all; the ancestors of these are noted
pub record Entities (schema : ValidatorSchema) (left : List (EntityUID × ValidatorActionId)) (noted : List (EntityUID × List EntityUID)) (made : List Entity) : Type 0 where
  pub ascends : IsSortedMap uid_cmp left
  pub ready : AllNoted (action_types schema) noted left
  pub all : made ++ map (entity_of_action schema) left ≡ map (entity_of_action schema) (action_types schema)

module _ (schema : ValidatorSchema) (left rest : List (EntityUID × ValidatorActionId)) (name : EntityUID) (action : ValidatorActionId) (noted : List (EntityUID × List EntityUID)) (made : List Entity) (taken : List EntityUID) (first : left ≡ (name, action) ∷ rest) (so_far : Entities schema left noted made) (is_taken : taken ≡ noted_of noted name) where
  -- what is noted of the next action are its ancestors
  next_ancestors : taken ≡ actions_above name (action_types schema)
  next_ancestors = is_taken ∙ (subst (λ es. AllNoted (action_types schema) noted es) first so_far.ready).0

  -- they ascend
  pub ancestors_ascend : IsSortedMap uid_cmp (action_types schema) → IsStrictlySortedBy uid_cmp taken
  ancestors_ascend sorted =
      subst (λ ks. IsStrictlySortedBy uid_cmp ks) (sym next_ancestors) (sorted_passing uid_cmp (action_is_above name) (action_types schema) sorted)

  -- its entity is made
  pub entity_made : (new : List (EntityUID × List EntityUID)) (entity : Entity) (after : List Entity)
      → ((other : EntityUID) → get uid_cmp new other ≡ cond (is_at (uid_cmp name) other) None (get uid_cmp noted other))
      → entity ≡ entity_with name action taken → after ≡ made ++ entity ∷ [] → Entities schema rest new after
  unfolding IsStrictlySortedBy
  entity_made new entity after out is pushed =
      let ascends : IsSortedMap uid_cmp ((name, action) ∷ rest) = subst (λ es. IsSortedMap uid_cmp es) first so_far.ascends in
      let ready : AllNoted (action_types schema) noted ((name, action) ∷ rest) = subst (λ es. AllNoted (action_types schema) noted es) first so_far.ready in
      record {
        ascends = ascends.1;
        ready = still_noted (action_types schema) rest name noted new ascends.0 out ready.1;
        all =
            ap (λ es. es ++ map (entity_of_action schema) rest) pushed
            ∙ append_assoc made (entity ∷ []) (map (entity_of_action schema) rest)
            ∙ ap (λ e. made ++ e ∷ map (entity_of_action schema) rest) (is ∙ ap (λ ks. entity_with name action ks) next_ancestors)
            ∙ ap (λ es. made ++ map (entity_of_action schema) es) (sym first)
            ∙ so_far.all;
      }
