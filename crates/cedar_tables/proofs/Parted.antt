-- SPDX-License-Identifier: Apache-2.0
-- Loops that part entity types and actions.
use Rattle.std.proofs.Common.{◌≡◌, List, [], ◌∷◌, ◌++◌, map, refl, ◌∙◌}
use Rattle.std.proofs.lemmas.List.Concat.{flat_map_single}
use Rattle.std.specs.List.{flat_map}
use Rattle.std.specs.List.Sorted.{IsStrictlySortedBy}
use Rattle.std.specs.Map.{keys_of}
use Rattle.cedar_data.specs.Maps.{IsSortedMap, map_values}
use Rattle.cedar_data.proofs.Rebuild.{Rebuilds, Rebuilds-end, Rebuilds-next, Rebuilds-sorted, Rebuilds-start}
use Rattle.cedar_declared.specs.Gathering.{action_cmp}
use Rattle.cedar_names.specs.Names.{entity_cmp}
use Rattle.cedar_names.specs.declared.entity_uid.EntityUID.{EntityUID}
use Rattle.cedar_names.specs.declared.name.EntityType.{EntityType}
use Rattle.cedar_tables.specs.Declarations.{Action, PlacedEntity}
use Rattle.cedar_tables.specs.Splits.{Use, action_outline_of, context_use, outline_of, shape_use, tags_use}
use Rattle.cedar_outlines.specs.declared.outlines.ActionOutline.{ActionOutline}
use Rattle.cedar_outlines.specs.declared.outlines.EntityOutline.{EntityOutline}
use Rattle.cedar_outlines.proofs.Appended.{Appends, Appends-end, Appends-next, Appends-start}

-- a loop over entity types that has `left` before it has parted those that it has passed
pub record PartsEntities (whole left : List (EntityType × PlacedEntity)) (outlines : List (EntityType × EntityOutline)) (shapes tags : List Use) : Type 0 where
  pub outlined : Rebuilds outline_of whole left outlines
  pub shaped : Appends shape_use [] whole left shapes
  pub tagged : Appends tags_use [] whole left tags

module _ {whole left : List (EntityType × PlacedEntity)} {outlines : List (EntityType × EntityOutline)} {shapes tags : List Use} where
  -- before the first
  pub PartsEntities-start : left ≡ whole → outlines ≡ [] → shapes ≡ [] → tags ≡ [] → PartsEntities whole left outlines shapes tags
  PartsEntities-start all no_outlines no_shapes no_tags = record {
    outlined = Rebuilds-start outline_of whole left outlines all no_outlines;
    shaped = Appends-start shape_use [] whole left shapes no_shapes all;
    tagged = Appends-start tags_use [] whole left tags no_tags all;
  }

  module _ (sofar : PartsEntities whole left outlines shapes tags) where
    -- one more
    pub PartsEntities-next : {rest : List (EntityType × PlacedEntity)} {more : List (EntityType × EntityOutline)} {more_shapes more_tags : List Use} {name : EntityType} {entity : PlacedEntity}
        → left ≡ (name, entity) ∷ rest → more ≡ outlines ++ (name, outline_of entity) ∷ [] → more_shapes ≡ shapes ++ shape_use (name, entity) → more_tags ≡ tags ++ tags_use (name, entity)
        → PartsEntities whole rest more more_shapes more_tags
    PartsEntities-next first outlined shaped tagged = record {
      outlined = Rebuilds-next sofar.outlined first refl refl outlined;
      shaped = Appends-next sofar.shaped first refl shaped;
      tagged = Appends-next sofar.tagged first refl tagged;
    }

    -- the next name is after those so far
    pub PartsEntities-sorted : {rest : List (EntityType × PlacedEntity)} {name : EntityType} {entity : PlacedEntity} → left ≡ (name, entity) ∷ rest → IsSortedMap entity_cmp whole → IsStrictlySortedBy entity_cmp (keys_of outlines ++ name ∷ [])
    PartsEntities-sorted first sorted = Rebuilds-sorted entity_cmp sofar.outlined first refl sorted

    -- after the last
    pub PartsEntities-outlines : left ≡ [] → outlines ≡ map_values outline_of whole
    PartsEntities-outlines none = Rebuilds-end sofar.outlined none

    pub PartsEntities-shapes : left ≡ [] → shapes ≡ flat_map shape_use whole
    PartsEntities-shapes none = Appends-end sofar.shaped none

    pub PartsEntities-tags : left ≡ [] → tags ≡ flat_map tags_use whole
    PartsEntities-tags none = Appends-end sofar.tagged none

-- the same of a loop over actions
pub record PartsActions (whole left : List (EntityUID × Action)) (outlines : List (EntityUID × ActionOutline)) (contexts : List Use) : Type 0 where
  pub outlined : Rebuilds action_outline_of whole left outlines
  pub used : Appends (λ a. context_use a ∷ []) [] whole left contexts

module _ {whole left : List (EntityUID × Action)} {outlines : List (EntityUID × ActionOutline)} {contexts : List Use} where
  pub PartsActions-start : left ≡ whole → outlines ≡ [] → contexts ≡ [] → PartsActions whole left outlines contexts
  PartsActions-start all no_outlines no_contexts = record {
    outlined = Rebuilds-start action_outline_of whole left outlines all no_outlines;
    used = Appends-start (λ a. context_use a ∷ []) [] whole left contexts no_contexts all;
  }

  module _ (sofar : PartsActions whole left outlines contexts) where
    pub PartsActions-next : {rest : List (EntityUID × Action)} {more : List (EntityUID × ActionOutline)} {more_contexts : List Use} {uid : EntityUID} {action : Action}
        → left ≡ (uid, action) ∷ rest → more ≡ outlines ++ (uid, action_outline_of action) ∷ [] → more_contexts ≡ contexts ++ context_use (uid, action) ∷ []
        → PartsActions whole rest more more_contexts
    PartsActions-next first outlined used = record {
      outlined = Rebuilds-next sofar.outlined first refl refl outlined;
      used = Appends-next sofar.used first refl used;
    }

    pub PartsActions-sorted : {rest : List (EntityUID × Action)} {uid : EntityUID} {action : Action} → left ≡ (uid, action) ∷ rest → IsSortedMap action_cmp whole → IsStrictlySortedBy action_cmp (keys_of outlines ++ uid ∷ [])
    PartsActions-sorted first sorted = Rebuilds-sorted action_cmp sofar.outlined first refl sorted

    pub PartsActions-outlines : left ≡ [] → outlines ≡ map_values action_outline_of whole
    PartsActions-outlines none = Rebuilds-end sofar.outlined none

    pub PartsActions-contexts : left ≡ [] → contexts ≡ map context_use whole
    PartsActions-contexts none = Appends-end sofar.used none ∙ flat_map_single context_use whole

pub ruleset entities = (PartsEntities-start, PartsEntities-next, PartsEntities-sorted, PartsEntities-outlines, PartsEntities-shapes, PartsEntities-tags)

pub ruleset actions = (PartsActions-start, PartsActions-next, PartsActions-sorted, PartsActions-outlines, PartsActions-contexts)
