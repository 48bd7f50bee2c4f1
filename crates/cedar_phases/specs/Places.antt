-- SPDX-License-Identifier: Apache-2.0
-- Where the entity types and the actions of a schema are declared.
use Rattle.std.specs.Prelude.{◌≡◌, List, Option, None, map}
use Rattle.std.specs.List.{flat_map}
use Rattle.cedar_data.specs.Firsts.{AllPass}
use Rattle.cedar_data.specs.Maps.{get}
use Rattle.cedar_hierarchy.specs.of_outlines.declared.outlines.ActionOutline.{ActionOutline}
use Rattle.cedar_hierarchy.specs.of_outlines.declared.outlines.EntityOutline.{EntityOutline}
use Rattle.cedar_names.specs.Names.{entity_cmp, entity_words}
use Rattle.cedar_names.specs.declared.entity_uid.EntityUID.{EntityUID}
use Rattle.cedar_names.specs.declared.name.EntityType.{EntityType}
use Rattle.cedar_phases.specs.Holding.{Definition}
use Rattle.cedar_resolved.specs.Schemas.{action_loc, action_types, types}
use Rattle.cedar_resolved.specs.declared.schema.ValidatorSchema.{ValidatorSchema}
use Rattle.cedar_schema_error.specs.FullNames.{FullName, Uid, uid_in}
use Rattle.cedar_schema_error.specs.KeptDeclarations.{IsAmong}
use Rattle.cedar_text.specs.declared.location.Loc.{Loc}

-- entity types and actions that are declared, under their full names: the place of each, none where it has none
pub record Places : Type 0 where
  pub entity_types : List (FullName × Option Loc)
  pub actions : List (Uid × Option Loc)

-- those of a definition
abbrev pub entity_places : Definition → List (FullName × Option Loc)
entity_places d = map (λ e. (entity_words e.0, get entity_cmp d.entity_types.locs e.0)) d.entity_types.defs

abbrev pub action_places : Definition → List (Uid × Option Loc)
action_places d = map (λ a. (uid_in a.0, a.1.loc)) d.actions.actions

-- those of definitions
abbrev pub places_in : List Definition → Places
places_in ds = record { entity_types = flat_map entity_places ds; actions = flat_map action_places ds }

-- those of outlines
abbrev pub places_outlined : List (EntityType × EntityOutline) → List (EntityUID × ActionOutline) → Places
places_outlined types acts = record {
  entity_types = map (λ e. (entity_words e.0, e.1.loc)) types;
  actions = map (λ a. (uid_in a.0, a.1.loc)) acts;
}

-- each entity type and each action of a schema has the place of a declaration of its name
pub record IsPlaced (places : Places) (S : ValidatorSchema) : Type 0 where
  pub entity_types : AllPass (λ e. IsAmong places.entity_types (entity_words e.0, e.1.loc)) (types S)
  pub actions : AllPass (λ a. IsAmong places.actions (uid_in a.0, action_loc a.1)) (action_types S)

-- no entity type and no action of a schema has a place
pub record IsUnplaced (S : ValidatorSchema) : Type 0 where
  pub entity_types : AllPass (λ e. e.1.loc ≡ None) (types S)
  pub actions : AllPass (λ a. action_loc a.1 ≡ None) (action_types S)
