-- SPDX-License-Identifier: Apache-2.0
-- Actions with how many environments stand before their own, and types with how many stand before them, as code holds them.
use Rattle.std.specs.Prelude.{◌≡◌, ℕ, ◌+◌, List, [], ◌∷◌, length, map}
use Rattle.std.specs.List.{All}
use Rattle.std.specs.Option.{unwrap_or}
use Rattle.cedar_data.specs.Maps.{get}
use Rattle.cedar_names.specs.Names.{entity_cmp, entity_words}
use Rattle.cedar_names.specs.declared.entity_uid.EntityUID.{EntityUID}
use Rattle.cedar_names.specs.declared.name.EntityType.{EntityType}
use Rattle.cedar_conform.specs.of_checks.SchemaViews.{action_of}
use Rattle.cedar_resolved.specs.Schemas.{action_principals, action_resources, action_types}
use Rattle.cedar_resolved.specs.declared.action.ValidatorActionId.{ValidatorActionId}
use Rattle.cedar_resolved.specs.declared.schema.ValidatorSchema.{ValidatorSchema}
use Rattle.cedar_request.specs.Numbers.{place_among, size_of}
use Rattle.cedar_request.specs.Requests.{in_64_bits}
use Rattle.cedar_request.specs.declared.environments.Counted.{Counted}

-- ---- types

-- what the map has at a type is how many of the types stand before it; where it has nothing there, all of them do
abbrev pub ArePlaces : List EntityType → List (EntityType × ℕ) → Type 0
ArePlaces types places = (ty : EntityType) → unwrap_or (get entity_cmp places ty) (length types) ≡ place_among (map entity_words types) (entity_words ty)

-- the places of an action's principals and of its resources
pub record HasPlaces (c : Counted) : Type 0 where
  pub principals : ArePlaces (action_principals c.action.now) c.principals
  pub resources : ArePlaces (action_resources c.action.now) c.resources

-- ---- actions

-- an action under its name, with how many environments stand before its own
abbrev pub counted_in : EntityUID × Counted → EntityUID × (ValidatorActionId × ℕ)
counted_in e = (e.0, (e.1.action.now, e.1.before))

-- each action with how many environments stand before its own, where so many stand before those of all, in 64 bits
abbrev pub counts_from : ℕ → List (EntityUID × ValidatorActionId) → List (EntityUID × (ValidatorActionId × ℕ))
counts_from before [] = []
counts_from before (a ∷ actions) = (a.0, (a.1, before)) ∷ counts_from (in_64_bits (before + in_64_bits (size_of (action_of a.1)))) actions

-- these are the actions of the schema, each with how many environments stand before its own, and with the places of its types
pub record AreCounted (S : ValidatorSchema) (counted : List (EntityUID × Counted)) : Type 0 where
  pub counts : map counted_in counted ≡ counts_from 0 (action_types S)
  pub places : All (λ e. HasPlaces e.1) counted
