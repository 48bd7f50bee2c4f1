-- SPDX-License-Identifier: Apache-2.0
-- The first misfit of an entity, and of a list of entities.
use Rattle.std.specs.Prelude.{ℕ, ◌+◌, Bool, if◌then◌else◌, List, [], ◌∷◌, codes, decimal, Option, Some, None}
use Rattle.std.specs.BTreeMap.{is_at}
use Rattle.std.specs.List.{list_any}
use Rattle.std.specs.declared.result.Result.TheVariants.{Ok}
use Rattle.serde_json.specs.Data.{Data, Items, no_items, item, Members, no_members, member}
use Rattle.cedar_checks.specs.of_world.Schemas.{EntityKind, EnumeratedKind, Schema, SchemaEntity, StandardKind}
use Rattle.cedar_unfold.specs.Resolved.{Resolved, Record}
use Rattle.cedar_schema_error.specs.FullNames.{FullName, Uid, uid_cmp}
use Rattle.cedar_written.specs.Answers.{and_then}
use Rattle.cedar_conform_fault.specs.Flaws.{tags_not_allowed, no_ancestor, enumerated_has_data, repeated}
use Rattle.cedar_conform.specs.Checks.{Check, here, under, in_object, in_array, keys_check, needs, allows, each_item, each_value}
use Rattle.cedar_conform.specs.Entities.{entity_keys}
use Rattle.cedar_checks.specs.Lookups.{is_above}
use Rattle.cedar_conform.specs.ValueChecks.{known_check, reference_check, value_check}

-- ---- entities of types that list them

-- no members may be there
abbrev pub no_members_check : Members → Check (Unit {0})
no_members_check no_members = Ok tt
no_members_check (member k d ms) = here enumerated_has_data

-- no items may be there
abbrev pub no_items_check : Items → Check (Unit {0})
no_items_check no_items = Ok tt
no_items_check (item d ds) = here enumerated_has_data

-- ---- tags

abbrev pub no_tags_check : Members → Check (Unit {0})
no_tags_check no_members = Ok tt
no_tags_check (member k d ms) = here tags_not_allowed

-- ---- entities

-- an entity that the schema has to know
abbrev pub known_reference_check : Schema → Data → Check Uid
known_reference_check S d = and_then (reference_check d) (λ u. and_then (known_check S u) (λ ty. Ok u))

-- an entity of a type that lists them has nothing
abbrev pub nothing_check : Data → Check (Unit {0})
nothing_check d =
    and_then (needs (codes "attrs") (in_object no_members_check) d)
    (λ _. and_then (needs (codes "parents") (in_array no_items_check) d)
    (λ _. allows (codes "tags") (in_object no_members_check) d))

-- the type of a parent has to be above that of the entity
abbrev pub above_check : FullName → FullName → SchemaEntity → Check (Unit {0})
above_check parent name above = if is_above above name then Ok tt else here (no_ancestor parent name)

module _ (S : Schema) where
  -- the tags, by their type, if there may be any
  abbrev pub tags_check : Option Resolved → Data → Check (Unit {0})
  tags_check None d = in_object no_tags_check d
  tags_check (Some tags) d = in_object (each_value (value_check S tags)) d

  -- a parent of an entity of the type of this name
  abbrev pub parent_check : FullName → Data → Check (Unit {0})
  parent_check name d = and_then (reference_check d) (λ u. and_then (known_check S u) (above_check u.ty name))

  -- what an entity of this type and this kind has
  abbrev pub data_check : FullName → EntityKind → Data → Check (Unit {0})
  data_check name (StandardKind fields is_open tags) d =
      and_then (needs (codes "attrs") (value_check S (Record fields is_open)) d)
      (λ _. and_then (needs (codes "parents") (in_array (each_item (parent_check name) 0)) d)
      (λ _. allows (codes "tags") (tags_check tags) d))
  data_check name (EnumeratedKind ids) d = nothing_check d

  -- the keys, then the entity, then what it has
  unfoldable pub entity_of : Data → Check Uid
  entity_of d =
      and_then (keys_check entity_keys d)
      (λ _. and_then (needs (codes "uid") (known_reference_check S) d)
      (λ u. and_then (known_check S u)
      (λ ty. and_then (data_check u.ty ty.kind d)
      (λ _. Ok u))))

  -- the entities that the items are, in order, from the place of the first of them on
  abbrev pub each_entity : ℕ → Items → Check (List Uid)
  each_entity place no_items = Ok []
  each_entity place (item d ds) = and_then (under (decimal place) (entity_of d)) (λ u. and_then (each_entity (place + 1) ds) (λ us. Ok (u ∷ us)))

-- ---- entities that stand twice

-- whether an entity is one of these
abbrev pub is_among : List Uid → Uid → Bool
is_among us u = list_any (λ v. is_at (uid_cmp v) u) us

abbrev pub repeated_check : Uid → Check (Unit {0})
repeated_check u = here (repeated u.ty u.id)

-- the first entity that is one of those before it, from the place of the first of them on
abbrev pub repeats_check : ℕ → List Uid → List Uid → Check (Unit {0})
repeats_check place before [] = Ok tt
repeats_check place before (u ∷ us) =
    if is_among before u then under (decimal place) (repeated_check u) else repeats_check (place + 1) (u ∷ before) us

-- the first misfit of entities: in one of them, or else of one that stands twice
abbrev pub items_check : Schema → Items → Check (Unit {0})
items_check S ds = and_then (each_entity S 0 ds) (repeats_check 0 [])

unfoldable pub entities_check : Schema → Data → Check (Unit {0})
entities_check S d = in_array (items_check S) d
