-- SPDX-License-Identifier: Apache-2.0
-- Schemas, places aside.
use Rattle.std.specs.Prelude.{ℕ, Bool, List, Option}
use Rattle.cedar_unfolding.specs.of_schema_error.FullNames.{FullName, Uid}
use Rattle.cedar_types.specs.declared.ty.Attributes.{Attributes}
use Rattle.cedar_types.specs.declared.value.ValueMap.{ValueMap}
use Rattle.cedar_unfolding.specs.Resolved.{Resolved, ResolvedAttributes}

-- what an entity type of a schema is: its attributes, whether its entities may have others, and its tags; or the ids of its entities
pub data EntityKind : Type 0 where
  StandardKind : ResolvedAttributes → Bool → Option Resolved → EntityKind
  EnumeratedKind : List (List ℕ) → EntityKind

-- an entity type of a schema
pub record SchemaEntity : Type 0 where
  pub descendants : List FullName
  pub kind : EntityKind

-- an action of a schema
pub record SchemaAction : Type 0 where
  pub principals : List FullName
  pub resources : List FullName
  pub context : Resolved
  pub attribute_types : Attributes
  pub attributes : ValueMap
  pub descendants : List Uid

-- a schema: entity types and actions in the order of their names
pub record Schema : Type 0 where
  pub entity_types : List (FullName × SchemaEntity)
  pub actions : List (Uid × SchemaAction)
