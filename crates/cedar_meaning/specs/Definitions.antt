-- SPDX-License-Identifier: Apache-2.0
-- Definitions of namespaces, places aside, over references to types and to actions that are anything.
use Rattle.std.specs.Prelude.{ℕ, List, [], ◌∷◌, Option, Some, None}
use Rattle.cedar_unfolding.specs.of_schema_error.FullNames.{FullName, Uid}
use Rattle.cedar_unfolding.specs.of_schema_error.NameReferences.{ActionReference, NameReference}
use Rattle.cedar_types.specs.declared.ty.Attributes.{Attributes}
use Rattle.cedar_types.specs.declared.value.ValueMap.{ValueMap}
use Rattle.cedar_unfolding.specs.Written.{Written}

-- an entity type: its parents, its shape and its tags; or the ids of its entities
pub data EntityDefinition (N : Type 0) : Type 0 where
  Standard : List N → Written N → Option (Written N) → EntityDefinition N
  Enumerated : List (List ℕ) → EntityDefinition N

-- an action: its parents, what it applies to, and its attributes with their types
pub record ActionDefinition (N A : Type 0) : Type 0 where
  pub parents : List A
  pub principals : List N
  pub resources : List N
  pub context : Written N
  pub attribute_types : Attributes
  pub attributes : ValueMap

-- what a namespace defines, by full names and in their order
pub record Definitions (N A : Type 0) : Type 0 where
  pub common_types : List (FullName × Written N)
  pub entity_types : List (FullName × EntityDefinition N)
  pub actions : List (Uid × ActionDefinition N A)

-- definitions whose references carry the names that they may stand for
abbrev pub Namespace : Type 0
Namespace = Definitions NameReference ActionReference

-- definitions of common types alone
abbrev pub of_common_types : {N A : Type 0} → List (FullName × Written N) → Definitions N A
of_common_types types = record { common_types = types; entity_types = []; actions = [] }

-- the parents of an entity type
abbrev pub parents_of : {N : Type 0} → EntityDefinition N → List N
parents_of (Standard parents shape tags) = parents
parents_of (Enumerated ids) = []

-- the shape of an entity type, where it has one
abbrev pub shape_of : {N : Type 0} → EntityDefinition N → List (Written N)
shape_of (Standard parents shape tags) = shape ∷ []
shape_of (Enumerated ids) = []

-- the type of its tags, where it has some
abbrev pub tags_of : {N : Type 0} → EntityDefinition N → List (Written N)
tags_of (Standard parents shape (Some tags)) = tags ∷ []
tags_of (Standard parents shape None) = []
tags_of (Enumerated ids) = []
