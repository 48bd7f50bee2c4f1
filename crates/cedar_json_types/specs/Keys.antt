-- SPDX-License-Identifier: Apache-2.0
-- The keys of each kind of object.
use Rattle.std.specs.Prelude.{ℕ, List, [], ◌∷◌, codes}
use Rattle.cedar_json_fault.specs.declared.json_fault.JsonShape.{JsonShape}
use Rattle.cedar_json_fault.specs.declared.json_fault.JsonShape.TheVariants as shape
use Rattle.cedar_json_types.specs.declared.keyed.KeySet.{KeySet}
use Rattle.cedar_json_types.specs.declared.keyed.KeySet.TheVariants as set

abbrev pub namespace_keys : List (List ℕ)
namespace_keys = codes "commonTypes" ∷ codes "entityTypes" ∷ codes "actions" ∷ codes "annotations" ∷ []

abbrev pub entity_keys : List (List ℕ)
entity_keys = codes "memberOfTypes" ∷ codes "shape" ∷ codes "tags" ∷ codes "enum" ∷ codes "annotations" ∷ []

-- those that only an entity type with attributes may have
abbrev pub standard_keys : List (List ℕ)
standard_keys = codes "memberOfTypes" ∷ codes "shape" ∷ codes "tags" ∷ []

abbrev pub action_keys : List (List ℕ)
action_keys = codes "attributes" ∷ codes "appliesTo" ∷ codes "memberOf" ∷ codes "annotations" ∷ []

abbrev pub apply_keys : List (List ℕ)
apply_keys = codes "resourceTypes" ∷ codes "principalTypes" ∷ codes "context" ∷ []

abbrev pub parent_keys : List (List ℕ)
parent_keys = codes "id" ∷ codes "type" ∷ []

-- the keys of a type, with those that its place adds behind them
abbrev pub type_keys : List (List ℕ) → List (List ℕ)
type_keys added = codes "type" ∷ codes "element" ∷ codes "attributes" ∷ codes "additionalAttributes" ∷ codes "name" ∷ added

-- all keys that an object of this kind may have
abbrev pub keys_of : KeySet → List (List ℕ)
keys_of set.Namespace = namespace_keys
keys_of set.EntityType = entity_keys
keys_of set.Action = action_keys
keys_of set.ApplySpec = apply_keys
keys_of set.Parent = parent_keys
keys_of set.Type = type_keys []
keys_of set.CommonType = type_keys (codes "annotations" ∷ [])
keys_of set.Attribute = type_keys (codes "required" ∷ codes "annotations" ∷ [])

-- what is said of another key
abbrev pub shape_of : KeySet → JsonShape
shape_of set.Namespace = shape.Namespace
shape_of set.EntityType = shape.EntityType
shape_of set.Action = shape.Action
shape_of set.ApplySpec = shape.ApplySpec
shape_of set.Parent = shape.Parent
shape_of set.Type = shape.AnyType
shape_of set.CommonType = shape.AnyType
shape_of set.Attribute = shape.AnyType
