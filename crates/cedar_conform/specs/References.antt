-- SPDX-License-Identifier: Apache-2.0
-- References to entities in JSON, and what a schema knows of the entities that they name.
use Rattle.std.specs.Prelude.{◌≡◌, ◌⊎◌, ℕ, Bool, true, List, [], ◌∷◌, codes, Some, None}
use Rattle.cedar_names.specs.Components.{loc_of}
use Rattle.cedar_names.specs.EntityUids.{entity_type_of, place_of}
use Rattle.cedar_names.specs.Names.{internal_of, name_of}
use Rattle.cedar_names.specs.declared.entity_uid.EntityUID.{EntityUID}
use Rattle.cedar_names.specs.declared.name.EntityType.{EntityType}
use Rattle.cedar_text.specs.Faults.{no_unreserved_id}
use Rattle.cedar_text.specs.NormalNames.{name_fault, parts}
use Rattle.cedar_text.specs.Words.{has_word}
use Rattle.serde_json.specs.Data.{Data, object, string, no_members, member}
use Rattle.serde_json.specs.Find.{get}
use Rattle.cedar_json_types.specs.Shapes.{Keyed}
use Rattle.cedar_schema_error.specs.FullNames.{FullName, Uid}
use Rattle.cedar_checks.specs.of_world.Schemas.{EntityKind, EnumeratedKind, Schema, SchemaEntity, StandardKind}
use Rattle.cedar_checks.specs.Lookups.{declared_type}

-- ---- references

-- the keys of a reference
abbrev pub reference_keys : List (List ℕ)
reference_keys = codes "type" ∷ codes "id" ∷ []

-- the name of the entity type has no place
abbrev pub IsPlaceless : EntityType → Type 0
IsPlaceless ty = loc_of (internal_of (name_of ty)) ≡ None

-- the value is the text of a name of these components
abbrev pub IsNameOf : FullName → Data → Type 0
IsNameOf name d = (s : List ℕ) × (d ≡ string s) × (name_fault no_unreserved_id s ≡ None) × (parts s ≡ name)

-- the member at the key is there, and is P
abbrev pub At : List ℕ → (Data → Type 0) → Data → Type 0
At k P d = (e : Data) × (get k d ≡ Some e) × P e

-- the value is an object with the type and the id of the entity, and no other keys
abbrev pub IsPlain : Data → Uid → Type 0
IsPlain d u = Keyed reference_keys d × At (codes "type") (IsNameOf u.ty) d × At (codes "id") (λ e. e ≡ string u.id) d

-- the object that has the value at the key `__entity`, and no other keys
abbrev pub escape : Data → Data
escape d = object (member (codes "__entity") d no_members)

-- the value refers to the entity, plainly or as an escape
abbrev pub IsReference : Data → Uid → Type 0
IsReference d u = IsPlain d u ⊎ ((e : Data) × (d ≡ escape e) × IsPlain e u)

-- neither the entity nor its type has a place
abbrev pub IsNowhere : EntityUID → Type 0
IsNowhere uid = (place_of uid ≡ None) × IsPlaceless (entity_type_of uid)

-- ---- what a schema knows

-- whether an entity type of this kind may have an entity of the id
abbrev pub may_have : EntityKind → List ℕ → Bool
may_have (StandardKind fields is_open tags) id = true
may_have (EnumeratedKind ids) id = has_word ids id

-- this is the entity's type in the schema, and where it lists its entities, it lists this one
abbrev pub Known : Schema → Uid → SchemaEntity → Type 0
Known S u ty = (declared_type S u.ty ≡ Some ty) × (may_have ty.kind u.id ≡ true)
