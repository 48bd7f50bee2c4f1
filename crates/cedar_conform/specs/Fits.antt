-- SPDX-License-Identifier: Apache-2.0
-- Which values in JSON fit a type. Nothing is said of order or of faults.
use Rattle.std.specs.Prelude.{◌≡◌, ⊤, ℕ, ℤ, Bool, true, false, if◌then◌else◌, List, Option, Some, None}
use Rattle.cedar_data.specs.Maps.{is_text}
use Rattle.serde_json.specs.Data.{Data, boolean, string, array, object, Items, no_items, item, Members, no_members, member}
use Rattle.serde_json.specs.Find.{get}
use Rattle.cedar_json_values.specs.ActionValues.{IsLong}
use Rattle.cedar_schema_error.specs.FullNames.{FullName, Uid}
use Rattle.cedar_unfold.specs.Resolved.{Resolved, ResolvedAttributes, Boolean, Long, String, Extension, Set, Record, Entity, no_attributes, attribute}
use Rattle.cedar_checks.specs.of_world.Schemas.{Schema, SchemaEntity}
use Rattle.cedar_conform.specs.References.{IsReference, Known}

-- the value is an array of which each item is P
abbrev pub EachItem : (Data → Type 0) → Items → Type 0
EachItem P no_items = ⊤
EachItem P (item d ds) = P d × EachItem P ds

abbrev pub IsListOf : (Data → Type 0) → Data → Type 0
IsListOf P d = (ds : Items) × (d ≡ array ds) × EachItem P ds

-- whether there is an attribute of this name
abbrev pub has_attribute : ResolvedAttributes → List ℕ → Bool
has_attribute no_attributes k = false
has_attribute (attribute name required ty others) k = if is_text k name then true else has_attribute others k

-- each key is the name of an attribute
abbrev pub KeysNamed : ResolvedAttributes → Members → Type 0
KeysNamed fields no_members = ⊤
KeysNamed fields (member k d ms) = (has_attribute fields k ≡ true) × KeysNamed fields ms

-- the value is an object that has no other keys than the names of attributes
abbrev pub HasOnly : ResolvedAttributes → Data → Type 0
HasOnly fields d = (ms : Members) × (d ≡ object ms) × KeysNamed fields ms

-- what is there is P, and what is required is there
abbrev pub IsThere : Bool → (Data → Type 0) → Option Data → Type 0
IsThere required P (Some d) = P d
IsThere true P None = ⊥
IsThere false P None = ⊤

module _ (S : Schema) where
  -- the value refers to an entity of this type that the schema knows
  abbrev pub RefersTo : FullName → Data → Type 0
  RefersTo name d = (u : Uid) × IsReference d u × (u.ty ≡ name) × ((ty : SchemaEntity) × Known S u ty)

  abbrev mutual
    -- the value fits the type; nothing fits an extension type
    pub Fits : Resolved → Data → Type 0
    Fits Boolean d = (b : Bool) × (d ≡ boolean b)
    Fits Long d = (z : ℤ) × IsLong d z
    Fits String d = (s : List ℕ) × (d ≡ string s)
    Fits (Extension name) d = ⊥
    Fits (Set element) d = IsListOf (Fits element) d
    Fits (Record fields is_open) d = HasOnly fields d × HasAll fields d
    Fits (Entity name) d = RefersTo name d

    -- each attribute that is required is there, and the value of each that is there fits its type
    pub HasAll : ResolvedAttributes → Data → Type 0
    HasAll no_attributes d = ⊤
    HasAll (attribute name required ty others) d = IsThere required (Fits ty) (get name d) × HasAll others d
