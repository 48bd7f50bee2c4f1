-- SPDX-License-Identifier: Apache-2.0
-- Which values in JSON are entities of a schema. Nothing is said of order or of faults.
use Rattle.std.specs.Prelude.{◌≡◌, ◌≢◌, ⊤, ℕ, true, List, [], ◌∷◌, codes, Option, Some, None}
use Rattle.serde_json.specs.Data.{Data, array, object, Items, no_items, item, Members, no_members, member}
use Rattle.serde_json.specs.Find.{get}
use Rattle.cedar_json_types.specs.Shapes.{Keyed}
use Rattle.cedar_schema_error.specs.FullNames.{FullName, Uid}
use Rattle.cedar_unfold.specs.Resolved.{Resolved, Record}
use Rattle.cedar_checks.specs.of_world.Schemas.{EntityKind, EnumeratedKind, Schema, SchemaEntity, StandardKind}
use Rattle.cedar_conform.specs.Fits.{IsListOf, Fits}
use Rattle.cedar_conform.specs.References.{At, IsReference, Known}
use Rattle.cedar_checks.specs.Lookups.{is_above}

-- the keys of an entity
abbrev pub entity_keys : List (List ℕ)
entity_keys = codes "uid" ∷ codes "attrs" ∷ codes "parents" ∷ codes "tags" ∷ []

-- P of what is there
abbrev pub IfThere : (Data → Type 0) → Option Data → Type 0
IfThere P None = ⊤
IfThere P (Some d) = P d

abbrev pub MayHave : List ℕ → (Data → Type 0) → Data → Type 0
MayHave k P d = IfThere P (get k d)

-- the value is an object of which each member's value is P
abbrev pub EachValue : (Data → Type 0) → Members → Type 0
EachValue P no_members = ⊤
EachValue P (member k d ms) = P d × EachValue P ms

abbrev pub IsMapOf : (Data → Type 0) → Data → Type 0
IsMapOf P d = (ms : Members) × (d ≡ object ms) × EachValue P ms

-- the value is the empty object, or the empty array
abbrev pub IsEmptyObject : Data → Type 0
IsEmptyObject d = d ≡ object no_members

abbrev pub IsEmptyArray : Data → Type 0
IsEmptyArray d = d ≡ array no_items

module _ (S : Schema) where
  -- the value refers to an entity that the schema knows, and whose type is above the one of this name
  abbrev pub IsParentOf : FullName → Data → Type 0
  IsParentOf name d = (u : Uid) × IsReference d u × ((above : SchemaEntity) × Known S u above × (is_above above name ≡ true))

  -- the values fit the type of the tags; without one there are none
  abbrev pub AreTags : Option Resolved → Data → Type 0
  AreTags None d = IsEmptyObject d
  AreTags (Some tags) d = IsMapOf (Fits S tags) d

  -- the value has what an entity of the type of this name and kind has; where the type lists its entities, they have nothing
  abbrev pub HasData : FullName → EntityKind → Data → Type 0
  HasData name (StandardKind fields is_open tags) d =
      At (codes "attrs") (Fits S (Record fields is_open)) d × At (codes "parents") (IsListOf (IsParentOf name)) d × MayHave (codes "tags") (AreTags tags) d
  HasData name (EnumeratedKind ids) d =
      At (codes "attrs") IsEmptyObject d × At (codes "parents") IsEmptyArray d × MayHave (codes "tags") IsEmptyObject d

  -- the value is this entity, as the schema says that it is
  abbrev pub IsEntity : Data → Uid → Type 0
  IsEntity d u = Keyed entity_keys d × At (codes "uid") (λ e. IsReference e u) d × ((ty : SchemaEntity) × Known S u ty × HasData u.ty ty.kind d)

  -- the items are these entities, in order
  abbrev pub EachEntity : Items → List Uid → Type 0
  EachEntity no_items [] = ⊤
  EachEntity no_items (u ∷ us) = ⊥
  EachEntity (item d ds) [] = ⊥
  EachEntity (item d ds) (u ∷ us) = IsEntity d u × EachEntity ds us

-- the entity is none of these
abbrev pub IsNone : Uid → List Uid → Type 0
IsNone u [] = ⊤
IsNone u (v ∷ vs) = (u ≢ v) × IsNone u vs

-- no entity stands twice
abbrev pub AreDistinct : List Uid → Type 0
AreDistinct [] = ⊤
AreDistinct (u ∷ us) = IsNone u us × AreDistinct us

-- the value is a list of entities of the schema, of which none stands twice
abbrev pub AreEntities : Schema → Data → Type 0
AreEntities S d = (ds : Items) × (d ≡ array ds) × ((us : List Uid) × EachEntity S ds us × AreDistinct us)
