-- SPDX-License-Identifier: Apache-2.0
-- Which schemas in JSON are well formed and what schema they denote, and why another is refused. A value and a text have
-- these in common: what it is that has the shape of a fragment, and its first fault.
use Rattle.std.specs.Prelude.{◌≡◌, ◌⊎◌, ℕ, List, Some}
use Rattle.cedar_convert_fragment.specs.Views.{fragment_seen}
use Rattle.cedar_data.specs.declared.memory.Failure.{Failure}
use Rattle.cedar_data.specs.declared.memory.Failure.TheVariants.{Refused, NoMemory}
use Rattle.cedar_fragment.specs.ActionUids.{over_raw}
use Rattle.cedar_fragment.specs.declared.definitions.Fragment.{Fragment}
use Rattle.cedar_schema.specs.of_fragment_world.FragmentWorlds.{world_of_fragment}
use Rattle.cedar_json_fault.specs.declared.json_error.JsonDeserializationError.{JsonDeserializationError}
use Rattle.cedar_json_types.specs.Faults.{Fault}
use Rattle.cedar_schema.specs.Fragments.{FragmentCause, SoundFragment}
use Rattle.cedar_schema_error.specs.Told.{told}
use Rattle.cedar_schema_error.specs.declared.action_behavior.ActionBehavior.TheVariants.{ProhibitAttributes}
use Rattle.cedar_schema_error.specs.declared.schema_error.SchemaError.{SchemaError}
use Rattle.cedar_schema_error.specs.declared.schema_error.SchemaError.TheVariants.{JsonDeserialization}
use Rattle.cedar_schema.specs.of_world.Denotes.{Denotes}
use Rattle.cedar_schema.specs.of_world.Schemas.{Schema}
use Rattle.cedar_written.specs.declared.raw_name.RawName.{RawName}

-- it has the shape of a fragment that is sound
pub record IsWellFormed (Shapes : Fragment RawName over_raw → Type 0) (extensions : List (List ℕ)) (F : Fragment RawName over_raw) : Type 0 where
  pub shape : Shapes F
  pub sound : SoundFragment ProhibitAttributes extensions (fragment_seen F)

-- it denotes a schema: it is well formed, and its fragment denotes the schema
pub record DenotesSchema (Shapes : Fragment RawName over_raw → Type 0) (extensions : List (List ℕ)) (S : Schema) : Type 0 where
  pub fragment : Fragment RawName over_raw
  pub well_formed : IsWellFormed Shapes extensions fragment
  pub denotes : Denotes (world_of_fragment (fragment_seen fragment) extensions) S

-- a failure to read it, as one to resolve it
abbrev pub unread : Failure JsonDeserializationError → Failure SchemaError
unread (Refused e) = Refused (JsonDeserialization e)
unread NoMemory = NoMemory

-- why it has the shape of no fragment: its first fault
pub record FaultCause (fault : Fault) (e : SchemaError) : Type 0 where
  pub kept : JsonDeserializationError
  pub first : fault ≡ Some kept
  pub is : e ≡ JsonDeserialization kept

-- why the fragment whose shape it has isn't sound
pub record UnsoundCause (Shapes : Fragment RawName over_raw → Type 0) (extensions : List (List ℕ)) (e : SchemaError) : Type 0 where
  pub fragment : Fragment RawName over_raw
  pub shape : Shapes fragment
  pub cause : FragmentCause ProhibitAttributes extensions (fragment_seen fragment) (told e)

-- why it is refused
abbrev pub JsonCause : (Fragment RawName over_raw → Type 0) → Fault → List (List ℕ) → SchemaError → Type 0
JsonCause Shapes fault extensions e = FaultCause fault e ⊎ UnsoundCause Shapes extensions e
