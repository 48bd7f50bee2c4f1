-- SPDX-License-Identifier: Apache-2.0
-- Why something is refused as a schema in JSON, places aside, over anything that has the shapes of fragments and a first
-- fault.
use Rattle.std.specs.Prelude.{◌≡◌, ◌⊎◌, ℕ, List, Some}
use Rattle.cedar_convert_fragment.specs.Views.{fragment_seen}
use Rattle.cedar_fragment.specs.ActionUids.{over_raw}
use Rattle.cedar_fragment.specs.declared.definitions.Fragment.{Fragment}
use Rattle.cedar_json_fault.specs.declared.json_error.JsonDeserializationError.{JsonDeserializationError}
use Rattle.cedar_json_types.specs.Faults.{Fault}
use Rattle.cedar_schema.specs.Fragments.{FragmentCause}
use Rattle.cedar_schema_error.specs.Refusals.{HandedIn, Refusal}
use Rattle.cedar_schema_error.specs.declared.action_behavior.ActionBehavior.TheVariants.{ProhibitAttributes}
use Rattle.cedar_schema_error.specs.declared.schema_error.SchemaError.TheVariants.{JsonDeserialization}
use Rattle.cedar_written.specs.declared.raw_name.RawName.{RawName}

-- it has the shape of no fragment: its first fault
pub record IsFaulty (fault : Fault) (r : Refusal) : Type 0 where
  pub kept : JsonDeserializationError
  pub first : fault ≡ Some kept
  pub is : r ≡ HandedIn (JsonDeserialization kept)

-- the fragment whose shape it has isn't sound
pub record IsUnsound (Shapes : Fragment RawName over_raw → Type 0) (extensions : List (List ℕ)) (r : Refusal) : Type 0 where
  pub fragment : Fragment RawName over_raw
  pub shape : Shapes fragment
  pub cause : FragmentCause ProhibitAttributes extensions (fragment_seen fragment) r

-- why it is refused
abbrev pub JsonRefusal : (Fragment RawName over_raw → Type 0) → Fault → List (List ℕ) → Refusal → Type 0
JsonRefusal Shapes fault extensions r = IsFaulty fault r ⊎ IsUnsound Shapes extensions r
