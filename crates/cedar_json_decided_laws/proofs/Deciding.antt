-- SPDX-License-Identifier: Apache-2.0
-- What has the shape of a fragment where it has no fault is well formed, or is refused.
use Rattle.std.proofs.Common.{◌≡◌, ◌⊎◌, ℕ, inl, inr, List, Some, None, refl}
use Rattle.cedar_convert_fragment.specs.Views.{fragment_seen}
use Rattle.cedar_fragment.specs.ActionUids.{over_raw}
use Rattle.cedar_fragment.specs.declared.definitions.Fragment.{Fragment}
use Rattle.cedar_json_types.specs.Faults.{Fault}
use Rattle.cedar_schema.specs.Fragments.{FragmentCause, SoundFragment}
use Rattle.cedar_schema_error.specs.Refusals.{HandedIn, Refusal}
use Rattle.cedar_schema_error.specs.declared.action_behavior.ActionBehavior.TheVariants.{ProhibitAttributes}
use Rattle.cedar_schema_error.specs.declared.schema_error.SchemaError.TheVariants.{JsonDeserialization}
use Rattle.cedar_schema_json.specs.JsonSchemas.{IsWellFormed}
use Rattle.cedar_written.specs.declared.raw_name.RawName.{RawName}
use Rattle.cedar_decided_laws.proofs.Fragments.{fragment_sound_or_caused}
use Rattle.cedar_json_decided_laws.specs.JsonRefusals.{JsonRefusal}

module _ (Shapes : Fragment RawName over_raw → Type 0) (fault : Fault) (extensions : List (List ℕ)) (shaped : fault ≡ None → (F : Fragment RawName over_raw) × Shapes F) where
  abbrev Verdict : Type 0
  Verdict = ((F : Fragment RawName over_raw) × IsWellFormed Shapes extensions F) ⊎ ((r : Refusal) × JsonRefusal Shapes fault extensions r)

  -- it has the shape of this fragment
  judged : (F : Fragment RawName over_raw) → Shapes F → SoundFragment ProhibitAttributes extensions (fragment_seen F) ⊎ ((r : Refusal) × FragmentCause ProhibitAttributes extensions (fragment_seen F) r) → Verdict
  judged F shape (inl sound) = inl (F, record { shape = shape; sound = sound })
  judged F shape (inr refused) = inr (refused.0, inr (record { fragment = F; shape = shape; cause = refused.1 }))

  by_fault : (f : Fault) → fault ≡ f → Verdict
  by_fault (Some e) is = inr (HandedIn (JsonDeserialization e), inl (record { kept = e; first = is; is = refl }))
  by_fault None is = let made = shaped is in judged made.0 made.1 (fragment_sound_or_caused ProhibitAttributes extensions (fragment_seen made.0))

  pub well_formed_or_caused : Verdict
  well_formed_or_caused = by_fault fault refl
