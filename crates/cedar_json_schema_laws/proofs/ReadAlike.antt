-- SPDX-License-Identifier: Apache-2.0
-- What is written of a sound fragment is well formed, and denotes what the fragment denotes.
use Rattle.std.proofs.Common.{ℕ, List, sym, ◌∙◌, subst}
use Rattle.cedar_fragment.specs.ActionUids.{over_raw}
use Rattle.cedar_fragment.specs.declared.definitions.Fragment.{Fragment}
use Rattle.cedar_written.specs.declared.raw_name.RawName.{RawName}
use Rattle.cedar_convert_fragment.specs.Views.{fragment_seen}
use Rattle.cedar_convert_warnings.specs.declared.warnings.SchemaWarning.{SchemaWarning}
use Rattle.cedar_fragment_world.specs.FragmentWorlds.{world_of_fragment}
use Rattle.cedar_json_namespaces.specs.Namespaces.{IsFragment}
use Rattle.cedar_json_write.specs.Written.{fragment_json}
use Rattle.cedar_json_written_laws.specs.Unplaced.{fragment_unplaced}
use Rattle.cedar_schema_json.proofs.Declaring.{one_declared}
use Rattle.cedar_schema_json.specs.Fragments.{SoundFragment}
use Rattle.cedar_schema_json.specs.Texts as text
use Rattle.cedar_schema_error.specs.declared.action_behavior.ActionBehavior.TheVariants.{ProhibitAttributes}
use Rattle.cedar_schema_json.specs.JsonSchemas.{DenotesSchema, IsWellFormed}
use Rattle.cedar_sound.specs.Sound.{Sound}
use Rattle.cedar_world.specs.Denotes.{Denotes}
use Rattle.cedar_world.specs.Schemas.{Schema}
use Rattle.cedar_json_schema_laws.proofs.FaultsUnplaced.{faults_alike}
use Rattle.cedar_json_schema_laws.proofs.WorldsUnplaced.{world_alike}

module _ (F : Fragment RawName over_raw) (extensions : List (List ℕ)) (shape : IsFragment (fragment_json F) (fragment_unplaced F)) (sound : SoundFragment ProhibitAttributes extensions (fragment_seen F)) where
  pub well_formed_written : IsWellFormed (IsFragment (fragment_json F)) extensions (fragment_unplaced F)
  well_formed_written = record {
    shape = shape;
    sound = record {
      faultless = faults_alike ProhibitAttributes F ∙ sound.faultless;
      sound = subst (λ W. Sound W) (sym (world_alike F extensions)) sound.sound;
    };
  }

  pub denotes_written : (S : Schema) → Denotes (world_of_fragment (fragment_seen F) extensions) S → DenotesSchema (IsFragment (fragment_json F)) extensions S
  denotes_written S denotes = record {
    fragment = fragment_unplaced F;
    well_formed = well_formed_written;
    denotes = subst (λ W. Denotes W S) (sym (world_alike F extensions)) denotes;
  }

-- a text denotes what the fragment denotes that it declares
pub denotes_declared : (source : List ℕ) (extensions : List (List ℕ)) (F : Fragment RawName over_raw) (warned : List SchemaWarning) (S : Schema)
    → text.IsWellFormed source extensions (fragment_seen F) warned → text.DenotesSchema source extensions S warned → Denotes (world_of_fragment (fragment_seen F) extensions) S
denotes_declared source extensions F warned S is denoted =
    let same = (one_declared source extensions denoted.fragment (fragment_seen F) warned warned denoted.well_formed.declares is.declares).0 in
    subst (λ G. Denotes (world_of_fragment G extensions) S) same denoted.denotes
