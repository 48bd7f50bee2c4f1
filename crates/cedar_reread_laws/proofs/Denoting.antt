-- SPDX-License-Identifier: Apache-2.0
-- What is printed of a sound and printable fragment is well formed, and denotes what the fragment denotes.
use Rattle.std.proofs.Common.{◌≡◌, ℕ, false, List}
use Rattle.std.specs.Prelude.{IsUtf8}
use Rattle.std.specs.List.{list_any}
use Rattle.cedar_fragment.specs.ActionUids.{over_raw}
use Rattle.cedar_fragment.specs.declared.definitions.Fragment as held
use Rattle.cedar_names.specs.Extensions.{extension_words}
use Rattle.cedar_names.specs.declared.extensions.Extensions.{Extensions}
use Rattle.cedar_text.specs.Words.{is_primitive_word}
use Rattle.cedar_written.specs.declared.raw_name.RawName.{RawName}
use Rattle.cedar_schema_error.specs.declared.action_behavior.ActionBehavior.TheVariants.{ProhibitAttributes}
use Rattle.cedar_world.specs.Denotes.{Denotes}
use Rattle.cedar_world.specs.Schemas.{Schema}
use Rattle.cedar_convert_fragment.specs.Fragments.{Fragment}
use Rattle.cedar_convert_fragment.specs.Views.{fragment_seen}
use Rattle.cedar_schema.specs.of_convert_text.Texts.{DeclaresText}
use Rattle.cedar_convert_warnings.specs.declared.warnings.SchemaWarning.{SchemaWarning}
use Rattle.cedar_fragment_world.specs.FragmentWorlds.{world_of_fragment}
use Rattle.cedar_schema.specs.Fragments.{SoundFragment}
use Rattle.cedar_schema.specs.Texts as text
use Rattle.cedar_reread.specs.Placeless.{placeless}
use Rattle.cedar_reread.specs.Rereading.{reread}
use Rattle.cedar_in_order.specs.InOrder.{FragmentInOrder}
use Rattle.cedar_reread_laws.specs.Printable.{IsPrintable}
use Rattle.cedar_reread_laws.specs.Shown.{IsPrintOf}
use Rattle.cedar_reread_laws.proofs.Known.{is_not}
use Rattle.cedar_reread_laws.proofs.Placed.{PlacesLeftOut}
use Rattle.cedar_reread_laws.proofs.Printing.{printed_declares, reread_denotes_it, reread_is_faultless, reread_is_sound, same_denotes_it, same_is_faultless, same_is_sound}

module _ (F : held.Fragment RawName over_raw) (X : Extensions) (ordered : FragmentInOrder (fragment_seen F)) (printable : IsPrintable (fragment_seen F) (extension_words X))
    (sound : SoundFragment ProhibitAttributes (extension_words X) (fragment_seen F)) where
  no_primitive : list_any is_primitive_word (extension_words X) ≡ false
  no_primitive = is_not (list_any is_primitive_word (extension_words X)) X.no_primitive

  -- the fragment that is read again
  pub read_again_sound : SoundFragment ProhibitAttributes (extension_words X) (reread (fragment_seen F))
  read_again_sound = record {
    faultless = reread_is_faultless F (extension_words X) ordered printable sound.faultless sound.sound no_primitive;
    sound = reread_is_sound F (extension_words X) ordered printable sound.faultless sound.sound no_primitive;
  }

  pub read_again_denotes : (S : Schema) → Denotes (world_of_fragment (fragment_seen F) (extension_words X)) S → Denotes (world_of_fragment (reread (fragment_seen F)) (extension_words X)) S
  read_again_denotes = reread_denotes_it F (extension_words X) ordered printable sound.faultless sound.sound no_primitive

  module _ (law : PlacesLeftOut) (source : List ℕ) (is : IsPrintOf source F) (u : IsUtf8 source) where
    pub declares_it_again : (G : Fragment) × (warned : List SchemaWarning) × DeclaresText source (extension_words X) G warned × (placeless G ≡ placeless (reread (fragment_seen F)))
    declares_it_again = printed_declares F (extension_words X) ordered printable sound.faultless sound.sound law source is u

    pub is_well_formed : text.IsWellFormed source (extension_words X) declares_it_again.0 declares_it_again.1
    is_well_formed = record {
      declares = declares_it_again.2;
      sound = record {
        faultless = same_is_faultless F (extension_words X) ordered printable sound.faultless sound.sound no_primitive declares_it_again.0 declares_it_again.3;
        sound = same_is_sound F (extension_words X) ordered printable sound.faultless sound.sound no_primitive declares_it_again.0 declares_it_again.3;
      };
    }

    pub denotes_the_same : (S : Schema) → Denotes (world_of_fragment (fragment_seen F) (extension_words X)) S → text.DenotesSchema source (extension_words X) S declares_it_again.1
    denotes_the_same S d = record {
      fragment = declares_it_again.0;
      well_formed = is_well_formed;
      denotes = same_denotes_it F (extension_words X) ordered printable sound.faultless sound.sound no_primitive declares_it_again.0 declares_it_again.3 S d;
    }
