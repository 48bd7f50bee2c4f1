-- SPDX-License-Identifier: Apache-2.0
-- The text that is printed of a printable and sound fragment declares what is expected, and its world is sound and denotes the same.
use Rattle.std.proofs.Common.{◌≡◌, ℕ, false, List, [], ◌∷◌, map, refl, sym, ap, ◌∙◌, subst}
use Rattle.std.specs.Prelude.{IsUtf8}
use Rattle.std.specs.List.{AllByRecursion, list_any}
use Rattle.cedar_fragment.specs.ActionUids.{over_raw}
use Rattle.cedar_fragment.specs.Printed.{print}
use Rattle.cedar_fragment.specs.declared.definitions.Fragment as held
use Rattle.cedar_schema_error.specs.declared.action_behavior.ActionBehavior.TheVariants.{ProhibitAttributes}
use Rattle.cedar_sound.specs.Sound.{Sound}
use Rattle.cedar_text.specs.Words.{is_primitive_word}
use Rattle.cedar_tokens.specs.Lexemes.{text_token}
use Rattle.cedar_tree.specs.Trees.{Text}
use Rattle.cedar_grammar.specs.Unplaced.{tokens_unplaced}
use Rattle.cedar_world.specs.Denotes.{Denotes}
use Rattle.cedar_world.specs.Schemas.{Schema}
use Rattle.cedar_world.specs.Worlds.{World}
use Rattle.cedar_written.specs.CommonTypeIds.{is_reserved_basename}
use Rattle.cedar_written.specs.declared.raw_name.RawName.{RawName}
use Rattle.cedar_convert_fragment.specs.Fragments.{Fragment}
use Rattle.cedar_convert_fragment.specs.Views.{fragment_seen}
use Rattle.cedar_schema.specs.of_convert_text.Texts.{DeclaresText}
use Rattle.cedar_convert_warnings.specs.Shadowing.{warnings}
use Rattle.cedar_convert_warnings.specs.declared.warnings.SchemaWarning.{SchemaWarning}
use Rattle.cedar_fragment_world.specs.FragmentFaults.{fragment_faults}
use Rattle.cedar_fragment_world.specs.FragmentWorlds.{world_of_fragment}
use Rattle.cedar_print_laws.proofs.Lexed.{printed_lexes}
use Rattle.cedar_print_laws.specs.Tokens.{says}
use Rattle.cedar_reread.specs.EachType.{EachOfDefinition}
use Rattle.cedar_reread.specs.Placeless.{placeless}
use Rattle.cedar_reread.specs.Rereading.{reread}
use Rattle.cedar_reread.specs.Said.{Tokens, said_fragment}
use Rattle.cedar_reread_declares.proofs.Fragments.{declares_reread}
use Rattle.cedar_reread_print.proofs.Fitting.{fits_readable}
use Rattle.cedar_reread_print.proofs.Printing.{print_apart, print_said}
use Rattle.cedar_reread_print.specs.Spoken.{spoken, words}
use Rattle.cedar_reread_world.proofs.SoundThere.{reread_denotes, reread_sound}
use Rattle.cedar_in_order.specs.InOrder.{DefinitionInOrder, FragmentInOrder, TypeInOrder}
use Rattle.cedar_syntax_laws.proofs.Whole.{reads_text}
use Rattle.cedar_reread_laws.specs.Printable.{IsPrintable, SaysAction}
use Rattle.cedar_reread_laws.specs.Shown.{IsPrintOf, shown}
use Rattle.cedar_reread_laws.proofs.FaultsKept.{faults_reread, no_attributes, same_faults}
use Rattle.cedar_reread_laws.proofs.Known.{names_free, world_printable}
use Rattle.cedar_reread_laws.proofs.Placed.{PlacesLeftOut, declared_at, read_at, without_places}
use Rattle.cedar_reread_laws.proofs.SoundParts.{PartsAreSound, parts_sound}
use Rattle.cedar_reread_laws.proofs.WorldPlaceless.{same_world}
use Rattle.cedar_reread_laws.proofs.WorldReread.{world_rewritten}
use Rattle.cedar_reread_laws.proofs.Wholes.{HasNoAttributes, IsKnown, NamespaceIsFree, fits, is_reread, is_rereadable, nests}

-- all that is known of each namespace
together : (F : Fragment) → AllByRecursion NamespaceIsFree F → AllByRecursion (λ n. DefinitionInOrder n.1) F → AllByRecursion (λ n. EachOfDefinition TypeInOrder n.1) F
    → AllByRecursion (λ n. AllByRecursion (λ e. is_reserved_basename e.0 ≡ false) n.1.common_types) F → AllByRecursion (λ n. AllByRecursion (λ e. SaysAction e.1.content) n.1.actions) F
    → AllByRecursion (λ n. AllByRecursion (λ e. HasNoAttributes e.1.content) n.1.actions) F → PartsAreSound F → AllByRecursion IsKnown F
together [] free ordered types reserved says bare sound = tt
together (n ∷ F) free ordered types reserved says bare sound = (
  record { free = free.0; ordered = ordered.0; types = types.0; reserved = reserved.0; says = says.0; bare = bare.0; sound = sound.0 },
  together F free.1 ordered.1 types.1 reserved.1 says.1 bare.1 sound.1,
)

module _ (F : held.Fragment RawName over_raw) (extensions : List Text) (ordered : FragmentInOrder (fragment_seen F)) (printable : IsPrintable (fragment_seen F) extensions)
    (faultless : fragment_faults ProhibitAttributes (fragment_seen F) ≡ []) (sound : Sound (world_of_fragment (fragment_seen F) extensions)) where
  abbrev seen : Fragment
  seen = fragment_seen F

  known : AllByRecursion IsKnown seen
  known = together seen (names_free F) ordered.definitions ordered.types printable.no_reserved printable.actions (no_attributes seen faultless) (parts_sound seen extensions sound)

  -- the printed text declares the fragment that is expected, places aside
  pub printed_declares : PlacesLeftOut → (text : List ℕ) → IsPrintOf text F → IsUtf8 text
      → (G : Fragment) × (warned : List SchemaWarning) × DeclaresText text extensions G warned × (placeless G ≡ placeless (reread seen))
  printed_declares law text is u =
      let lexed = printed_lexes shown words (λ n. refl) (print F) text is u (print_apart F) in
      let ts : Tokens = map (text_token text) lexed.0 in
      let same : tokens_unplaced ts ≡ said_fragment seen = without_places text lexed.0 ∙ ap (map spoken) lexed.2 ∙ print_said F in
      let readable = fits_readable 128 F (fits seen known) in
      let shallow = nests seen known in
      let at = read_at seen ts same readable shallow in
      let expected = declares_reread seen (is_rereadable seen known ordered.namespaces) in
      let found = declared_at seen ts same readable shallow law expected.0 expected.1 in (
        found.0,
        warnings extensions at.tree,
        record { tree = at.tree; reads = reads_text text ts at.tree (lexed.0, lexed.1, refl) at.reads at.nests; declares = found.1; warned = refl },
        found.2 ∙ expected.2,
      )

  module _ (no_primitive : list_any is_primitive_word extensions ≡ false) where
    abbrev before : World
    before = world_of_fragment seen extensions

    abbrev after : World
    after = world_of_fragment (reread seen) extensions

    -- what is read again is sound, and denotes what the fragment denotes
    pub reread_is_faultless : fragment_faults ProhibitAttributes (reread seen) ≡ []
    reread_is_faultless = faults_reread ProhibitAttributes seen ∙ faultless

    pub reread_is_sound : Sound after
    reread_is_sound = reread_sound before after refl (world_rewritten seen (is_reread seen known)) (world_printable seen extensions (names_free F) printable no_primitive) sound

    pub reread_denotes_it : (S : Schema) → Denotes before S → Denotes after S
    reread_denotes_it S d = reread_denotes before after refl (world_rewritten seen (is_reread seen known)) (world_printable seen extensions (names_free F) printable no_primitive) sound S d

    -- and so does each fragment that is the same but for places
    module _ (G : Fragment) (same : placeless G ≡ placeless (reread seen)) where
      pub same_is_faultless : fragment_faults ProhibitAttributes G ≡ []
      same_is_faultless = same_faults ProhibitAttributes G (reread seen) same ∙ reread_is_faultless

      pub same_is_sound : Sound (world_of_fragment G extensions)
      same_is_sound = subst Sound (sym (same_world G (reread seen) extensions same)) reread_is_sound

      pub same_denotes_it : (S : Schema) → Denotes before S → Denotes (world_of_fragment G extensions) S
      same_denotes_it S d = subst (λ W. Denotes W S) (sym (same_world G (reread seen) extensions same)) (reread_denotes_it S d)
