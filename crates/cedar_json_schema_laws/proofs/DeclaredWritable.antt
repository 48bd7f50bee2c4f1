-- SPDX-License-Identifier: Apache-2.0
-- A fragment that a text declares may be written, but for shapes and contexts that are words of types.
use Rattle.std.proofs.Common.{ℕ, List, [], ◌∷◌}
use Rattle.std.specs.List.{AllByRecursion}
use Rattle.cedar_data.specs.Firsts.{AllPass, NoneAgain}
use Rattle.cedar_written.specs.declared.raw_name.RawName.{RawName}
use Rattle.cedar_fragment.specs.ActionUids.{over_raw}
use Rattle.cedar_fragment.specs.declared.definitions.Fragment as held
use Rattle.cedar_grammar.proofs.Read.{read_as_read}
use Rattle.cedar_convert_fragment.specs.Fragments.{Declared, Fragment, TypeAt}
use Rattle.cedar_convert_fragment.specs.Views.{fragment_seen}
use Rattle.cedar_schema_json.specs.of_convert_text.Texts.{DeclaresText}
use Rattle.cedar_convert_warnings.specs.declared.warnings.SchemaWarning.{SchemaWarning}
use Rattle.cedar_duplicates.specs.Duplicates.{same_declared}
use Rattle.cedar_fragment_world.specs.FragmentWorlds.{world_of_fragment}
use Rattle.cedar_json_written_laws.specs.Writable.{WritableFragment}
use Rattle.cedar_resolving_laws.proofs.OnceEach.{Apart, actions_each, apart_each, entities_each}
use Rattle.cedar_resolving_laws.proofs.Reordering.{Each2}
use Rattle.cedar_schema_error.specs.declared.action_behavior.ActionBehavior.{ActionBehavior}
use Rattle.cedar_schema_error.specs.declared.action_behavior.ActionBehavior.TheVariants.{ProhibitAttributes}
use Rattle.cedar_schema_json.specs.Fragments.{SoundFragment}
use Rattle.cedar_schema_json.specs.Texts as text
use Rattle.cedar_sound.proofs.NameOrders.{uids_exact}
use Rattle.cedar_sound.specs.Sound.{Sound, all_declared}
use Rattle.cedar_tree.specs.Trees.{Text}
use Rattle.cedar_unfold.specs.UnfoldPhases.{Unfoldable, UsePasses}
use Rattle.cedar_world.specs.Worlds.{World, all_namespaces, meanings, uses}
use Rattle.cedar_json_schema_laws.specs.TypeWords.{NamesNoEntityOrCommon, NamesNoWord}
use Rattle.cedar_json_schema_laws.proofs.DeclaredFragments.{declared_fragment_fits}
use Rattle.cedar_json_schema_laws.proofs.ReservedNames.{AreFreeCommons}
use Rattle.cedar_json_schema_laws.proofs.SeenFragments.{CommonFits, EntryIs, FragmentFits, FreeKey, NamespaceFits}
use Rattle.cedar_json_schema_laws.proofs.SoundShapes.{sound_names_no_word}
use Rattle.cedar_json_schema_laws.proofs.WritableFragments.{fragment_writable}

-- what a text declares
declared_fits : (source : List ℕ) (extensions : List Text) (F : Fragment) (warned : List SchemaWarning) → DeclaresText source extensions F warned → FragmentFits F
declared_fits source extensions F warned declares =
    let s = declares.tree in
    let reads = declares.reads in
    declared_fragment_fits s F (read_as_read reads.tokens s reads.reads) reads.nests declares.declares

pub declared_writable : (source : List ℕ) (F : held.Fragment RawName over_raw) (extensions : List Text) (warned : List SchemaWarning)
    → DeclaresText source extensions (fragment_seen F) warned → NamesNoWord (fragment_seen F) → WritableFragment F
declared_writable source F extensions warned declares others = fragment_writable F (declared_fits source extensions (fragment_seen F) warned declares) others

-- ---- where the text is well formed

-- no common type stands under a reserved word
free_commons : (es : List (Text × Declared TypeAt)) → AllByRecursion (EntryIs FreeKey CommonFits) es → AllByRecursion {X = Text × Declared TypeAt} (λ e. FreeKey e.0) es
free_commons [] fit = tt
free_commons (e ∷ es) fit = let here = fit.0 in (here.0, free_commons es fit.1)

all_free : (F : Fragment) → AllByRecursion NamespaceFits F → AllByRecursion AreFreeCommons F
all_free [] fit = tt
all_free (n ∷ F) fit = let here = fit.0 in (free_commons n.1.common_types here.1.0.1, all_free F fit.1)

module _ (W : World) (sound : Sound W) where
  once : NoneAgain same_declared [] (all_declared (all_namespaces W))
  unfolding Sound
  once = sound.1.1.0

  uses_pass : AllPass (λ u. UsePasses (meanings W) u) (uses W)
  unfolding Sound Unfoldable
  uses_pass = sound.1.1.1.0.1.1.1.0

  apart : Each2 (Apart same_declared) (all_declared (all_namespaces W))
  apart = apart_each same_declared [] (all_declared (all_namespaces W)) once

-- a sound fragment has no word of types as a shape or context, but for `EntityOrCommon`
no_words : (behavior : ActionBehavior) (extensions : List Text) (F : Fragment) → FragmentFits F → SoundFragment behavior extensions F → NamesNoEntityOrCommon F → NamesNoWord F
no_words behavior extensions F fits is other =
    let W = world_of_fragment F extensions in
    let each = apart W is.sound in
    sound_names_no_word F extensions (all_free F fits.1) (entities_each (all_namespaces W) each) (actions_each (all_namespaces W) each) uids_exact.total (uses_pass W is.sound) other

pub well_formed_writable : (source : List ℕ) (F : held.Fragment RawName over_raw) (extensions : List Text) (warned : List SchemaWarning)
    → text.IsWellFormed source extensions (fragment_seen F) warned → NamesNoEntityOrCommon (fragment_seen F) → WritableFragment F
well_formed_writable source F extensions warned is other =
    let fits = declared_fits source extensions (fragment_seen F) warned is.declares in
    fragment_writable F fits (no_words ProhibitAttributes extensions (fragment_seen F) fits is.sound other)
