-- SPDX-License-Identifier: Apache-2.0
-- From the answers of the parts to what the whole answers.
use Rattle.std.proofs.Common.{◌≡◌, ℕ, ⊎_elim, Bool, List, Option, sym, subst}
use Rattle.std.specs.List.{AllZip}
use Rattle.std.specs.List.Sorted.{IsStrictlySortedBy}
use Rattle.std.specs.Map.{keys_of}
use Rattle.cedar_data.specs.Firsts.{AllPass, FirstRefused}
use Rattle.cedar_names.specs.Extensions.{extension_words}
use Rattle.cedar_names.specs.Names.{internal_cmp}
use Rattle.cedar_names.specs.declared.extensions.Extensions.{Extensions}
use Rattle.cedar_names.specs.declared.internal_name.InternalName.{InternalName}
use Rattle.cedar_schema_error.specs.FullNames.{FullName}
use Rattle.cedar_schema_error.specs.Refusals.{Refusal, UsePlace}
use Rattle.cedar_names.specs.of_text.Words.{has_word}
use Rattle.cedar_unfold.specs.Full.{AreFaultless, IsFull, UsesOf, job_of, meanings_of}
use Rattle.cedar_unfolding.specs.Meanings.{Meanings, full_meanings}
use Rattle.cedar_unfold.specs.Passing.{DefinitionsPass, DefinitionsRefuse, GivesUse, HasSome, HasType, LacksType}
use Rattle.cedar_unfolding.specs.Resolved.{Resolved}
use Rattle.cedar_unfold.specs.Tables.{by_name, names_of}
use Rattle.cedar_unfolding.specs.UnfoldPhases.{Job, UnfoldsWithin, UsePasses, UseRefuses, Unfoldable, WhyNotUnfoldable, IsUnfolded}
use Rattle.cedar_unfolding.specs.Written.{Written}
use Rattle.cedar_unfold.proofs.FillSteps.{names-in_order}
use Rattle.cedar_unfold.proofs.Gathering.{zip-map, zip-pass}
use Rattle.cedar_unfold.proofs.NameTables.{keys_of-by_name}
use Rattle.cedar_unfold.proofs.Phases.{all_pass, at_cycles, at_faults, at_depths, at_uses}
use Rattle.cedar_unfold.proofs.Whole.{GivesCommon, gives-commons, first-deep, own-definitions}

module _ {V : Type 0} (w : V → Written FullName) (defs : List (InternalName × V)) (keys : List InternalName) (is_keys : keys ≡ keys_of defs) (sorted : IsStrictlySortedBy internal_cmp keys) (uses : UsesOf) (extensions : Extensions) where
  abbrev definitions : List (FullName × Written FullName)
  definitions = by_name w defs

  abbrev m : Meanings FullName
  m = meanings_of definitions extensions

  abbrev job : Job FullName
  job = job_of definitions uses extensions

  pub ordered-refused : (e : Refusal) → DefinitionsRefuse definitions extensions e → WhyNotUnfoldable job e
  ordered-refused e r = ⊎_elim (λ cycles. at_cycles job e cycles) (λ faults. at_faults job e faults.0 faults.1) r

  module _ (pass : DefinitionsPass definitions extensions) {table : FullName → Option (Option Resolved)}
      (fills : (is_extension : List ℕ → Bool) → AreFaultless (full_meanings definitions is_extension) → IsFull (full_meanings definitions is_extension) table) where
    pub full : IsFull m table
    full = fills (has_word (extension_words extensions)) pass.1

    pub commons-refused : (e : Refusal) → FirstRefused (HasSome table) (LacksType table) (names_of (keys_of defs)) e → WhyNotUnfoldable job e
    commons-refused e r = at_depths job e pass.0 pass.1
        (first-deep m full definitions e (own-definitions definitions (has_word (extension_words extensions)) (names-in_order w defs keys is_keys sorted)) (subst (λ ns. FirstRefused (HasSome table) (LacksType table) ns e) (sym (keys_of-by_name w defs)) r))

    module _ (commons : List (FullName × Resolved)) (has : AllZip (HasType table) (names_of (keys_of defs)) commons) where
      gives : AllZip (GivesCommon m) definitions commons
      gives = gives-commons m full definitions commons (own-definitions definitions (has_word (extension_words extensions)) (names-in_order w defs keys is_keys sorted)) (subst (λ ns. AllZip (HasType table) ns commons) (sym (keys_of-by_name w defs)) has)

      depths : AllPass (λ c. UnfoldsWithin m c.1) definitions
      depths = zip-pass {R = GivesCommon m} {P = λ c. UnfoldsWithin m c.1} (λ c made g. (made.1, g.1, g.2)) definitions commons gives

      pub uses-refused : (e : Refusal) → FirstRefused (UsePasses m) (UseRefuses m) uses e → WhyNotUnfoldable job e
      uses-refused e r = at_uses job e pass.0 pass.1 depths r

      module _ (used : List (UsePlace × Resolved)) (give : AllZip (GivesUse m) uses used) where
        pub passes_all : Unfoldable job
        passes_all = all_pass job pass.0 pass.1 depths (zip-pass {R = GivesUse m} {P = UsePasses m} (λ u made g. record { faultless = g.1.faultless; resolved = made.1; unfolds = g.1.unfolds; within = g.1.within; fits = g.1.fits }) uses used give)

        pub unfolds_all : IsUnfolded job commons used
        unfolds_all = record {
          commons_are = zip-map {R = GivesCommon m} (λ c made g. (g.0, g.1)) definitions commons gives;
          uses_are = zip-map {R = GivesUse m} (λ u made g. (g.0, g.1.unfolds)) uses used give;
        }
