-- SPDX-License-Identifier: Apache-2.0
-- What a use is refused for, and that it passes.
use Rattle.std.proofs.Common.{◌≡◌, ◌≤◌, inl, inr, List, [], Option, Some, None, Result, Ok, Err, sym, ap, ◌∙◌, subst}
use Rattle.cedar_data.specs.Answers.{IfRefused}
use Rattle.cedar_data.specs.Firsts.{IsFirst}
use Rattle.cedar_data.specs.declared.memory.Failure.{Failure}
use Rattle.cedar_data.specs.declared.memory.Failure.TheVariants.{Refused, NoMemory}
use Rattle.cedar_names.specs.Extensions.{extension_words}
use Rattle.cedar_names.specs.declared.extensions.Extensions.{Extensions}
use Rattle.cedar_schema_error.specs.FullNames.{FullName}
use Rattle.cedar_schema_error.specs.Refusals.{UsePlace, Refusal, TooDeep, Place, ContextOrShapeNotRecord}
use Rattle.cedar_names.specs.of_text.Words.{has_word}
use Rattle.cedar_unfolding.specs.Faults.{faults, faults_by}
use Rattle.cedar_unfold.specs.Finished.{finished}
use Rattle.cedar_unfold.specs.Following.{first_of}
use Rattle.cedar_unfold.specs.Full.{IsFull, meanings_of}
use Rattle.cedar_unfolding.specs.Meanings.{Meanings}
use Rattle.cedar_unfold.specs.Passing.{PassesAs}
use Rattle.cedar_unfolding.specs.Resolved.{Resolved, nest, deepest}
use Rattle.cedar_unfold.specs.Tables.{is_tabled}
use Rattle.cedar_unfolding.specs.UnfoldPhases.{Fits, UseRefuses}
use Rattle.cedar_unfolding.specs.Unfolds.{Unfolds}
use Rattle.cedar_unfolding.specs.Written.{Written}
use Rattle.cedar_unfold.proofs.Keeping.{Finishes}
use Rattle.cedar_unfold.proofs.Ready.{first-is, first-none, within-some, within-none, finishes_full, faults-full}

-- what holds of a refusal holds of more
pub refused-weaker : {T E : Type 0} (r : Result T (Failure E)) (P Q : E → Type 0) → ((e : E) → P e → Q e) → IfRefused r P → IfRefused r Q
refused-weaker (Ok value) P Q f p = p
refused-weaker (Err (Refused e)) P Q f p = f e p
refused-weaker (Err NoMemory) P Q f p = p

module _ (extensions : Extensions) (table : FullName → Option (Option Resolved)) (place : UsePlace) (t : Written FullName)
    (definitions : List (FullName × Written FullName)) (full : IsFull (meanings_of definitions extensions) table) where
  abbrev m : Meanings FullName
  m = meanings_of definitions extensions

  -- the first fault by the names that the table has
  abbrev first_fault : Option Refusal
  first_fault = first_of (faults_by Some (is_tabled table) (has_word (extension_words extensions)) t)

  same_faults : faults_by Some (is_tabled table) (has_word (extension_words extensions)) t ≡ faults m t
  same_faults = faults-full definitions (has_word (extension_words extensions)) full t

  pub refused-fault : (r e : Refusal) → Some r ≡ first_fault → e ≡ r → UseRefuses m (place, t) e
  refused-fault r e first is = inl (subst (IsFirst (faults m t)) (sym is) (first-is (faults m t) r (first ∙ ap first_of same_faults)))

  module _ (none : None ≡ first_fault) where
    faultless : faults m t ≡ []
    faultless = first-none (faults m t) (none ∙ ap first_of same_faults)

    finishes : Finishes m t (finished table t)
    finishes = finishes_full definitions (has_word (extension_words extensions)) full t faultless

    pub refused-deep : (e : Refusal) → None ≡ finished table t → e ≡ TooDeep (Place place) → UseRefuses m (place, t) e
    refused-deep e found is = inr (inl (faultless, (finishes.ty, finishes.unfolds, within-none finishes.ty (sym finishes.is ∙ sym found)), is))

    module _ (T : Resolved) (found : Some T ≡ finished table t) where
      kept : (T ≡ finishes.ty) × (nest finishes.ty ≤ deepest)
      kept = within-some finishes.ty T (sym finishes.is ∙ sym found)

      unfolds : Unfolds m t T
      unfolds = subst (Unfolds m t) (sym kept.0) finishes.unfolds

    pub passes : (T U : Resolved) → Some T ≡ finished table t → U ≡ T → Fits place T → PassesAs m (place, t) U
    passes T U found same fits = subst (PassesAs m (place, t)) (sym same) (record {
      faultless = faultless;
      unfolds = unfolds T found;
      within = subst (λ V. nest V ≤ deepest) (sym (kept T found).0) (kept T found).1;
      fits = fits;
    })

    pub refused-misfit : (T : Resolved) (e : Refusal) → Some T ≡ finished table t → (Fits place T → ⊥) → e ≡ ContextOrShapeNotRecord place → UseRefuses m (place, t) e
    refused-misfit T e found misfit is = inr (inr (
      faultless,
      record {
        resolved = T;
        unfolds = unfolds T found;
        within = subst (λ V. nest V ≤ deepest) (sym (kept T found).0) (kept T found).1;
        misfit = misfit;
      },
      is,
    ))
