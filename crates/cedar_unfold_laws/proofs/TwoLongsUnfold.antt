-- SPDX-License-Identifier: Apache-2.0
-- A record of two whole numbers is the only use, and there are no common types: it unfolds, and isn't refused.
use Rattle.std.proofs.Common.{◌≡◌, ◌<◌, List, [], ◌∷◌, Result, Ok, Err, IfOk, inl, inr, refl, sym, ap, subst, arith}
use Rattle.std.proofs.lemmas.Option.{none-some}
use Rattle.std.specs.Bool.{IsTrue}
use Rattle.std.specs.List.{AllZip}
use Rattle.cedar_closure.specs.Chains.{Reaches, one, more}
use Rattle.cedar_data.specs.Answers.{IfRefused}
use Rattle.cedar_data.specs.Firsts.{IsFirst}
use Rattle.cedar_data.specs.declared.memory.Failure.{Failure}
use Rattle.cedar_names.specs.Components.{components}
use Rattle.cedar_names.specs.declared.extensions.Extensions.{Extensions}
use Rattle.cedar_names.specs.declared.internal_name.InternalName.{InternalName}
use Rattle.cedar_schema_error.specs.FullNames.{FullName}
use Rattle.cedar_schema_error.specs.Refusals.{Refusal, Shape, UsePlace}
use Rattle.cedar_schema_error.specs.Told.{told}
use Rattle.cedar_schema_error.specs.declared.schema_error.SchemaError.{SchemaError}
use Rattle.cedar_schema_error.specs.declared.use_place.UsePlace as code
use Rattle.cedar_unfold.proofs.OneUnfolding.{one_type}
use Rattle.cedar_unfold.proofs.UseLemmas.{refused-weaker}
use Rattle.cedar_unfold.specs.Faults.{faults}
use Rattle.cedar_unfold.specs.Full.{UsesOf, by_place, job_of, meanings_of}
use Rattle.cedar_unfold.specs.Meanings.{Meanings}
use Rattle.cedar_unfold.specs.Resolved.{Resolved, nest, deepest, is_record}
use Rattle.cedar_unfold.specs.ResolvedViews.{resolved}
use Rattle.cedar_unfold.specs.Tables.{by_name}
use Rattle.cedar_unfold.specs.UnfoldPhases.{Job, IsUnfolded, Misfits, Refers, Unfoldable, UnfoldsAt, UnfoldsPast, UseRefuses, WhyNotUnfoldable}
use Rattle.cedar_unfold.specs.Unfolds.{Unfolds, long, closed, none, each}
use Rattle.cedar_unfold.specs.Written.{Written}
use Rattle.cedar_unfold.specs.WrittenViews.{written_type}
use Rattle.cedar_unfold.specs.declared.all.Unfolded.{Unfolded}
use Rattle.cedar_unfold_laws.specs.TwoLongs.{two_longs, two_longs_resolved}
use Rattle.cedar_written.specs.declared.ty.SchemaType.{SchemaType}

module _ (name : FullName) (extensions : Extensions) where
  abbrev uses : UsesOf
  uses = (Shape name, two_longs) ∷ []

  abbrev m : Meanings FullName
  m = meanings_of [] extensions

  abbrev job : Job FullName
  job = job_of [] uses extensions

  unfolds : Unfolds m two_longs two_longs_resolved
  unfolds = closed (each long (each long none))

  -- it unfolds to nothing else
  same : (T : Resolved) → Unfolds m two_longs T → T ≡ two_longs_resolved
  same T other = one_type m two_longs T two_longs_resolved other unfolds

  no_chain : (a b : FullName) → Reaches (Refers m) a b → ⊥
  no_chain a b (one step) = none-some step.definition step.defined
  no_chain a b (more step rest) = none-some step.definition step.defined

  no_fault : (e : Refusal) → IsFirst (faults m two_longs) e → ⊥
  no_fault e (rest, is) = absurd cc

  not_deep : UnfoldsPast m two_longs → ⊥
  not_deep (T, other, deep) =
      let deeper : deepest < nest two_longs_resolved = subst (λ U. deepest < nest U) (same T other) deep in
      absurd (omega arith)

  fits : Misfits m (Shape name, two_longs) → ⊥
  fits misfit = misfit.misfit (subst (λ U. IsTrue (is_record U)) (sym (same misfit.resolved misfit.unfolds)) refl)

  use_passes : (e : Refusal) → UseRefuses m (Shape name, two_longs) e → ⊥
  use_passes e (inl fault) = no_fault e fault
  use_passes e (inr (inl deep)) = not_deep deep.1
  use_passes e (inr (inr misfit)) = fits misfit.1

  never_refused : (e : Refusal) → WhyNotUnfoldable job e → ⊥
  unfolding WhyNotUnfoldable
  never_refused e (inl (other, is, least)) = no_chain other other least.holds
  never_refused e (inr (_, inl fault)) = fault
  never_refused e (inr (_, inr (_, inl deep))) = deep
  never_refused e (inr (_, inr (_, inr (_, inl (inl refused))))) = use_passes e refused
  never_refused e (inr (_, inr (_, inr (_, inl (inr later))))) = later.1
  never_refused e (inr (_, inr (_, inr (_, inr beyond)))) = beyond.1

  no_commons : (commons : List (FullName × Resolved)) → AllZip (UnfoldsAt job) [] commons → commons ≡ []
  no_commons [] z = refl
  no_commons (c ∷ cs) z = absurd z

  the_use : (used : List (UsePlace × Resolved)) → AllZip (UnfoldsAt job) uses used → used ≡ (Shape name, two_longs_resolved) ∷ []
  the_use [] z = absurd z
  the_use (u ∷ []) z = λ i. (z.0.0 i, same u.1 z.0.1 i) ∷ []
  the_use (u ∷ v ∷ us) z = absurd z.1

pub no_entries : {V W : Type 0} (f : V → W) (es : List (InternalName × V)) → by_name f es ≡ [] → es ≡ []
no_entries f [] is = refl
no_entries f (e ∷ es) is = absurd cc

module _ (name : FullName) (defs : List (InternalName × SchemaType InternalName)) (uses : List (code.UsePlace × SchemaType InternalName)) (extensions : Extensions)
    (no_defs : defs ≡ []) (written_use : by_place (written_type components) uses ≡ (Shape name, two_longs) ∷ []) where
  abbrev written : SchemaType InternalName → Written FullName
  written = written_type components

  no_definitions : by_name written defs ≡ []
  no_definitions = ap (by_name written) no_defs

  the_job : job_of (by_name written defs) (by_place written uses) extensions ≡ job name extensions
  the_job = λ i. job_of (no_definitions i) (written_use i) extensions

  abbrev done : Unfolded → Type 0
  done u =
      Unfoldable (job_of (by_name written defs) (by_place written uses) extensions)
      × IsUnfolded (job_of (by_name written defs) (by_place written uses) extensions) (by_name resolved u.common) (by_place resolved u.uses)

  done_here : (u : Unfolded) → done u → IsUnfolded (job name extensions) (by_name resolved u.common) (by_place resolved u.uses)
  done_here u d = subst (λ j. IsUnfolded j (by_name resolved u.common) (by_place resolved u.uses)) the_job d.1

  pub common_is : (r : Result Unfolded (Failure SchemaError)) → IfOk r done → IfOk r (λ u. u.common ≡ [])
  common_is (Ok u) d = no_entries resolved u.common (no_commons name extensions (by_name resolved u.common) (done_here u d).commons_are)
  common_is (Err failure) d = d

  pub uses_are : (r : Result Unfolded (Failure SchemaError)) → IfOk r done → IfOk r (λ u. by_place resolved u.uses ≡ (Shape name, two_longs_resolved) ∷ [])
  uses_are (Ok u) d = the_use name extensions (by_place resolved u.uses) (done_here u d).uses_are
  uses_are (Err failure) d = d

  pub not_refused : (r : Result Unfolded (Failure SchemaError)) → IfRefused r (λ e. WhyNotUnfoldable (job_of (by_name written defs) (by_place written uses) extensions) (told e)) → IfRefused r (λ e. ⊥)
  not_refused r why = refused-weaker r (λ e. WhyNotUnfoldable (job_of (by_name written defs) (by_place written uses) extensions) (told e)) (λ e. ⊥)
      (λ e w. never_refused name extensions (told e) (subst (λ j. WhyNotUnfoldable j (told e)) the_job w)) why
