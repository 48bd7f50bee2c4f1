-- SPDX-License-Identifier: Apache-2.0
-- A job can be done or is refused, not both, and is refused in one way at most.
use Rattle.std.specs.Prelude.{◌≡◌, ◌≤◌, ◌<◌, []}
use Rattle.std.proofs.Common.{arith, inl, inr, sym, ap, ◌∙◌, subst}
use Rattle.cedar_data.specs.Firsts.{IsFirst}
use Rattle.cedar_data.proofs.Judging.{Judges, apart_of_list, none_first, one_first, one_least, one_of_list}
use Rattle.cedar_duplicates.specs.of_schema_error.FullNames.{FullName}
use Rattle.cedar_duplicates.specs.of_schema_error.Refusals.{CommonType, CycleInCommonTypeReferences, Refusal, TooDeep, UsePlace}
use Rattle.cedar_sound.proofs.NameOrders.{names_exact}
use Rattle.cedar_world.specs.of_unfold.Faults.{faults}
use Rattle.cedar_world.specs.of_unfold.Meanings.{Meanings}
use Rattle.cedar_world.specs.of_unfold.Resolved.{Resolved, nest, deepest}
use Rattle.cedar_world.specs.of_unfold.UnfoldPhases.{CommonCycles, CommonDepths, CommonFaults, Fits, IsCircular, Job, Unfoldable, UnfoldPasses, UnfoldPhase, UnfoldRefuses, UnfoldsPast, UnfoldsWithin, UsePasses, UseRefuses, Uses, WhyNotUnfoldable, unfold_phases}
use Rattle.cedar_world.specs.of_unfold.Unfolds.{Unfolds}
use Rattle.cedar_world.specs.of_unfold.Written.{Written}
use Rattle.cedar_world.proofs.of_unfold.OneUnfolding.{one_type}

module _ {N : Type 0} (m : Meanings N) where
  -- a type doesn't unfold both within and past what a type may nest
  within_or_past : (t : Written N) (T U : Resolved) → Unfolds m t T → nest T ≤ deepest → Unfolds m t U → deepest < nest U → ⊥
  within_or_past t T U e within e' past =
      let same : T ≡ U = one_type m t T U e e' in
      let far : 128 < nest T = subst (λ X. deepest < nest X) (sym same) past in
      let near : nest T ≤ 128 = within in
      omega arith

  judges_faults : Judges (λ (c : FullName × Written N). faults m c.1 ≡ []) (λ c. IsFirst (faults m c.1))
  judges_faults = record { apart = λ c e p r. none_first (faults m c.1) e p r; one = λ c e e' r r'. one_first (faults m c.1) e e' r r' }

  judges_depths : Judges (λ (c : FullName × Written N). UnfoldsWithin m c.1) (λ c e. UnfoldsPast m c.1 × (e ≡ TooDeep (CommonType c.0)))
  judges_depths = record {
    apart = λ c e p r. within_or_past c.1 p.0 r.0.0 p.1 p.2 r.0.1 r.0.2;
    one = λ c e e' r r'. r.1 ∙ sym r'.1;
  }

  fits_same : (u : UsePlace × Written N) (T U : Resolved) → Unfolds m u.1 T → Unfolds m u.1 U → Fits u.0 T → Fits u.0 U
  fits_same u T U e e' fits = subst (λ X. Fits u.0 X) (one_type m u.1 T U e e') fits

  apart_use : (u : UsePlace × Written N) (e : Refusal) → UsePasses m u → UseRefuses m u e → ⊥
  apart_use u e p (inl first) = none_first (faults m u.1) e p.faultless first
  apart_use u e p (inr (inl deep)) = within_or_past u.1 p.resolved deep.1.0 p.unfolds p.within deep.1.1 deep.1.2
  apart_use u e p (inr (inr other)) = other.1.misfit (fits_same u p.resolved other.1.resolved p.unfolds other.1.unfolds p.fits)

  one_use : (u : UsePlace × Written N) (e e' : Refusal) → UseRefuses m u e → UseRefuses m u e' → e ≡ e'
  one_use u e e' (inl first) (inl first') = one_first (faults m u.1) e e' first first'
  one_use u e e' (inl first) (inr (inl deep')) = absurd (none_first (faults m u.1) e deep'.0 first)
  one_use u e e' (inl first) (inr (inr other')) = absurd (none_first (faults m u.1) e other'.0 first)
  one_use u e e' (inr (inl deep)) (inl first') = absurd (none_first (faults m u.1) e' deep.0 first')
  one_use u e e' (inr (inl deep)) (inr (inl deep')) = deep.2 ∙ sym deep'.2
  one_use u e e' (inr (inl deep)) (inr (inr other')) = absurd (within_or_past u.1 other'.1.resolved deep.1.0 other'.1.unfolds other'.1.within deep.1.1 deep.1.2)
  one_use u e e' (inr (inr other)) (inl first') = absurd (none_first (faults m u.1) e' other.0 first')
  one_use u e e' (inr (inr other)) (inr (inl deep')) = absurd (within_or_past u.1 other.1.resolved deep'.1.0 other.1.unfolds other.1.within deep'.1.1 deep'.1.2)
  one_use u e e' (inr (inr other)) (inr (inr other')) = other.2 ∙ sym other'.2

  judges_uses : Judges (UsePasses m) (UseRefuses m)
  judges_uses = record { apart = apart_use; one = one_use }

module _ {N : Type 0} (work : Job N) where
  apart_unfold : (p : UnfoldPhase) (e : Refusal) → UnfoldPasses work p → UnfoldRefuses work p e → ⊥
  apart_unfold CommonCycles e passes r = passes r.0 r.2.holds
  apart_unfold CommonFaults e passes r = apart_of_list (judges_faults work.meanings) work.meanings.common_types e passes r
  apart_unfold CommonDepths e passes r = apart_of_list (judges_depths work.meanings) work.meanings.common_types e passes r
  apart_unfold Uses e passes r = apart_of_list (judges_uses work.meanings) work.uses e passes r

  one_unfold : (p : UnfoldPhase) (e e' : Refusal) → UnfoldRefuses work p e → UnfoldRefuses work p e' → e ≡ e'
  one_unfold CommonCycles e e' r r' = r.1 ∙ ap CycleInCommonTypeReferences (one_least names_exact (IsCircular work.meanings) r.0 r'.0 r.2 r'.2) ∙ sym r'.1
  one_unfold CommonFaults e e' r r' = one_of_list (judges_faults work.meanings) work.meanings.common_types e e' r r'
  one_unfold CommonDepths e e' r r' = one_of_list (judges_depths work.meanings) work.meanings.common_types e e' r r'
  one_unfold Uses e e' r r' = one_of_list (judges_uses work.meanings) work.uses e e' r r'

  pub judges_unfolding : Judges (UnfoldPasses work) (UnfoldRefuses work)
  judges_unfolding = record { apart = apart_unfold; one = one_unfold }

  -- a job can be done or is refused, not both
  pub not_both_unfolding : (e : Refusal) → Unfoldable work → WhyNotUnfoldable work e → ⊥
  unfolding Unfoldable WhyNotUnfoldable
  not_both_unfolding e = apart_of_list judges_unfolding unfold_phases e

  -- and is refused in one way at most
  pub one_why_not : (e e' : Refusal) → WhyNotUnfoldable work e → WhyNotUnfoldable work e' → e ≡ e'
  unfolding WhyNotUnfoldable
  one_why_not e e' = one_of_list judges_unfolding unfold_phases e e'
