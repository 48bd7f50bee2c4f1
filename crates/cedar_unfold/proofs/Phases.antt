-- SPDX-License-Identifier: Apache-2.0
-- From what the phases of unfolding answer to what the whole answers.
use Rattle.std.proofs.Common.{inl, inr}
use Rattle.cedar_schema_error.specs.Refusals.{Refusal}
use Rattle.cedar_unfolding.specs.UnfoldPhases.{Job, CommonCycles, CommonFaults, CommonDepths, Uses, UnfoldPasses, UnfoldRefuses, Unfoldable, WhyNotUnfoldable}

module _ {N : Type 0} (job : Job N) where
  pub all_pass : UnfoldPasses job CommonCycles → UnfoldPasses job CommonFaults → UnfoldPasses job CommonDepths → UnfoldPasses job Uses → Unfoldable job
  unfolding Unfoldable
  all_pass cycles faults depths uses = (cycles, (faults, (depths, (uses, tt))))

  pub at_cycles : (e : Refusal) → UnfoldRefuses job CommonCycles e → WhyNotUnfoldable job e
  unfolding WhyNotUnfoldable
  at_cycles e r = inl r

  pub at_faults : (e : Refusal) → UnfoldPasses job CommonCycles → UnfoldRefuses job CommonFaults e → WhyNotUnfoldable job e
  unfolding WhyNotUnfoldable
  at_faults e cycles r = inr (cycles, inl r)

  pub at_depths : (e : Refusal) → UnfoldPasses job CommonCycles → UnfoldPasses job CommonFaults → UnfoldRefuses job CommonDepths e → WhyNotUnfoldable job e
  unfolding WhyNotUnfoldable
  at_depths e cycles faults r = inr (cycles, inr (faults, inl r))

  pub at_uses : (e : Refusal) → UnfoldPasses job CommonCycles → UnfoldPasses job CommonFaults → UnfoldPasses job CommonDepths → UnfoldRefuses job Uses e → WhyNotUnfoldable job e
  unfolding WhyNotUnfoldable
  at_uses e cycles faults depths r = inr (cycles, inr (faults, inr (depths, inl r)))
