-- SPDX-License-Identifier: Apache-2.0
-- Each fragment has a fault, or has none and a world that is sound or refused.
use Rattle.std.proofs.Common.{◌≡◌, ◌⊎◌, ℕ, inl, inr, List, []}
use Rattle.cedar_data.specs.Firsts.{IsFirst}
use Rattle.cedar_fragment_world.specs.of_convert_fragment.Fragments.{Fragment}
use Rattle.cedar_fragment_world.specs.FragmentFaults.{fragment_faults}
use Rattle.cedar_fragment_world.specs.FragmentWorlds.{world_of_fragment}
use Rattle.cedar_schema.specs.Fragments.{FragmentCause, SoundFragment}
use Rattle.cedar_schema_error.specs.Refusals.{Refusal}
use Rattle.cedar_schema_error.specs.declared.action_behavior.ActionBehavior.{ActionBehavior}
use Rattle.cedar_sound.specs.Sound.{Cause, Sound}
use Rattle.cedar_decided_laws.proofs.Lists.{empty_or_not}
use Rattle.cedar_decided_laws.proofs.Worlds.{sound_or_caused}

module _ (behavior : ActionBehavior) (extensions : List (List ℕ)) (F : Fragment) where
  abbrev Verdict : Type 0
  Verdict = SoundFragment behavior extensions F ⊎ ((e : Refusal) × FragmentCause behavior extensions F e)

  world_too : fragment_faults behavior F ≡ [] → Sound (world_of_fragment F extensions) ⊎ ((e : Refusal) × Cause (world_of_fragment F extensions) e) → Verdict
  world_too none (inl sound) = inl (record { faultless = none; sound = sound })
  world_too none (inr refused) = inr (refused.0, inr (none, refused.1))

  by_faults : (fragment_faults behavior F ≡ []) ⊎ ((e : Refusal) × IsFirst (fragment_faults behavior F) e) → Verdict
  by_faults (inl none) = world_too none (sound_or_caused (world_of_fragment F extensions))
  by_faults (inr first) = inr (first.0, inl first.1)

  -- a fragment is sound, or there is a cause why it isn't
  pub fragment_sound_or_caused : Verdict
  fragment_sound_or_caused = by_faults (empty_or_not (fragment_faults behavior F))
