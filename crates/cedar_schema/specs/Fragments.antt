-- SPDX-License-Identifier: Apache-2.0
-- Which fragments denote a schema, and why another denotes none.
use Rattle.std.specs.Prelude.{◌≡◌, ◌⊎◌, ℕ, List, [], ◌∷◌, codes, None}
use Rattle.cedar_fragment_world.specs.of_convert_fragment.Fragments.{Definition, Fragment}
use Rattle.cedar_data.specs.Firsts.{IsFirst}
use Rattle.cedar_fragment_world.specs.FragmentFaults.{fragment_faults}
use Rattle.cedar_fragment_world.specs.FragmentWorlds.{world_of_fragment}
use Rattle.cedar_schema_error.specs.Refusals.{Refusal}
use Rattle.cedar_schema_error.specs.declared.action_behavior.ActionBehavior.{ActionBehavior}
use Rattle.cedar_phases.specs.Sound.{Cause, Sound}

-- the words of all extension types that there are
abbrev pub all_extensions : List (List ℕ)
all_extensions = codes "datetime" ∷ codes "decimal" ∷ codes "duration" ∷ codes "ipaddr" ∷ []

-- the fragment of one namespace, which has no name
abbrev pub unnamed : Definition → Fragment
unnamed d = (None, d) ∷ []

-- a fragment is sound: its definitions have no fault, and its world is sound
pub record SoundFragment (behavior : ActionBehavior) (extensions : List (List ℕ)) (F : Fragment) : Type 0 where
  pub faultless : fragment_faults behavior F ≡ []
  pub sound : Sound (world_of_fragment F extensions)

-- why it isn't: the first fault of its definitions; where they have none, what its world is refused for
abbrev pub FragmentCause : ActionBehavior → List (List ℕ) → Fragment → Refusal → Type 0
FragmentCause behavior extensions F e =
    IsFirst (fragment_faults behavior F) e ⊎ ((fragment_faults behavior F ≡ []) × Cause (world_of_fragment F extensions) e)
