-- SPDX-License-Identifier: Apache-2.0
-- How what phases say is put together.
use Rattle.std.proofs.Common.{◌++◌, List, [], ◌∷◌, inl, inr}
use Rattle.cedar_data.specs.Firsts.{AllPass, FirstRefused, IsLeast}
use Rattle.cedar_phases.specs.Holding.{AllPassed, OneRefuses, early_phases, later_phases}
use Rattle.cedar_schema_error.specs.FullNames.{Uid, uid_cmp}
use Rattle.cedar_schema_error.specs.Refusals.{Refusal}
use Rattle.cedar_sound.specs.Sound.{Cause, Passes, RefusesAt, Shadowing, Sound}
use Rattle.cedar_qualified.specs.of_world.Worlds.{World}

module _ {A E : Type 0} (P : A → Type 0) (F : A → E → Type 0) where
  -- refused among the first, or after they pass
  pub refused_first : (xs ys : List A) (e : E) → FirstRefused P F xs e → FirstRefused P F (xs ++ ys) e
  refused_first [] ys e r = absurd r
  refused_first (x ∷ xs) ys e (inl r) = inl r
  refused_first (x ∷ xs) ys e (inr r) = inr (r.0, refused_first xs ys e r.1)

  pub refused_later : (xs ys : List A) (e : E) → AllPass P xs → FirstRefused P F ys e → FirstRefused P F (xs ++ ys) e
  refused_later [] ys e p r = r
  refused_later (x ∷ xs) ys e p r = inr (p.0, refused_later xs ys e p.1 r)

-- the least of what has one property is that of what has another, where both say the same
pub least_there : (P Q : Uid → Type 0) → ((u : Uid) → P u → Q u) → ((u : Uid) → Q u → P u) → (u : Uid) → IsLeast uid_cmp P u → IsLeast uid_cmp Q u
least_there P Q f g u l = record { holds = f u l.holds; least = λ y q. l.least y (g y q) }

module _ (W : World) where
  -- all phases pass
  pub sound_by : Passes W Shadowing → AllPassed W early_phases → AllPassed W later_phases → Sound W
  unfolding Sound
  sound_by shadowing early later = (shadowing, (early.0, (early.1.0, later)))

  -- the first refuses, or one of the others
  pub cause_first : (e : Refusal) → RefusesAt W Shadowing e → Cause W e
  unfolding Cause
  cause_first e r = inl r

  pub cause_later : (e : Refusal) → Passes W Shadowing → OneRefuses W (early_phases ++ later_phases) e → Cause W e
  unfolding Cause
  cause_later e shadowing r = inr (shadowing, r)
