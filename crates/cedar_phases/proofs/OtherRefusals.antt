-- SPDX-License-Identifier: Apache-2.0
-- The phases but the one on references refuse for other things than references that mean nothing.
use Rattle.std.proofs.Common.{◌≡◌, ℕ, Bool, true, false, List, [], ◌∷◌, Option, Some, None, inl, inr, refl, ap, ◌∙◌, sym}
use Rattle.cedar_data.specs.Firsts.{AllPass, FirstRefused, IsFirst}
use Rattle.cedar_names.specs.Components.{has_cedar}
use Rattle.cedar_phases.specs.Holding.{OneRefuses, later_phases}
use Rattle.cedar_phases.specs.Kept.{is_missing}
use Rattle.cedar_sound.specs.Sound.{RefusesAt, Shadowing, Unfolding}
use Rattle.cedar_sound.specs.of_duplicates.Duplicates.{Action, CommonType, Declared, EntityType, duplicate}
use Rattle.cedar_sound.specs.of_shadowing.Shadowing.{ActionShadows, ShadowPasses, ShadowPhase, ShadowRefuses, TypeShadows, shadow_phases}
use Rattle.cedar_sound.proofs.NothingMissed.{pass_append}
use Rattle.cedar_schema_error.specs.FullNames.{FullName}
use Rattle.cedar_schema_error.specs.Refusals.{Refusal}
use Rattle.cedar_unfold.specs.Faults.{attribute_faults_by, common_fault, either_fault, entity_fault, extension_fault, faults, faults_by, of_target, open_fault, reserved_fault}
use Rattle.cedar_unfold.specs.Meanings.{Meanings, is_common}
use Rattle.cedar_unfold.specs.UnfoldPhases.{CommonCycles, CommonDepths, CommonFaults, Job, UnfoldPasses, UnfoldPhase, UnfoldRefuses, Uses, UsePasses, UseRefuses, UnfoldsPast, UnfoldsWithin, WhyNotUnfoldable, unfold_phases}
use Rattle.cedar_unfold.specs.Written.{Written, WrittenAttributes, Boolean, Long, String, Extension, Set, Record, Entity, EntityOrCommon, CommonTypeRef, no_attributes, attribute}
use Rattle.cedar_qualified.specs.of_world.Worlds.{World, own, job}

-- a refusal for something else
abbrev pub IsOther : Refusal → Type 0
IsOther e = is_missing e ≡ false

-- no test is both
pub true-false : (b : Bool) → b ≡ true → b ≡ false → ⊥
true-false true is isnt = cc
true-false false is isnt = cc

-- ---- of lists

pub of_refused : {A E : Type 0} (P : A → Type 0) (F : A → E → Type 0) (Q : E → Type 0) → ((x : A) (e : E) → F x e → Q e) → (xs : List A) (e : E) → FirstRefused P F xs e → Q e
of_refused P F Q each [] e r = absurd r
of_refused P F Q each (x ∷ xs) e (inl r) = each x e r
of_refused P F Q each (x ∷ xs) e (inr r) = of_refused P F Q each xs e r.1

of_first : (xs : List Refusal) (e : Refusal) → AllPass IsOther xs → IsFirst xs e → IsOther e
of_first [] e all first = absurd (cc)
of_first (x ∷ xs) e all first = let same : x ≡ e = cc in sym (ap is_missing same) ∙ all.0

-- ---- faults of types

open_other : (b : Bool) → AllPass IsOther (open_fault b)
open_other true = (refl, tt)
open_other false = tt

extension_other : (b : Bool) (e : List ℕ) → AllPass IsOther (extension_fault b e)
extension_other true e = tt
extension_other false e = (refl, tt)

reserved_other : (b : Bool) (name : FullName) → AllPass IsOther (reserved_fault b name)
reserved_other true name = (refl, tt)
reserved_other false name = tt

entity_other : (name : FullName) → AllPass IsOther (entity_fault name)
entity_other name = reserved_other (has_cedar name) name

either_other : (b : Bool) (name : FullName) → AllPass IsOther (either_fault b name)
either_other true name = tt
either_other false name = entity_other name

common_other : (b : Bool) (name : FullName) → AllPass IsOther (common_fault b name)
common_other true name = tt
common_other false name = (refl, tt)

target_other : (f : FullName → List Refusal) → ((name : FullName) → AllPass IsOther (f name)) → (o : Option FullName) → AllPass IsOther (of_target f o)
target_other f each None = tt
target_other f each (Some name) = each name

module _ {N : Type 0} (m : Meanings N) where
  mutual
    faults_other : (t : Written N) → AllPass IsOther (faults_by m.target (is_common m) m.is_extension t)
    faults_other Boolean = tt
    faults_other Long = tt
    faults_other String = tt
    faults_other (Extension e) = extension_other (m.is_extension e) e
    faults_other (Set element) = faults_other element
    faults_other (Record parts is_open) = pass_append IsOther (open_fault is_open) (attribute_faults_by m.target (is_common m) m.is_extension parts) (open_other is_open) (attributes_other parts)
    faults_other (Entity r) = target_other entity_fault entity_other (m.target r)
    faults_other (EntityOrCommon r) = target_other (λ name. either_fault (is_common m name) name) (λ name. either_other (is_common m name) name) (m.target r)
    faults_other (CommonTypeRef r) = target_other (λ name. common_fault (is_common m name) name) (λ name. common_other (is_common m name) name) (m.target r)

    attributes_other : (ws : WrittenAttributes N) → AllPass IsOther (attribute_faults_by m.target (is_common m) m.is_extension ws)
    attributes_other no_attributes = tt
    attributes_other (attribute name required ty others) = pass_append IsOther (faults_by m.target (is_common m) m.is_extension ty) (attribute_faults_by m.target (is_common m) m.is_extension others) (faults_other ty) (attributes_other others)

  fault_other : (t : Written N) (e : Refusal) → IsFirst (faults m t) e → IsOther e
  fault_other t e first = of_first (faults m t) e (faults_other t) first

-- ---- unfolding

module _ {N : Type 0} (work : Job N) where
  unfold_other : (p : UnfoldPhase) (e : Refusal) → UnfoldRefuses work p e → IsOther e
  unfold_other CommonCycles e r = ap is_missing r.1
  unfold_other CommonFaults e r = of_refused (λ c. faults work.meanings c.1 ≡ []) (λ c. IsFirst (faults work.meanings c.1)) IsOther (λ c e first. fault_other work.meanings c.1 e first) work.meanings.common_types e r
  unfold_other CommonDepths e r = of_refused (λ c. UnfoldsWithin work.meanings c.1) (λ c e. UnfoldsPast work.meanings c.1 × (e ≡ _)) IsOther (λ c e past. ap is_missing past.1) work.meanings.common_types e r
  unfold_other Uses e r = of_refused (UsePasses work.meanings) (UseRefuses work.meanings) IsOther
      (λ u e r. elim r [ inl fault ↦ fault_other work.meanings u.1 e fault | inr later ↦ elim later [ inl deep ↦ ap is_missing deep.2 | inr misfit ↦ ap is_missing misfit.2 ] ])
      work.uses e r

-- ---- phases

duplicate_other : (d : Declared) → IsOther (duplicate d)
duplicate_other (CommonType name) = refl
duplicate_other (EntityType name) = refl
duplicate_other (Action uid) = refl

-- a full name that is declared twice
pub twice_other : (d : Declared) (e : Refusal) → e ≡ duplicate d → IsOther e
twice_other d e is = ap is_missing is ∙ duplicate_other d

module _ (W : World) where
  shadow_other : (p : ShadowPhase) (e : Refusal) → ShadowRefuses (own W) p e → IsOther e
  shadow_other TypeShadows e r = ap is_missing r.2
  shadow_other ActionShadows e r = ap is_missing r.2

  -- names that shadow others
  pub shadowing_other : (e : Refusal) → RefusesAt W Shadowing e → IsOther e
  shadowing_other e r = of_refused (ShadowPasses (own W)) (ShadowRefuses (own W)) IsOther shadow_other shadow_phases e r

  -- types that don't unfold
  unfolding_other : (e : Refusal) → RefusesAt W Unfolding e → IsOther e
  unfolding WhyNotUnfoldable
  unfolding_other e why = of_refused (UnfoldPasses (job W)) (UnfoldRefuses (job W)) IsOther (unfold_other (job W)) unfold_phases e why

  -- the phases after those on references and on names
  pub later_other : (e : Refusal) → OneRefuses W later_phases e → IsOther e
  later_other e (inl why) = unfolding_other e why
  later_other e (inr (_, inl r)) = ap is_missing r.1
  later_other e (inr (_, inr (_, inl r))) = ap is_missing r.2
  later_other e (inr (_, inr (_, inr r))) = absurd r.1
