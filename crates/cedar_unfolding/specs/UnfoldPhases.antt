-- SPDX-License-Identifier: Apache-2.0
-- The phases of unfolding: what each asks, and how it refuses.
use Rattle.std.specs.Prelude.{◌≡◌, ◌⊎◌, ◌≤◌, ◌<◌, ℕ, Bool, IsTrue, List, [], ◌∷◌, Some}
use Rattle.std.specs.List.{AllZip}
use Rattle.cedar_types.specs.of_closure.Chains.{Reaches}
use Rattle.cedar_data.specs.Firsts.{AllPass, SomePasses, FirstRefused, IsFirst, IsLeast}
use Rattle.cedar_names.specs.Order.{words_cmp}
use Rattle.cedar_schema_error.specs.FullNames.{FullName}
use Rattle.cedar_unfolding.specs.Faults.{faults}
use Rattle.cedar_unfolding.specs.Meanings.{Meanings, definition_of, is_common, full_meanings}
use Rattle.cedar_schema_error.specs.Refusals.{UsePlace, Shape, Tags, Context, CommonType, Place, Refusal, CycleInCommonTypeReferences, TooDeep, ContextOrShapeNotRecord}
use Rattle.cedar_unfolding.specs.Resolved.{Resolved, nest, deepest, is_record}
use Rattle.cedar_unfolding.specs.Unfolds.{Unfolds}
use Rattle.cedar_unfolding.specs.Written.{Written, common_references}

module _ {N : Type 0} (m : Meanings N) where
  -- both are common types, and the definition of the first holds a reference to the second
  pub record Refers (name other : FullName) : Type 0 where
    pub definition : Written N
    pub defined : definition_of m name ≡ Some definition
    pub refers : SomePasses (λ r. m.target r ≡ Some other) (common_references definition)
    pub common : IsTrue (is_common m other)

  -- the common type reaches itself
  abbrev pub IsCircular : FullName → Type 0
  IsCircular name = Reaches Refers name name

  -- the type unfolds, and nests no deeper than a type may
  abbrev pub UnfoldsWithin : Written N → Type 0
  UnfoldsWithin t = (T : Resolved) × Unfolds m t T × (nest T ≤ deepest)

  -- the type unfolds, and nests deeper than a type may
  abbrev pub UnfoldsPast : Written N → Type 0
  UnfoldsPast t = (T : Resolved) × Unfolds m t T × (deepest < nest T)

-- what may stand at a place: a shape and a context are records
abbrev pub Fits : UsePlace → Resolved → Type 0
Fits (Shape name) T = IsTrue (is_record T)
Fits (Tags name) T = Unit {0}
Fits (Context uid) T = IsTrue (is_record T)

module _ {N : Type 0} (m : Meanings N) where
  -- a use has no fault, unfolds within what a type may nest, and fits its place
  pub record UsePasses (use_of : UsePlace × Written N) : Type 0 where
    pub faultless : faults m use_of.1 ≡ []
    pub resolved : Resolved
    pub unfolds : Unfolds m use_of.1 resolved
    pub within : nest resolved ≤ deepest
    pub fits : Fits use_of.0 resolved

  -- a use unfolds within what a type may nest, and doesn't fit its place
  pub record Misfits (use_of : UsePlace × Written N) : Type 0 where
    pub resolved : Resolved
    pub unfolds : Unfolds m use_of.1 resolved
    pub within : nest resolved ≤ deepest
    pub misfit : Fits use_of.0 resolved → ⊥

  -- how a use is refused: with its first fault; where it has none, as too deep, or as no record where one must stand
  abbrev pub UseRefuses : UsePlace × Written N → Refusal → Type 0
  UseRefuses u e =
      IsFirst (faults m u.1) e
      ⊎ ((faults m u.1 ≡ []) × UnfoldsPast m u.1 × (e ≡ TooDeep (Place u.0)))
      ⊎ ((faults m u.1 ≡ []) × Misfits u × (e ≡ ContextOrShapeNotRecord u.0))

-- what is to be unfolded: common types, by what names mean, and uses, each in its order
pub record Job (N : Type 0) : Type 0 where
  pub meanings : Meanings N
  pub uses : List (UsePlace × Written N)

-- common types and uses over full names
abbrev pub full_job : List (FullName × Written FullName) → List (UsePlace × Written FullName) → (List ℕ → Bool) → Job FullName
full_job common_types uses is_extension = record { meanings = full_meanings common_types is_extension; uses = uses }

-- the phases
pub data UnfoldPhase : Type 0 where
  CommonCycles : UnfoldPhase
  CommonFaults : UnfoldPhase
  CommonDepths : UnfoldPhase
  Uses : UnfoldPhase

-- their order
abbrev pub unfold_phases : List UnfoldPhase
unfold_phases = CommonCycles ∷ CommonFaults ∷ CommonDepths ∷ Uses ∷ []

module _ {N : Type 0} (job : Job N) where
  -- what a phase asks
  abbrev pub UnfoldPasses : UnfoldPhase → Type 0
  -- no common type reaches itself
  UnfoldPasses CommonCycles = (name : FullName) → IsCircular job.meanings name → ⊥
  -- no fault stands in a definition
  UnfoldPasses CommonFaults = AllPass (λ c. faults job.meanings c.1 ≡ []) job.meanings.common_types
  -- each definition unfolds within what a type may nest
  UnfoldPasses CommonDepths = AllPass (λ c. UnfoldsWithin job.meanings c.1) job.meanings.common_types
  -- each use passes
  UnfoldPasses Uses = AllPass (UsePasses job.meanings) job.uses

  -- how a phase refuses
  abbrev pub UnfoldRefuses : UnfoldPhase → Refusal → Type 0
  -- with the least common type that reaches itself
  UnfoldRefuses CommonCycles e = (name : FullName) × (e ≡ CycleInCommonTypeReferences name) × IsLeast words_cmp (IsCircular job.meanings) name
  -- with the first fault of the first definition that has one
  UnfoldRefuses CommonFaults e = FirstRefused (λ c. faults job.meanings c.1 ≡ []) (λ c. IsFirst (faults job.meanings c.1)) job.meanings.common_types e
  -- with the first common type that is too deep
  UnfoldRefuses CommonDepths e =
      FirstRefused (λ c. UnfoldsWithin job.meanings c.1) (λ c e. UnfoldsPast job.meanings c.1 × (e ≡ TooDeep (CommonType c.0))) job.meanings.common_types e
  -- as its first use that is refused
  UnfoldRefuses Uses e = FirstRefused (UsePasses job.meanings) (UseRefuses job.meanings) job.uses e

  -- the job can be done: each phase passes
  unfoldable pub Unfoldable : Type 0
  Unfoldable = AllPass UnfoldPasses unfold_phases

  -- why it can't: a phase refuses it, and the earlier ones pass
  unfoldable pub WhyNotUnfoldable : Refusal → Type 0
  WhyNotUnfoldable e = FirstRefused UnfoldPasses UnfoldRefuses unfold_phases e

  -- under the same key, what the type unfolds to
  abbrev pub UnfoldsAt : {K : Type 0} → K × Written N → K × Resolved → Type 0
  UnfoldsAt written made = (made.0 ≡ written.0) × Unfolds job.meanings written.1 made.1

  -- the tables of what common types and uses unfold to
  pub record IsUnfolded (commons : List (FullName × Resolved)) (uses : List (UsePlace × Resolved)) : Type 0 where
    pub commons_are : AllZip UnfoldsAt job.meanings.common_types commons
    pub uses_are : AllZip UnfoldsAt job.uses uses
