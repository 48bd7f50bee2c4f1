-- SPDX-License-Identifier: Apache-2.0
-- What parts of the work ask and give.
use Rattle.std.specs.Prelude.{◌≡◌, ◌<◌, ◌≤◌, ◌⊎◌, ℕ, List, [], Option, Some, None, slice_index_or}
use Rattle.cedar_names.specs.declared.extensions.Extensions.{Extensions}
use Rattle.cedar_schema_error.specs.FullNames.{FullName}
use Rattle.cedar_schema_error.specs.Refusals.{CommonType, CycleInCommonTypeReferences, Refusal, TooDeep, UsePlace}
use Rattle.cedar_sorting.specs.declared.sort.Sorting.{Sorting}
use Rattle.cedar_sorting.specs.declared.sort.Sorting.TheVariants.{Order, Cycle}
use Rattle.cedar_unfolding.specs.Faults.{faults}
use Rattle.cedar_unfold.specs.Finished.{common_of}
use Rattle.cedar_unfold.specs.Full.{Definitions, job_of}
use Rattle.cedar_unfolding.specs.Meanings.{Meanings}
use Rattle.cedar_unfolding.specs.Resolved.{Resolved, nest, deepest}
use Rattle.cedar_unfolding.specs.UnfoldPhases.{CommonCycles, CommonFaults, Fits, UnfoldPasses, UnfoldRefuses}
use Rattle.cedar_unfolding.specs.Unfolds.{Unfolds}
use Rattle.cedar_unfolding.specs.Written.{Written}

module _ (m : Meanings FullName) where
  -- a use passes, and unfolds to this type
  pub record PassesAs (use_of : UsePlace × Written FullName) (T : Resolved) : Type 0 where
    pub faultless : faults m use_of.1 ≡ []
    pub unfolds : Unfolds m use_of.1 T
    pub within : nest T ≤ deepest
    pub fits : Fits use_of.0 T

  -- under the same place, a use that passes, and what it unfolds to
  abbrev pub GivesUse : UsePlace × Written FullName → UsePlace × Resolved → Type 0
  GivesUse use_of made = (made.0 ≡ use_of.0) × PassesAs use_of made.1

module _ (definitions : Definitions) (extensions : Extensions) where
  -- no common type reaches itself, and no definition has a fault
  abbrev pub DefinitionsPass : Type 0
  DefinitionsPass = UnfoldPasses (job_of definitions [] extensions) CommonCycles × UnfoldPasses (job_of definitions [] extensions) CommonFaults

  -- one of the two is refused
  abbrev pub DefinitionsRefuse : Refusal → Type 0
  DefinitionsRefuse e =
      UnfoldRefuses (job_of definitions [] extensions) CommonCycles e
      ⊎ (UnfoldPasses (job_of definitions [] extensions) CommonCycles × UnfoldRefuses (job_of definitions [] extensions) CommonFaults e)

module _ (table : FullName → Option (Option Resolved)) where
  -- under the same name, the type that the table has of it
  abbrev pub HasType : FullName → FullName × Resolved → Type 0
  HasType name made = (made.0 ≡ name) × (common_of (table name) ≡ Some made.1)

  -- the table has a type of the name
  abbrev pub HasSome : FullName → Type 0
  HasSome name = (T : Resolved) × (common_of (table name) ≡ Some T)

  -- it has none, which is told as too deep
  abbrev pub LacksType : FullName → Refusal → Type 0
  LacksType name e = (common_of (table name) ≡ None) × (e ≡ TooDeep (CommonType name))

-- a position that is told to reach itself is one of so many
abbrev pub IsCycleWithin : ℕ → Sorting → Type 0
IsCycleWithin count (Order order) = Unit {0}
IsCycleWithin count (Cycle least) = least < count

-- what is told of a sorting and of a fault: the name that reaches itself, else the fault
abbrev pub TellsSorting : List FullName → Sorting → Option Refusal → Refusal → Type 0
TellsSorting names (Order order) fault e = fault ≡ Some e
TellsSorting names (Cycle least) fault e = e ≡ CycleInCommonTypeReferences (slice_index_or names least [])
