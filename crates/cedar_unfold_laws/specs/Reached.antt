-- SPDX-License-Identifier: Apache-2.0
-- The common types that a written type refers to, and what is asked of them and of it.
use Rattle.std.specs.Prelude.{◌≡◌, ◌⊎◌, IsTrue, [], Some}
use Rattle.std.specs.Option.{is_some}
use Rattle.cedar_closure.specs.Chains.{Reaches}
use Rattle.cedar_data.specs.Firsts.{AllPass, SomePasses}
use Rattle.cedar_schema_error.specs.FullNames.{FullName}
use Rattle.cedar_unfold.specs.Faults.{faults}
use Rattle.cedar_unfold.specs.Meanings.{Meanings, definition_of, is_common}
use Rattle.cedar_unfold.specs.Resolved.{Resolved}
use Rattle.cedar_unfold.specs.UnfoldPhases.{IsCircular, Refers}
use Rattle.cedar_unfold.specs.Unfolds.{Unfolds}
use Rattle.cedar_unfold.specs.Written.{Written, common_references, references}

module _ {N : Type 0} (m : Meanings N) where
  -- the type holds a reference to the common type of this name
  pub record Holds (t : Written N) (name : FullName) : Type 0 where
    pub refers : SomePasses (λ r. m.target r ≡ Some name) (common_references t)
    pub common : IsTrue (is_common m name)

  -- it refers to the common type, at once or through definitions
  abbrev pub RefersTo : Written N → FullName → Type 0
  RefersTo t name = Holds t name ⊎ ((first : FullName) × Holds t first × Reaches (Refers m) first name)

  -- no common type that it refers to reaches itself
  abbrev pub RefersToNoCycle : Written N → Type 0
  RefersToNoCycle t = (name : FullName) → RefersTo t name → IsCircular m name → ⊥

  -- each reference of the type has a target, and no fault stands in it
  pub record IsFlawless (t : Written N) : Type 0 where
    pub targeted : AllPass (λ r. IsTrue (is_some (m.target r))) (references t)
    pub faultless : faults m t ≡ []

  -- so is the definition of each common type that the type refers to
  abbrev pub RefersToFlawless : Written N → Type 0
  RefersToFlawless t =
      (name : FullName) (definition : Written N) → RefersTo t name → definition_of m name ≡ Some definition → IsFlawless definition

  -- the type unfolds
  abbrev pub DoesUnfold : Written N → Type 0
  DoesUnfold t = (T : Resolved) × Unfolds m t T
