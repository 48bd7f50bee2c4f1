-- SPDX-License-Identifier: Apache-2.0
-- A table that has what each common type unfolds to.
use Rattle.std.specs.Prelude.{◌≡◌, ℕ, List, [], Option, Some, None, slice_index_or, map}
use Rattle.cedar_data.specs.Firsts.{AllPass}
use Rattle.cedar_names.specs.Extensions.{extension_words}
use Rattle.cedar_names.specs.declared.extensions.Extensions.{Extensions}
use Rattle.cedar_schema_error.specs.FullNames.{FullName}
use Rattle.cedar_schema_error.specs.Refusals.{UsePlace}
use Rattle.cedar_schema_error.specs.Told.{told_use}
use Rattle.cedar_schema_error.specs.declared.use_place.UsePlace as code
use Rattle.cedar_names.specs.of_text.Words.{has_word}
use Rattle.cedar_unfolding.specs.Faults.{faults}
use Rattle.cedar_unfold.specs.Finished.{within}
use Rattle.cedar_unfolding.specs.Meanings.{Meanings, definition_of, full_meanings}
use Rattle.cedar_unfolding.specs.Resolved.{Resolved}
use Rattle.cedar_unfolding.specs.UnfoldPhases.{Job, full_job}
use Rattle.cedar_unfolding.specs.Unfolds.{Unfolds}
use Rattle.cedar_unfolding.specs.Written.{Written, nodes}

-- definitions of common types by name, and uses by place
abbrev pub Definitions : Type 0
Definitions = List (FullName × Written FullName)

abbrev pub UsesOf : Type 0
UsesOf = List (UsePlace × Written FullName)

-- what full names mean with these definitions and these extension types
abbrev pub meanings_of : Definitions → Extensions → Meanings FullName
meanings_of definitions extensions = full_meanings definitions (has_word (extension_words extensions))

-- what is to be unfolded with them
abbrev pub job_of : Definitions → UsesOf → Extensions → Job FullName
job_of definitions uses extensions = full_job definitions uses (has_word (extension_words extensions))

-- the entries of a map by what is told of their places, with what f gives of each value
abbrev pub by_place : {V W : Type 0} → (V → W) → List (code.UsePlace × V) → List (UsePlace × W)
by_place f es = map (λ e. (told_use e.0, f e.1)) es

module _ (m : Meanings FullName) where
  -- no fault stands in a definition
  abbrev pub AreFaultless : Type 0
  AreFaultless = AllPass (λ c. faults m c.1 ≡ []) m.common_types

  module _ (table : FullName → Option (Option Resolved)) where
    -- the common type is defined, and the table has what it unfolds to
    pub record IsDone (name : FullName) : Type 0 where
      pub definition : Written FullName
      pub defined : definition_of m name ≡ Some definition
      pub ty : Resolved
      pub unfolds : Unfolds m definition ty
      pub is : table name ≡ Some (within ty)

    -- the table has what each common type unfolds to, and nothing else
    pub record IsFull : Type 0 where
      pub done : (name : FullName) (t : Written FullName) → definition_of m name ≡ Some t → IsDone name
      pub missing : (name : FullName) → definition_of m name ≡ None → table name ≡ None

-- how many types are written in the definition at a position
abbrev pub nodes_at : Definitions → ℕ → ℕ
nodes_at definitions i = slice_index_or (map (λ c. nodes c.1) definitions) i 0
