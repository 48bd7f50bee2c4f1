-- SPDX-License-Identifier: Apache-2.0
-- The refusal of two parts in turn.
use Rattle.std.specs.Prelude.{◌≡◌, ◌⊎◌}
use Rattle.std.specs.declared.result.Result.{Result}
use Rattle.std.specs.declared.result.Result.TheVariants.{Ok, Err}

-- the refusal is that of the first part, or else that of the second
abbrev pub FirstRefusal : {A B E : Type 0} → Result A E → Result B E → E → Type 0
FirstRefusal {A} first second e = (first ≡ Err e) ⊎ ((a : A) × ((first ≡ Ok a) × (second ≡ Err e)))
