-- SPDX-License-Identifier: Apache-2.0
-- What a call tells is what the value is.
use Rattle.std.proofs.Common.{◌≡◌, Ok, Err, sym, ◌∙◌}
use Rattle.std.specs.Prelude.{IfOk}
use Rattle.std.specs.declared.result.Result.{Result}
use Rattle.cedar_data.specs.Answers.{IfRefused}
use Rattle.cedar_data.specs.declared.memory.Failure.{Failure}
use Rattle.cedar_data.specs.declared.memory.Failure.TheVariants.{Refused, NoMemory}
use Rattle.serde_json.specs.Data.{Data}
use Rattle.cedar_names.specs.declared.entity_uid.EntityUID.{EntityUID}
use Rattle.cedar_checks.specs.of_world.Schemas.{Schema}
use Rattle.cedar_schema_error.specs.FullNames.{Uid, uid_in}
use Rattle.cedar_unfold.specs.Resolved.{Resolved}
use Rattle.cedar_conform_fault.specs.Flaws.{misfit}
use Rattle.cedar_conform_fault.specs.declared.fault.Fault.{Fault}
use Rattle.cedar_conform.specs.Checks.{Check, Tells, passed}
use Rattle.cedar_conform.specs.Fits.{Fits}
use Rattle.cedar_conform.specs.References.{IsReference}
use Rattle.cedar_conform.specs.ValueChecks.{reference_check, value_check}
use Rattle.cedar_conform.proofs.ReferenceLaws.{pass-reference, reference-pass}
use Rattle.cedar_conform.proofs.ValueLaws.{pass-value, value-pass}

-- a check that tells a misfit doesn't pass
pub never-both : {V : Type 0} (check : Check V) (fault : Fault) (v : V) → check ≡ Err (misfit fault) → check ≡ Ok v → ⊥
never-both check fault v refused passes = different (sym refused ∙ passes)
  where
    different : Err (misfit fault) ≡ Ok v → ⊥
    different is = absurd (cc)

pub told-refers : (d : Data) (result : Result EntityUID (Failure Fault)) → Tells uid_in result (reference_check d) → IfOk result (λ uid. IsReference d (uid_in uid))
told-refers d (Ok uid) told = reference-pass d (uid_in uid) told
told-refers d (Err x) told = tt

pub told-none : (d : Data) (result : Result EntityUID (Failure Fault)) → Tells uid_in result (reference_check d) → IfRefused result (λ fault. (u : Uid) → IsReference d u → ⊥)
told-none d (Ok uid) told = tt
told-none d (Err (Refused fault)) told = λ u is. never-both (reference_check d) fault u told (pass-reference d u is)
told-none d (Err NoMemory) told = tt

pub told-fits : (S : Schema) (T : Resolved) (d : Data) (result : Result (Unit {0}) (Failure Fault)) → Tells (passed {T = Unit {0}}) result (value_check S T d) → IfOk result (λ u. Fits S T d)
told-fits S T d (Ok u) told = value-pass S T d told
told-fits S T d (Err x) told = tt

pub told-unfit : (S : Schema) (T : Resolved) (d : Data) (result : Result (Unit {0}) (Failure Fault)) → Tells (passed {T = Unit {0}}) result (value_check S T d) → IfRefused result (λ fault. Fits S T d → ⊥)
told-unfit S T d (Ok u) told = tt
told-unfit S T d (Err (Refused fault)) told = λ fits. never-both (value_check S T d) fault tt told (pass-value S T d fits)
told-unfit S T d (Err NoMemory) told = tt

pub ruleset passing = (told-refers, told-none, told-fits, told-unfit)
