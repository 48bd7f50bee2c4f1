-- SPDX-License-Identifier: Apache-2.0
-- What a call tells of two schemas is what they are.
use Rattle.std.proofs.Common.{◌≡◌, Ok, Err, sym, ◌∙◌}
use Rattle.std.specs.Prelude.{IfOk}
use Rattle.std.specs.declared.result.Result.{Result}
use Rattle.cedar_data.specs.Answers.{IfRefused}
use Rattle.cedar_data.specs.declared.memory.Failure.{Failure}
use Rattle.cedar_data.specs.declared.memory.Failure.TheVariants.{Refused, NoMemory}
use Rattle.cedar_checks.specs.of_world.Schemas.{Schema}
use Rattle.cedar_compat.specs.BreakChecks.{schema_check}
use Rattle.cedar_compat.specs.Changes.{TypeBreak, type_break}
use Rattle.cedar_compat.specs.Checks.{CheckOf, Tells}
use Rattle.cedar_compat.specs.Compatible.{Compatible}
use Rattle.cedar_compat.specs.declared.fault.CompatFault.{CompatFault}
use Rattle.cedar_compat.proofs.CompatibleLaws.{pass-schema, schema-pass}

-- a check that tells a break doesn't pass
never-both : (check : CheckOf TypeBreak) (b : TypeBreak) → check ≡ Err b → check ≡ Ok tt → ⊥
never-both check b refused passes = different (sym refused ∙ passes)
  where
    different : ◌≡◌ {A = CheckOf TypeBreak} (Err b) (Ok tt) → ⊥
    different is = absurd (cc)

pub told-compatible : (S R : Schema) (result : Result (Unit {0}) (Failure CompatFault)) → Tells type_break result (schema_check S R) → IfOk result (λ u. Compatible S R)
told-compatible S R (Ok u) told = schema-pass S R told
told-compatible S R (Err x) told = tt

pub told-incompatible : (S R : Schema) (result : Result (Unit {0}) (Failure CompatFault)) → Tells type_break result (schema_check S R) → IfRefused result (λ fault. Compatible S R → ⊥)
told-incompatible S R (Ok u) told = tt
told-incompatible S R (Err (Refused fault)) told = λ stay. never-both (schema_check S R) (type_break fault) told (pass-schema S R stay)
told-incompatible S R (Err NoMemory) told = tt

pub ruleset passing = (told-compatible, told-incompatible)
