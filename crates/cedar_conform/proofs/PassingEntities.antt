-- SPDX-License-Identifier: Apache-2.0
-- What a call tells of a list of entities is what the list is.
use Rattle.std.proofs.Common.{Ok, Err}
use Rattle.std.specs.Prelude.{IfOk}
use Rattle.std.specs.declared.result.Result.{Result}
use Rattle.cedar_data.specs.Answers.{IfRefused}
use Rattle.cedar_data.specs.declared.memory.Failure.{Failure}
use Rattle.cedar_data.specs.declared.memory.Failure.TheVariants.{Refused, NoMemory}
use Rattle.serde_json.specs.Data.{Data}
use Rattle.cedar_checks.specs.of_world.Schemas.{Schema}
use Rattle.cedar_conform_fault.specs.declared.fault.Fault.{Fault}
use Rattle.cedar_conform.specs.Checks.{Tells, passed}
use Rattle.cedar_conform.specs.Entities.{AreEntities}
use Rattle.cedar_conform.specs.EntityChecks.{entities_check}
use Rattle.cedar_conform.proofs.EntityLaws.{entities-pass, pass-entities}
use Rattle.cedar_conform.proofs.Passing.{never-both}

pub told-entities : (S : Schema) (d : Data) (result : Result (Unit {0}) (Failure Fault)) → Tells (passed {T = Unit {0}}) result (entities_check S d) → IfOk result (λ u. AreEntities S d)
told-entities S d (Ok u) told = entities-pass S d told
told-entities S d (Err x) told = tt

pub told-no-entities : (S : Schema) (d : Data) (result : Result (Unit {0}) (Failure Fault)) → Tells (passed {T = Unit {0}}) result (entities_check S d) → IfRefused result (λ fault. AreEntities S d → ⊥)
told-no-entities S d (Ok u) told = tt
told-no-entities S d (Err (Refused fault)) told = λ are. never-both (entities_check S d) fault tt told (pass-entities S d are)
told-no-entities S d (Err NoMemory) told = tt

pub ruleset passing_entities = (told-entities, told-no-entities)
