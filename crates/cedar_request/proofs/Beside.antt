-- SPDX-License-Identifier: Apache-2.0
-- What a call tells of a value that is read beside another.
use Rattle.std.proofs.Common.{subst}
use Rattle.std.specs.declared.result.Result.{Result}
use Rattle.std.specs.declared.result.Result.TheVariants.{Ok, Err}
use Rattle.cedar_data.specs.declared.memory.Failure.{Failure}
use Rattle.cedar_conform_fault.specs.declared.fault.Fault.{Fault}
use Rattle.cedar_conform.specs.Checks.{Check, Tells}
use Rattle.cedar_request.specs.PartViews.{IsBeside}

pub Tells-beside : {T U V : Type 0} (seen : U → V) (first : T) (read : Result U (Failure Fault)) (result : Result (T × U) (Failure Fault)) (check : Check V) → Tells seen read check → IsBeside first read result → Tells (λ (both : T × U). seen both.1) result check
Tells-beside seen first read (Ok both) check told is = subst (λ r. Tells seen r check) is.1 told
Tells-beside seen first read (Err x) check told is = subst (λ r. Tells seen r check) is told

pub ruleset besides = (Tells-beside)
