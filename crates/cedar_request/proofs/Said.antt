-- SPDX-License-Identifier: Apache-2.0
-- What a call says: of a part that is a value, and of steps one after another.
use Rattle.std.proofs.Common.{◌≡◌, sym, ap, ◌∙◌, subst}
use Rattle.std.specs.Prelude.{IfOk}
use Rattle.std.specs.declared.result.Result.{Result}
use Rattle.std.specs.declared.result.Result.TheVariants.{Ok, Err}
use Rattle.cedar_data.specs.Answers.{IfRefused}
use Rattle.cedar_data.specs.declared.memory.Failure.{Failure}
use Rattle.cedar_data.specs.declared.memory.Failure.TheVariants.{Refused, NoMemory}
use Rattle.cedar_written.specs.Answers.{and_then}
use Rattle.cedar_conform_fault.specs.declared.fault.Fault.{Fault}
use Rattle.cedar_conform.specs.Checks.{Check, Tells}
use Rattle.cedar_request.specs.RequestChecks.{IsOf, RequestCheck, Says, of_value}
use Rattle.cedar_request.specs.RequestFlaws.{request_flaw}
use Rattle.cedar_request.specs.declared.fault.RequestFault.{RequestFault}

-- a check that is equal says the same
pub Says-at : {T V : Type 0} (seen : T → V) (result : Result T (Failure RequestFault)) {check same : RequestCheck V} → check ≡ same → Says seen result same → Says seen result check
Says-at seen result is said = subst (λ c. Says seen result c) (sym is) said

-- ---- of a value

ok-value : {T V : Type 0} (seen : T → V) (read : Result T (Failure Fault)) (check : Check V) (t : T) → Tells seen read check → read ≡ Ok t → of_value check ≡ Ok (seen t)
ok-value seen read check t told is = ap of_value (subst (λ r. Tells seen r check) is told)

refused-value : {T V : Type 0} (seen : T → V) (read : Result T (Failure Fault)) (check : Check V) (fault : RequestFault) → Tells seen read check → IsOf read fault → of_value check ≡ Err (request_flaw fault)
refused-value seen (Ok t) check fault told is = absurd is
refused-value seen (Err (Refused inner)) check fault told is = ap of_value told ∙ ap Err (sym is)
refused-value seen (Err NoMemory) check fault told is = absurd is

pub Says-value : {T V : Type 0} (seen : T → V) (read : Result T (Failure Fault)) (result : Result T (Failure RequestFault)) (check : Check V) → Tells seen read check → IfOk result (λ t. read ≡ Ok t) → IfRefused result (IsOf read) → Says seen result (of_value check)
Says-value seen read (Ok t) check told ok refused = ok-value seen read check t told ok
Says-value seen read (Err (Refused fault)) check told ok refused = refused-value seen read check fault told refused
Says-value seen read (Err NoMemory) check told ok refused = tt

-- ---- one after another

-- a refusal of the first step
pub Says-refused : {A V T U : Type 0} (seen : T → A) (seen' : U → V) (x : Failure RequestFault) (part : RequestCheck A) (more : A → RequestCheck V) → Says seen (Err x) part → Says seen' (Err x) (and_then part more)
Says-refused seen seen' (Refused fault) part more said = ap (λ p. and_then p more) said
Says-refused seen seen' NoMemory part more said = tt

-- behind a step that passes
pub Says-then : {A V T U : Type 0} (seen : T → A) (seen' : U → V) (t : T) (part : RequestCheck A) (more : A → RequestCheck V) (result : Result U (Failure RequestFault)) → Says seen (Ok t) part → Says seen' result (more (seen t)) → Says seen' result (and_then part more)
Says-then seen seen' t part more result said rest = Says-at seen' result (ap (λ p. and_then p more) said) rest

pub ruleset said = (Says-value, Says-refused, Says-then)
