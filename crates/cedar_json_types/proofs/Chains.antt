-- SPDX-License-Identifier: Apache-2.0
-- The first fault of a chain, and the fault of a call behind a key.
use Rattle.std.proofs.Common.{◌≡◌, ℕ, List, Option, Some, None, Result, Ok, Err, ap, ◌∙◌}
use Rattle.cedar_data.specs.declared.memory.Failure.{Failure}
use Rattle.cedar_data.specs.declared.memory.Failure.TheVariants.{Refused, NoMemory}
use Rattle.cedar_text.specs.Failures.{IfRefused}
use Rattle.cedar_json_fault.specs.declared.json_error.JsonDeserializationError.{JsonDeserializationError}
use Rattle.cedar_json_types.specs.Faults.{Fault, first, under, refusal}

-- after a step with no fault, the rest decides
pub first-skip : (a b r : Fault) → a ≡ None → b ≡ r → first a b ≡ r
first-skip a b r none rest = ap (λ o. first o b) none ∙ rest

-- a fault of the first step
pub first-here : (a b : Fault) (e : JsonDeserializationError) → a ≡ Some e → first a b ≡ Some e
first-here a b e some = ap (λ o. first o b) some

-- behind a key nothing is wrong where nothing is
pub under-none : (k : List ℕ) (f : Fault) → f ≡ None → under k f ≡ None
under-none k f none = ap (under k) none
