-- SPDX-License-Identifier: Apache-2.0
use Rattle.std.specs.Prelude.{ℕ, List, Option}
use Rattle.cedar_json_fault.specs.declared.json_error.JsonDeserializationAdvice.{JsonDeserializationAdvice}
use Rattle.cedar_json_fault.specs.declared.json_error.JsonDeserializationError.{JsonDeserializationError}
use Rattle.cedar_json_fault.specs.declared.json_fault.JsonFault.{JsonFault}

-- the error of a fault behind these keys and places
abbrev pub json_error : JsonFault → List (List ℕ) → Option JsonDeserializationAdvice → JsonDeserializationError
json_error fault path advice = record { fault = fault; path = path; advice = advice }

-- the fault
abbrev pub fault_of : JsonDeserializationError → JsonFault
fault_of e = e.fault

-- the keys and places, the outermost first
abbrev pub path_of : JsonDeserializationError → List (List ℕ)
path_of e = e.path

-- what to do, if there is something to say
abbrev pub advice_of : JsonDeserializationError → Option JsonDeserializationAdvice
advice_of e = e.advice
