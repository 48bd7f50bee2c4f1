-- SPDX-License-Identifier: Apache-2.0
-- What a request names, as code gathers it.
use Rattle.std.specs.Prelude.{◌≡◌}
use Rattle.std.specs.declared.result.Result.{Result}
use Rattle.std.specs.declared.result.Result.TheVariants.{Ok, Err}
use Rattle.serde_json.specs.View.{view}
use Rattle.cedar_schema_error.specs.FullNames.{uid_in}
use Rattle.cedar_request.specs.RequestChecks as checks
use Rattle.cedar_request.specs.declared.parts.Parts.{Parts}

abbrev pub parts_in : Parts → checks.Parts
parts_in parts = record { principal = uid_in parts.principal; action = uid_in parts.action; resource = uid_in parts.resource; context = view parts.context.now }

-- the result is the value beside what is read, or its refusal
abbrev pub IsBeside : {T U E : Type 0} → T → Result U E → Result (T × U) E → Type 0
IsBeside first read (Ok both) = (both.0 ≡ first) × (read ≡ Ok both.1)
IsBeside first read (Err e) = read ≡ Err e
