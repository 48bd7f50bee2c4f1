-- SPDX-License-Identifier: Apache-2.0
-- What a call says of a list of requests is what the list is.
use Rattle.std.proofs.Common.{◌≡◌, ℕ, List, Ok, Err, sym, ◌∙◌, Vec, Global}
use Rattle.std.specs.Prelude.{IfOk}
use Rattle.std.specs.declared.result.Result.{Result}
use Rattle.cedar_data.specs.Answers.{IfRefused}
use Rattle.cedar_data.specs.declared.memory.Failure.{Failure}
use Rattle.cedar_data.specs.declared.memory.Failure.TheVariants.{Refused, NoMemory}
use Rattle.cedar_conform.specs.of_checks.SchemaViews.{schema_in}
use Rattle.cedar_resolved.specs.declared.schema.ValidatorSchema.{ValidatorSchema}
use Rattle.serde_json.specs.Data.{Data}
use Rattle.cedar_request.proofs.Once.{EachOnce, ordered}
use Rattle.cedar_request.proofs.RequestLaws.{pass-requests, requests-pass}
use Rattle.cedar_request.specs.RequestChecks.{Says, requests_check}
use Rattle.cedar_request.specs.RequestFlaws.{RequestFlaw}
use Rattle.cedar_request.specs.Requests.{AreRequests}
use Rattle.cedar_request.specs.declared.fault.RequestFault.{RequestFault}

same-ok : (ms ns : List ℕ) → ◌≡◌ {A = Result (List ℕ) RequestFlaw} (Ok ms) (Ok ns) → ns ≡ ms
same-ok ms ns is = cc

never-both : (flaw : RequestFlaw) (ns : List ℕ) → ◌≡◌ {A = Result (List ℕ) RequestFlaw} (Err flaw) (Ok ns) → ⊥
never-both flaw ns is = absurd (cc)

module _ (V : ValidatorSchema) (d : Data) where
  pub said-requests : (result : Result (Vec ℕ Global) (Failure RequestFault)) → Says (λ numbers. numbers.items) result (requests_check (schema_in V) d) → IfOk result (λ numbers. AreRequests (schema_in V) d numbers.items)
  said-requests (Ok numbers) said = requests-pass (schema_in V) d numbers.items said
  said-requests (Err x) said = tt

  pub said-only : (result : Result (Vec ℕ Global) (Failure RequestFault)) → EachOnce V → Says (λ numbers. numbers.items) result (requests_check (schema_in V) d) → IfOk result (λ numbers. (ns : List ℕ) → AreRequests (schema_in V) d ns → ns ≡ numbers.items)
  said-only (Ok numbers) once said = λ ns are. same-ok numbers.items ns (sym said ∙ pass-requests (schema_in V) (ordered V once) d ns are)
  said-only (Err x) once said = tt

  pub said-none : (result : Result (Vec ℕ Global) (Failure RequestFault)) → EachOnce V → Says (λ numbers. numbers.items) result (requests_check (schema_in V) d) → IfRefused result (λ fault. (ns : List ℕ) → AreRequests (schema_in V) d ns → ⊥)
  said-none (Ok numbers) once said = tt
  said-none (Err (Refused fault)) once said = λ ns are. never-both _ ns (sym said ∙ pass-requests (schema_in V) (ordered V once) d ns are)
  said-none (Err NoMemory) once said = tt

pub ruleset passing_requests = (said-requests, said-only, said-none)
