-- SPDX-License-Identifier: Apache-2.0
-- A check passes what is as it has to be, and tells what is wrong with anything else.
use Rattle.std.proofs.Common.{◌≡◌, ◌⊎◌, inl, inr, ℕ, List, Ok, Err, refl, sym, ◌∙◌}
use Rattle.std.specs.declared.result.Result.{Result}
use Rattle.serde_json.specs.Data.{Data}
use Rattle.cedar_checks.specs.of_world.Schemas.{Schema}
use Rattle.cedar_unfold.specs.Resolved.{Resolved}
use Rattle.cedar_conform_fault.specs.Flaws.{Misfit}
use Rattle.cedar_conform.specs.Entities.{AreEntities}
use Rattle.cedar_conform.specs.EntityChecks.{entities_check}
use Rattle.cedar_conform.specs.Fits.{Fits}
use Rattle.cedar_conform.specs.ValueChecks.{value_check}
use Rattle.cedar_conform.proofs.EntityLaws.{entities-pass, pass-entities}
use Rattle.cedar_conform.proofs.ValueLaws.{pass-value, value-pass}
use Rattle.cedar_request.specs.RequestChecks.{requests_check}
use Rattle.cedar_request.specs.RequestFlaws.{RequestFlaw}
use Rattle.cedar_request.specs.Requests.{AreRequests}
use Rattle.cedar_request.proofs.RequestLaws.{requests-pass}
use Rattle.cedar_compat.specs.BreakChecks.{schema_check}
use Rattle.cedar_compat.specs.Changes.{TypeBreak}
use Rattle.cedar_compat.specs.Compatible.{Compatible}
use Rattle.cedar_compat.proofs.CompatibleLaws.{pass-schema, schema-pass}

module _ {V E : Type 0} where
  -- what passes is as it has to be, or the check tells an error
  judged : (Is : V → Type 0) (check found : Result V E) → check ≡ found → ((v : V) → check ≡ Ok v → Is v) → ((v : V) × Is v) ⊎ ((e : E) × (check ≡ Err e))
  judged Is check (Ok v) is passes = inl (v, passes v is)
  judged Is check (Err e) is passes = inr (e, is)

  -- a check that tells an error passes nothing
  apart : (check : Result V E) (v : V) (e : E) → check ≡ Ok v → check ≡ Err e → ⊥
  apart check v e passes told = different (sym passes ∙ told)
    where
      different : ◌≡◌ {A = Result V E} (Ok v) (Err e) → ⊥
      different is = absurd (cc)

module _ {E : Type 0} where
  -- the same where nothing is seen of what passes
  stands : (Is : Type 0) (check : Result (Unit {0}) E) → (check ≡ Ok tt → Is) → Is ⊎ ((e : E) × (check ≡ Err e))
  stands Is check passes = by (judged (λ u. Is) check check refl (λ u is. passes is))
    where
      by : ((u : Unit {0}) × Is) ⊎ ((e : E) × (check ≡ Err e)) → Is ⊎ ((e : E) × (check ≡ Err e))
      by (inl p) = inl p.1
      by (inr told) = inr told

pub value_either : (S : Schema) (T : Resolved) (d : Data) → Fits S T d ⊎ ((m : Misfit) × (value_check S T d ≡ Err m))
value_either S T d = stands (Fits S T d) (value_check S T d) (value-pass S T d)

pub value_never_both : (S : Schema) (T : Resolved) (d : Data) (m : Misfit) → Fits S T d → value_check S T d ≡ Err m → ⊥
value_never_both S T d m fits told = apart (value_check S T d) tt m (pass-value S T d fits) told

pub entities_either : (S : Schema) (d : Data) → AreEntities S d ⊎ ((m : Misfit) × (entities_check S d ≡ Err m))
entities_either S d = stands (AreEntities S d) (entities_check S d) (entities-pass S d)

pub entities_never_both : (S : Schema) (d : Data) (m : Misfit) → AreEntities S d → entities_check S d ≡ Err m → ⊥
entities_never_both S d m are told = apart (entities_check S d) tt m (pass-entities S d are) told

pub requests_either : (S : Schema) (d : Data) → ((numbers : List ℕ) × AreRequests S d numbers) ⊎ ((flaw : RequestFlaw) × (requests_check S d ≡ Err flaw))
requests_either S d = judged (AreRequests S d) (requests_check S d) (requests_check S d) refl (requests-pass S d)

pub compatible_either : (old new : Schema) → Compatible old new ⊎ ((broken : TypeBreak) × (schema_check old new ≡ Err broken))
compatible_either old new = stands (Compatible old new) (schema_check old new) (schema-pass old new)

pub compatible_never_both : (old new : Schema) (broken : TypeBreak) → Compatible old new → schema_check old new ≡ Err broken → ⊥
compatible_never_both old new broken compatible told = apart (schema_check old new) tt broken (pass-schema old new compatible) told
