-- SPDX-License-Identifier: Apache-2.0
-- When the steps of a check of requests pass.
use Rattle.std.proofs.Common.{◌≡◌, ℕ, Bool, true, false, if◌then◌else◌, List, decimal, Option, Some, None, refl, ap}
use Rattle.std.specs.declared.result.Result.TheVariants.{Ok, Err}
use Rattle.cedar_schema_error.specs.FullNames.{FullName, Uid}
use Rattle.cedar_conform.specs.of_world.Schemas.{SchemaAction}
use Rattle.cedar_conform.specs.Checks.{Check, under}
use Rattle.cedar_conform.proofs.CheckLaws.{pass-under, under-pass}
use Rattle.cedar_request.specs.RequestChecks.{RequestCheck, action_as, at_place, has_type, of_value, type_check}
use Rattle.cedar_request.specs.RequestFlaws.{RequestFlaw}

pub value-pass : {V : Type 0} (check : Check V) (v : V) → of_value check ≡ Ok v → check ≡ Ok v
value-pass (Ok w) v is = cc
value-pass (Err m) v is = absurd (cc)

pub pass-value : {V : Type 0} (check : Check V) (v : V) → check ≡ Ok v → of_value check ≡ Ok v
pass-value check v is = ap of_value is

pub place-pass : {V : Type 0} (place : ℕ) (check : Check V) (v : V) → at_place place check ≡ Ok v → check ≡ Ok v
place-pass place check v is = under-pass (decimal place) check v (value-pass (under (decimal place) check) v is)

pub pass-place : {V : Type 0} (place : ℕ) (check : Check V) (v : V) → check ≡ Ok v → at_place place check ≡ Ok v
pass-place place check v is = pass-value (under (decimal place) check) v (pass-under (decimal place) check v is)

decided : (b : Bool) (flaw : RequestFlaw) → ◌≡◌ {A = RequestCheck (Unit {0})} (if b then Ok tt else Err flaw) (Ok tt) → b ≡ true
decided true flaw is = refl
decided false flaw is = absurd (cc)

pub type-pass : (types : List FullName) (name : FullName) (flaw : RequestFlaw) → type_check types name flaw ≡ Ok tt → has_type types name ≡ true
type-pass types name flaw is = decided (has_type types name) flaw is

pub pass-type : (types : List FullName) (name : FullName) (flaw : RequestFlaw) → has_type types name ≡ true → type_check types name flaw ≡ Ok tt
pass-type types name flaw is = ap (λ b. if b then Ok tt else Err flaw) is

pub action-pass : (place : ℕ) (u : Uid) (found : Option SchemaAction) (action : SchemaAction) → action_as place u found ≡ Ok action → found ≡ Some action
action-pass place u None action is = absurd (cc)
action-pass place u (Some a) action is = ap Some (cc)

pub pass-action : (place : ℕ) (u : Uid) (found : Option SchemaAction) (action : SchemaAction) → found ≡ Some action → action_as place u found ≡ Ok action
pass-action place u found action is = ap (action_as place u) is
