-- SPDX-License-Identifier: Apache-2.0
-- How calls that follow one another pass on the cause of a failure.
use Rattle.std.proofs.Common.{ℕ, ◌≤◌, Result, Ok, Err, refl, ◌∙◌, arith}
use Rattle.std.specs.Result.{IsErr}
use Rattle.cedar_streams.specs.Faults.{Rose, HasCause}

pub Rose-later : (before now after : ℕ) → Rose before now → now ≤ after → Rose before after
Rose-later before now after r l = omega arith

pub Rose-earlier : (first before now : ℕ) → first ≤ before → Rose before now → Rose first now
Rose-earlier first before now l r = omega arith

pub HasCause-nothing : {T E : Type 0} (now : ℕ) (x : T) → HasCause {T = T} {E = E} now now (Ok x)
HasCause-nothing now x = record { later = omega arith; failed = tt; succeeded = refl }

pub HasCause-then : {T U E F : Type 0} {before now after : ℕ} {x : T} {second : Result U F} → HasCause {E = E} before now (Ok x) → HasCause now after second → HasCause before after second
HasCause-then {second = Ok y} p q = record { later = omega (arith, p.later, q.later); failed = tt; succeeded = q.succeeded ∙ p.succeeded }
HasCause-then {second = Err e} p q = record { later = omega (arith, p.later, q.later); failed = omega (arith, q.failed, p.later); succeeded = tt }

pub HasCause-failed : {T U E F : Type 0} {before now : ℕ} {e : E} {result : Result U F} → HasCause {T = T} before now (Err e) → IsErr result → HasCause before now result
HasCause-failed {result = Ok y} p i = cc
HasCause-failed {result = Err d} p i = record { later = p.later; failed = p.failed; succeeded = tt }
