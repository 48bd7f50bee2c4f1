-- SPDX-License-Identifier: Apache-2.0
-- A step changes the names of a type, and nothing else.
use Rattle.std.proofs.Common.{◌≡◌, IfOk, refl}
use Rattle.std.proofs.lemmas.Result.{MatchResult-at_ok}
use Rattle.std.specs.declared.result.Result.{Result}
use Rattle.std.specs.declared.result.Result.TheVariants.{Ok, Err}
use Rattle.cedar_written.specs.Answers.{Makes}
use Rattle.cedar_written.specs.Bare.{bare_type, nameless}
use Rattle.cedar_written.specs.Reference.{Reference, renamed}
use Rattle.cedar_written.specs.Through.{through_type}
use Rattle.cedar_written.specs.declared.ty.SchemaType.{SchemaType}
use Rattle.cedar_written.proofs.Keeps.{type_kept}

-- what holds of each value of the answer holds of the value
pub at_ok : {T E : Type 0} (answer : Result T E) (t : T) (P : T → Type 0) → answer ≡ Ok t → IfOk answer P → P t
at_ok answer t P is all = MatchResult-at_ok P (λ _. Unit {0}) t is all

-- a reference is nothing, whatever its name
pub nothing : {N M E : Type 0} (s : Reference N → Result M E) (x : Reference N) → IfOk (s x) (λ m. nameless (renamed x m) ≡ nameless x)
nothing {N} {M} {E} s x = of (s x)
  where
    of : (r : Result M E) → IfOk r (λ m. nameless (renamed x m) ≡ nameless x)
    of (Ok m) = refl
    of (Err e) = tt

module _ {N M E : Type 0} (s : Reference N → Result M E) where
  pub type_same : (t : SchemaType N) (t' : SchemaType M) → through_type s t ≡ Ok t' → bare_type t' ≡ bare_type t
  type_same t t' is = at_ok (through_type s t) t' (λ t'. bare_type t' ≡ bare_type t) is (type_kept s nameless nameless (nothing s) t)

  -- all else is equal
  pub type_same_if : {X : Type 0} (t : SchemaType N) (r : Result (SchemaType M) X) → Makes r (through_type s t) → IfOk r (λ t'. bare_type t' ≡ bare_type t)
  type_same_if t (Ok t') is = type_same t t' is
  type_same_if t (Err x) is = tt

pub ruleset same = (type_same_if)
