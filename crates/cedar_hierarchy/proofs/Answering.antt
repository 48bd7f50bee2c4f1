-- SPDX-License-Identifier: Apache-2.0
-- Facts of what a call answered.
use Rattle.std.proofs.Common.{◌≡◌, IfOk, ap, ◌∙◌, subst}
use Rattle.std.specs.declared.result.Result.{Result}
use Rattle.std.specs.declared.result.Result.TheVariants.{Ok, Err}
use Rattle.cedar_data.specs.declared.memory.Failure.{Failure}
use Rattle.cedar_data.specs.declared.memory.Failure.TheVariants.{NoMemory, Refused}
use Rattle.cedar_text.specs.Failures.{IfRefused}

-- what follows of the value
pub through_ok : {T E : Type 0} (P Q : T → Type 0) → ((t : T) → P t → Q t) → (r : Result T E) → IfOk r P → IfOk r Q
through_ok P Q f (Ok t) p = f t p
through_ok P Q f (Err e) p = tt

-- what follows of the refusal
pub through_refused : {T E : Type 0} (P Q : E → Type 0) → ((e : E) → P e → Q e) → (r : Result T (Failure E)) → IfRefused r P → IfRefused r Q
through_refused P Q f (Ok t) p = tt
through_refused P Q f (Err (Refused e)) p = f e p
through_refused P Q f (Err NoMemory) p = tt

-- the fact of the refusal
pub refused_at : {T E : Type 0} (P : E → Type 0) (r : Result T (Failure E)) (f : Failure E) (e : E) → r ≡ Err f → f ≡ Refused e → IfRefused r P → P e
refused_at {T} {E} P r f e is this clause = subst (λ (x : Result T (Failure E)). IfRefused x P) (is ∙ ap Err this) clause
