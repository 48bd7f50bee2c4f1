-- SPDX-License-Identifier: Apache-2.0
-- What a step makes, where the step is known by its namespace alone.
use Rattle.std.proofs.Common.{◌≡◌, IfOk, subst}
use Rattle.std.specs.declared.result.Result.{Result}
use Rattle.std.specs.declared.result.Result.TheVariants.{Ok, Err}
use Rattle.cedar_written.specs.Answers.{Makes}

module _ {S T X E : Type 0} where
  -- what the step makes, some step with P makes
  pub by_step : (P : S → Type 0) (f : S → Result T E) (step : S) → P step → (result : Result T X) → Makes result (f step) → IfOk result (λ made. (s : S) × P s × (f s ≡ Ok made))
  by_step P f step p (Ok made) is = (step, p, is)
  by_step P f step p (Err x) is = tt

  -- what some step of the namespace makes is what f gives of the namespace
  pub made_in : {N : Type 0} (of : S → N) (f : N → Result T E) (ns : N) (result : Result T X) → IfOk result (λ made. (s : S) × (of s ≡ ns) × (f (of s) ≡ Ok made)) → Makes result (f ns)
  made_in of f ns (Ok made) (step, same, is) = subst (λ n. f n ≡ Ok made) same is
  made_in of f ns (Err x) is = tt
