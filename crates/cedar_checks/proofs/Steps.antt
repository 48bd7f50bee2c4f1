-- SPDX-License-Identifier: Apache-2.0
-- When two steps pass.
use Rattle.std.proofs.Common.{◌≡◌, refl, ap, ◌∙◌}
use Rattle.std.specs.declared.result.Result.{Result}
use Rattle.std.specs.declared.result.Result.TheVariants.{Ok, Err}
use Rattle.cedar_written.specs.Answers.{and_then}

-- where two steps pass, each of them does
pub both-pass : {A V E : Type 0} (part : Result A E) (more : A → Result V E) (v : V) → and_then part more ≡ Ok v → (a : A) × (part ≡ Ok a) × (more a ≡ Ok v)
both-pass (Ok a) more v is = (a, refl, is)
both-pass (Err e) more v is = absurd (cc)

pub then-pass : {A V E : Type 0} (part : Result A E) (more : A → Result V E) (a : A) (v : V) → part ≡ Ok a → more a ≡ Ok v → and_then part more ≡ Ok v
then-pass part more a v first second = ap (λ p. and_then p more) first ∙ second
