-- SPDX-License-Identifier: Apache-2.0
-- What holds of an answer holds of more, and of an answer that hands a failure on.
use Rattle.std.proofs.Common.{IfOk}
use Rattle.std.specs.declared.result.Result.{Result}
use Rattle.std.specs.declared.result.Result.TheVariants.{Ok, Err}
use Rattle.cedar_data.specs.Answers.{IfRefused}
use Rattle.cedar_data.specs.declared.memory.Failure.{Failure}
use Rattle.cedar_data.specs.declared.memory.Failure.TheVariants.{NoMemory, Refused}
use Rattle.cedar_text.specs.Failures as text
use Rattle.cedar_written.specs.Answers as written

module _ {T E : Type 0} where
  -- of the value
  pub passed : (P Q : T → Type 0) → ((t : T) → P t → Q t) → (r : Result T (Failure E)) → IfOk r P → IfOk r Q
  passed P Q f (Ok t) p = f t p
  passed P Q f (Err x) p = tt

  -- of the value, in two ways
  pub passed_both : (P Q R : T → Type 0) → ((t : T) → P t → Q t → R t) → (r : Result T (Failure E)) → IfOk r P → IfOk r Q → IfOk r R
  passed_both P Q R f (Ok t) p q = f t p q
  passed_both P Q R f (Err x) p q = tt

  -- of the refusal
  pub refused : (P Q : E → Type 0) → ((e : E) → P e → Q e) → (r : Result T (Failure E)) → IfRefused r P → IfRefused r Q
  refused P Q f (Ok t) p = tt
  refused P Q f (Err (Refused e)) p = f e p
  refused P Q f (Err NoMemory) p = tt

  -- the same, however it is said
  pub as_written : (P : E → Type 0) (r : Result T (Failure E)) → written.IfRefused r P → IfRefused r P
  as_written P (Ok t) p = tt
  as_written P (Err (Refused e)) p = p
  as_written P (Err NoMemory) p = tt

  pub as_text : (P : E → Type 0) (r : Result T (Failure E)) → text.IfRefused r P → IfRefused r P
  as_text P (Ok t) p = tt
  as_text P (Err (Refused e)) p = p
  as_text P (Err NoMemory) p = tt

-- of a failure that is handed on
pub carried : {E : Type 0} (T S : Type 0) (P Q : E → Type 0) → ((e : E) → P e → Q e) → (x : Failure E) → IfRefused {T = T} (Err x) P → IfRefused {T = S} (Err x) Q
carried T S P Q f (Refused e) p = f e p
carried T S P Q f NoMemory p = tt

pub carried_text : {E : Type 0} (T S : Type 0) (P Q : E → Type 0) → ((e : E) → P e → Q e) → (x : Failure E) → text.IfRefused {T = T} (Err x) P → IfRefused {T = S} (Err x) Q
carried_text T S P Q f (Refused e) p = f e p
carried_text T S P Q f NoMemory p = tt
