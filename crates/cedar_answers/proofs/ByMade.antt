-- SPDX-License-Identifier: Apache-2.0
-- From what was made of a text, and how that was answered, to how the text was answered.
use Rattle.std.proofs.Common.{◌≡◌, ℕ, List, Option, Result, Ok, Err, IfOk, inl, inr, refl, sym, subst}
use Rattle.cedar_data.specs.Answers as results
use Rattle.cedar_data.specs.declared.memory.Failure.{Failure}
use Rattle.cedar_data.specs.declared.memory.Failure.TheVariants as failures
use Rattle.cedar_commands.specs.declared.command.Command.{Command}
use Rattle.cedar_commands.specs.declared.status.Status.{Status}
use Rattle.cedar_commands.specs.declared.status.Status.TheVariants.{Done, Refused, Usage, ReadFault, WriteFault, NotUtf8, TooLong, NoMemory}
use Rattle.cedar_answers.specs.Answers.{Sunk, sunk, Puts, Rejects, Answers, IsAcceptance}
use Rattle.cedar_answers.specs.Made.{AnswersMade}
use Rattle.cedar_answers.specs.Making.{Makes, Tells}

-- what is due was written
puts-answers : (IsDue IsTold : List ℕ → Type 0) (due : List ℕ) (out out' err : Sunk) (status : Status) → IsDue due → Puts due out out' status → Answers IsDue IsTold out out' err err status
puts-answers IsDue IsTold due out out' err Done d p = (due, d, p, refl)
puts-answers IsDue IsTold due out out' err WriteFault d p = inl (due, d, p, refl)
puts-answers IsDue IsTold due out out' err Refused d p = absurd p
puts-answers IsDue IsTold due out out' err Usage d p = absurd p
puts-answers IsDue IsTold due out out' err ReadFault d p = absurd p
puts-answers IsDue IsTold due out out' err NotUtf8 d p = absurd p
puts-answers IsDue IsTold due out out' err TooLong d p = absurd p
puts-answers IsDue IsTold due out out' err NoMemory d p = absurd p

puts-accepts : (due : List ℕ) (out out' : Sunk) (status : Status) → Puts due out out' status → IsAcceptance status
puts-accepts due out out' Done p = tt
puts-accepts due out out' WriteFault p = tt
puts-accepts due out out' Refused p = absurd p
puts-accepts due out out' Usage p = absurd p
puts-accepts due out out' ReadFault p = absurd p
puts-accepts due out out' NotUtf8 p = absurd p
puts-accepts due out out' TooLong p = absurd p
puts-accepts due out out' NoMemory p = absurd p

-- what is told was written
rejects-answers : (IsDue IsTold : List ℕ → Type 0) (told : List ℕ) (out err err' : Sunk) (status : Status) → IsTold told → Rejects told err err' status → Answers IsDue IsTold out out err err' status
rejects-answers IsDue IsTold told out err err' Refused t r = (told, t, r, refl)
rejects-answers IsDue IsTold told out err err' WriteFault t r = inr (told, t, r, refl)
rejects-answers IsDue IsTold told out err err' NoMemory t r = (refl, r)
rejects-answers IsDue IsTold told out err err' Done t r = absurd r
rejects-answers IsDue IsTold told out err err' Usage t r = absurd r
rejects-answers IsDue IsTold told out err err' ReadFault t r = absurd r
rejects-answers IsDue IsTold told out err err' NotUtf8 t r = absurd r
rejects-answers IsDue IsTold told out err err' TooLong t r = absurd r

module _ {T E : Type 0} (due_of : T → List ℕ) (told_of : E → List ℕ) (out out' err err' : Sunk) (status : Status) where
  -- the text is answered as what was made of it
  answers : (IsDue IsTold : List ℕ → Type 0) (made : Result T (Failure E)) → IfOk made (λ m. IsDue (due_of m)) → results.IfRefused made (λ e. IsTold (told_of e))
      → AnswersMade due_of told_of made out out' err err' status → Answers IsDue IsTold out out' err err' status
  answers IsDue IsTold (Ok m) due told a =
      subst (λ (e : Sunk). Answers IsDue IsTold out out' err e status) (sym a.1) (puts-answers IsDue IsTold (due_of m) out out' err status due a.0)
  answers IsDue IsTold (Err (failures.Refused e)) due told a =
      subst (λ (o : Sunk). Answers IsDue IsTold out o err err' status) (sym a.1) (rejects-answers IsDue IsTold (told_of e) out err err' status told a.0)
  answers IsDue IsTold (Err failures.NoMemory) due told a =
      subst (λ (s : Status). Answers IsDue IsTold out out' err err' s) (sym a.0) (a.1, a.2)

  -- and accepted, where it was not refused
  accepts : (Gives : T → Type 0) (made : Result T (Failure E)) → results.Accepts Gives made → AnswersMade due_of told_of made out out' err err' status → IsAcceptance status
  accepts Gives (Ok m) accepted a = puts-accepts (due_of m) out out' status a.0
  accepts Gives (Err (failures.Refused e)) accepted a = absurd accepted
  accepts Gives (Err failures.NoMemory) accepted a = subst IsAcceptance (sym a.0) tt

-- the same of two sinks, before and after
module _ {K L : Type 0} (out_written : K → Option (List ℕ)) (out_faults : K → ℕ) (err_written : L → Option (List ℕ)) (err_faults : L → ℕ) (out out' : K) (err err' : L) (status : Status) where
  -- what is known of them
  abbrev before_out : Sunk
  before_out = sunk out_written out_faults out

  abbrev after_out : Sunk
  after_out = sunk out_written out_faults out'

  abbrev before_err : Sunk
  before_err = sunk err_written err_faults err

  abbrev after_err : Sunk
  after_err = sunk err_written err_faults err'

  module _ {T E : Type 0} (due_of : T → List ℕ) (told_of : E → List ℕ) where
    pub made-answers : (IsDue IsTold : List ℕ → Type 0) (made : Result T (Failure E)) → IfOk made (λ m. IsDue (due_of m)) → results.IfRefused made (λ e. IsTold (told_of e))
        → AnswersMade due_of told_of made before_out after_out before_err after_err status → Answers IsDue IsTold before_out after_out before_err after_err status
    made-answers IsDue IsTold made due told a = answers due_of told_of before_out after_out before_err after_err status IsDue IsTold made due told a

    pub made-accepts : (Gives : T → Type 0) (made : Result T (Failure E)) → results.Accepts Gives made → AnswersMade due_of told_of made before_out after_out before_err after_err status → IsAcceptance status
    made-accepts Gives made accepted a = accepts due_of told_of before_out after_out before_err after_err status Gives made accepted a

  -- the command that is asked for is this one
  pub command-answers : (asked command : Command) (text : List ℕ) (extensions : List (List ℕ)) → asked ≡ command
      → Answers (Makes command text extensions) (Tells command text extensions) before_out after_out before_err after_err status
      → Answers (Makes asked text extensions) (Tells asked text extensions) before_out after_out before_err after_err status
  command-answers asked command text extensions same a =
      subst (λ (c : Command). Answers (Makes c text extensions) (Tells c text extensions) before_out after_out before_err after_err status) (sym same) a
