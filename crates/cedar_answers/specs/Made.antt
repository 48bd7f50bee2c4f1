-- SPDX-License-Identifier: Apache-2.0
-- What answering by what was made of a text does to the sinks, by the status.
use Rattle.std.specs.Prelude.{◌≡◌, ℕ, List, Result, Ok, Err}
use Rattle.cedar_data.specs.declared.memory.Failure.{Failure}
use Rattle.cedar_data.specs.declared.memory.Failure.TheVariants as failures
use Rattle.cedar_commands.specs.declared.status.Status.{Status}
use Rattle.cedar_commands.specs.declared.status.Status.TheVariants.{NoMemory}
use Rattle.cedar_answers.specs.Answers.{Sunk, Puts, Rejects}

-- what is due of it is written, or what is told of the refusal; of want of memory nothing is written
abbrev pub AnswersMade : {T E : Type 0} → (T → List ℕ) → (E → List ℕ) → Result T (Failure E) → Sunk → Sunk → Sunk → Sunk → Status → Type 0
AnswersMade due_of told_of (Ok made) out out' err err' status = Puts (due_of made) out out' status × (err' ≡ err)
AnswersMade due_of told_of (Err (failures.Refused e)) out out' err err' status = Rejects (told_of e) err err' status × (out' ≡ out)
AnswersMade due_of told_of (Err failures.NoMemory) out out' err err' status = (status ≡ NoMemory) × (out' ≡ out) × (err' ≡ err)
