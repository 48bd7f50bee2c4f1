-- SPDX-License-Identifier: Apache-2.0
-- What answering does to the sinks, by the status: answering bytes, and answering what a source gives.
use Rattle.std.specs.Prelude.{◌≡◌, ◌⊎◌, ◌≤◌, ℕ, List, length, Option, Some, IsUtf8}
use Rattle.cedar_answers.specs.Answers.{Answers, IsAcceptance, Sunk}
use Rattle.cedar_answers.specs.Making.{Accepts, Makes, Tells}
use Rattle.cedar_commands.specs.declared.command.Command.{Command}
use Rattle.cedar_commands.specs.declared.status.Status.{Status}
use Rattle.cedar_commands.specs.declared.status.Status.TheVariants.{Done, Refused, Usage, ReadFault, WriteFault, NotUtf8, TooLong, NoMemory}
use Rattle.cedar_schema_tool.specs.Running.{FailedReading, Reads, ReadsText, ReadTooMuch, SameErr, SameOut, StoppedReading, Streams, longest_text}

-- ---- bytes

-- answering a text: what the command makes of it is written to `out`, or why it refuses it to `err`
abbrev pub AnswersText : Command → List ℕ → List (List ℕ) → Sunk → Sunk → Sunk → Sunk → Status → Type 0
AnswersText command text extensions = Answers (Makes command text extensions) (Tells command text extensions)

-- answering bytes: they are no text, or the text that they are is answered
abbrev pub AnswersBytes : Command → List ℕ → List (List ℕ) → Sunk → Sunk → Sunk → Sunk → Status → Type 0
AnswersBytes command bytes extensions out out' err err' status =
    ((status ≡ NotUtf8) × (IsUtf8 bytes → ⊥) × (out' ≡ out) × (err' ≡ err))
    ⊎ (IsUtf8 bytes × AnswersText command bytes extensions out out' err err' status)

-- a text that the command accepts is accepted
abbrev pub AcceptsBytes : Command → List ℕ → List (List ℕ) → Status → Type 0
AcceptsBytes command bytes extensions status = IsUtf8 bytes → Accepts command bytes extensions → IsAcceptance status

-- ---- a source

-- what is known of `out`, and of `err`
abbrev pub out_of : Streams → Sunk
out_of s = record { bytes = s.out; faults = s.out_faults }

abbrev pub err_of : Streams → Sunk
err_of s = record { bytes = s.err; faults = s.err_faults }

-- the text that was read is answered
abbrev pub AnswersRead : Command → List (List ℕ) → Streams → Streams → Status → Type 0
AnswersRead command extensions before after status =
    (text : List ℕ) × ReadsText before after text
    × AnswersText command text extensions (out_of before) (out_of after) (err_of before) (err_of after) status

-- answering what a source gives, by the status: reading it failed, or what was read is answered
abbrev pub AnswersSource : Command → List (List ℕ) → Streams → Streams → Status → Type 0
AnswersSource command extensions before after ReadFault = FailedReading before after × SameOut before after × SameErr before after
AnswersSource command extensions before after TooLong = ReadTooMuch before after × SameOut before after × SameErr before after
AnswersSource command extensions before after NotUtf8 =
    (bytes : List ℕ) × Reads before after bytes × (IsUtf8 bytes → ⊥) × SameOut before after × SameErr before after
AnswersSource command extensions before after NoMemory = StoppedReading before after × SameOut before after × SameErr before after
AnswersSource command extensions before after Done = AnswersRead command extensions before after Done
AnswersSource command extensions before after Refused = AnswersRead command extensions before after Refused
AnswersSource command extensions before after WriteFault = AnswersRead command extensions before after WriteFault
AnswersSource command extensions before after Usage = ⊥

-- a text that the source has left, within the limit, and that the command accepts is accepted
abbrev pub AcceptsSource : Command → List (List ℕ) → Option (List ℕ) → Status → Type 0
AcceptsSource command extensions left status =
    (text : List ℕ) → left ≡ Some text → length text ≤ longest_text → IsUtf8 text → Accepts command text extensions → IsAcceptance status
