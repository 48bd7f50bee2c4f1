-- SPDX-License-Identifier: Apache-2.0
-- What a run of the program did, by its status.
use Rattle.std.specs.Prelude.{◌≡◌, ◌⊎◌, ◌≤◌, ℕ, List, length, Option, Some, IsUtf8}
use Rattle.cedar_streams.specs.Bytes.{GivesAll, GivesAtMost, GivesMoreThan, Takes, TakesFront}
use Rattle.cedar_streams.specs.Faults.{Rose}
use Rattle.cedar_answers.specs.Answers.{IsAcceptance}
use Rattle.cedar_answers.specs.Making as making
use Rattle.cedar_answers.specs.Making.{Makes, Tells}
use Rattle.cedar_commands.specs.CommandLine.{AreNamed, Asks}
use Rattle.cedar_commands.specs.declared.command.Command.{Command}
use Rattle.cedar_commands.specs.declared.command.Command.TheVariants.{Resolve, ResolveJson, Check, ToJson, ToCedar, Review, Bench}
use Rattle.cedar_commands.specs.declared.status.Status.{Status}
use Rattle.cedar_commands.specs.declared.status.Status.TheVariants.{Done, Refused, Usage, ReadFault, WriteFault, NotUtf8, TooLong, NoMemory}
use Rattle.cedar_generator.specs.Generated.{generated}

-- what is known of the three streams: the bytes that the source has left, those that the sinks have taken, and how often each failed
pub record Streams : Type 0 where
  pub left : Option (List ℕ)
  pub read_faults : ℕ
  pub out : Option (List ℕ)
  pub out_faults : ℕ
  pub err : Option (List ℕ)
  pub err_faults : ℕ

-- what is known of this source and of these two sinks, each by what one of its type tells of its bytes and of its faults
abbrev pub streams :
    {S K E : Type 0} → (S → Option (List ℕ)) → (S → ℕ) → S → (K → Option (List ℕ)) → (K → ℕ) → K → (E → Option (List ℕ)) → (E → ℕ) → E → Streams
streams left read_faults source out_written out_faults out err_written err_faults err = record {
  left = left source;
  read_faults = read_faults source;
  out = out_written out;
  out_faults = out_faults out;
  err = err_written err;
  err_faults = err_faults err;
}

-- how many bytes a text may have
abbrev pub longest_text : ℕ
longest_text = 4194304

-- ---- reading

-- nothing was written to `out`
abbrev pub SameOut : Streams → Streams → Type 0
SameOut before after = (after.out ≡ before.out) × (after.out_faults ≡ before.out_faults)

-- nothing was written to `err`
abbrev pub SameErr : Streams → Streams → Type 0
SameErr before after = (after.err ≡ before.err) × (after.err_faults ≡ before.err_faults)

-- nothing was read
abbrev pub SameSource : Streams → Streams → Type 0
SameSource before after = (after.left ≡ before.left) × (after.read_faults ≡ before.read_faults)

-- all that the source had left was read, it was this text, and no read failed
pub record Reads (before after : Streams) (text : List ℕ) : Type 0 where
  pub all : GivesAll longest_text before.left after.left text
  pub calm : after.read_faults ≡ before.read_faults

-- the source failed, and before that gave no more bytes than a text may have
abbrev pub FailedReading : Streams → Streams → Type 0
FailedReading before after = GivesAtMost longest_text before.left after.left × Rose before.read_faults after.read_faults

-- the source gave more bytes than a text may have, and had not failed before
abbrev pub ReadTooMuch : Streams → Streams → Type 0
ReadTooMuch before after = GivesMoreThan longest_text before.left after.left × (after.read_faults ≡ before.read_faults)

-- the source gave no more bytes than a text may have, and did not fail
abbrev pub StoppedReading : Streams → Streams → Type 0
StoppedReading before after = GivesAtMost longest_text before.left after.left × (after.read_faults ≡ before.read_faults)

-- the source was read to its end, and what it gave is this text
abbrev pub ReadsText : Streams → Streams → List ℕ → Type 0
ReadsText before after text = Reads before after text × IsUtf8 text

-- nothing was read, and the text is the generated one of this size
abbrev pub MadeUp : ℕ → Streams → Streams → List ℕ → Type 0
MadeUp n before after text = SameSource before after × (text ≡ generated n)

-- the text that a command works on: the one that is read, but for `bench` a generated one
abbrev pub WorksOn : Command → Streams → Streams → List ℕ → Type 0
WorksOn Resolve before after text = ReadsText before after text
WorksOn ResolveJson before after text = ReadsText before after text
WorksOn Check before after text = ReadsText before after text
WorksOn ToJson before after text = ReadsText before after text
WorksOn ToCedar before after text = ReadsText before after text
WorksOn (Review review) before after text = ReadsText before after text
WorksOn (Bench n) before after text = MadeUp n before after text

-- the command reads
abbrev pub IsReading : Command → Type 0
IsReading Resolve = Unit {0}
IsReading ResolveJson = Unit {0}
IsReading Check = Unit {0}
IsReading ToJson = Unit {0}
IsReading ToCedar = Unit {0}
IsReading (Review review) = Unit {0}
IsReading (Bench n) = ⊥

-- ---- what the words ask for

-- the words ask for something
abbrev pub AreAsking : List (List ℕ) → Type 0
AreAsking words = (command : Command) × (names : List (List ℕ)) × Asks words command names

-- the words ask for something for which the source is read
abbrev pub AskToRead : List (List ℕ) → Type 0
AskToRead words = (command : Command) × (names : List (List ℕ)) × Asks words command names × IsReading command

-- nothing was read, or the words ask to read, and the source gave no more bytes than a text may have and did not fail
abbrev pub ReadWithin : List (List ℕ) → Streams → Streams → Type 0
ReadWithin words before after = SameSource before after ⊎ (AskToRead words × StoppedReading before after)

-- the words ask for a command on a text, with these extension types
pub record Works (words : List (List ℕ)) (before after : Streams) (command : Command) (text : List ℕ) (extensions : List (List ℕ)) : Type 0 where
  pub names : List (List ℕ)
  pub asks : Asks words command names
  pub known : AreNamed names extensions
  pub on : WorksOn command before after text

-- this text is due: it is what the command that the words ask for makes of its text
abbrev pub IsDue : List (List ℕ) → Streams → Streams → List ℕ → Type 0
IsDue words before after due =
    (command : Command) × (text : List ℕ) × (extensions : List (List ℕ)) × Works words before after command text extensions × Makes command text extensions due

-- this refusal is due: it tells why the command that the words ask for refuses its text
abbrev pub IsTold : List (List ℕ) → Streams → Streams → List ℕ → Type 0
IsTold words before after told =
    (command : Command) × (text : List ℕ) × (extensions : List (List ℕ)) × Works words before after command text extensions × Tells command text extensions told

-- ---- the run

-- what a run did, by its status
abbrev pub Runs : List (List ℕ) → Streams → Streams → Status → Type 0
-- the words ask for nothing, and nothing was read or written
Runs words before after Usage = (AreAsking words → ⊥) × (after ≡ before)
-- reading failed
Runs words before after ReadFault = AskToRead words × FailedReading before after × SameOut before after × SameErr before after
-- too much was read
Runs words before after TooLong = AskToRead words × ReadTooMuch before after × SameOut before after × SameErr before after
-- the bytes that were read are no UTF-8
Runs words before after NotUtf8 = AskToRead words × (bytes : List ℕ) × Reads before after bytes × (IsUtf8 bytes → ⊥) × SameOut before after × SameErr before after
-- want of memory, before reading, while the source was read, or behind that
Runs words before after NoMemory = ReadWithin words before after × SameOut before after × SameErr before after
-- the text is refused, and the refusal stands on `err`, which didn't fail
Runs words before after Refused = (told : List ℕ) × IsTold words before after told × Takes before.err after.err told × (after.err_faults ≡ before.err_faults) × SameOut before after
-- the text is accepted, and what is due stands on `out`, which didn't fail
Runs words before after Done = (due : List ℕ) × IsDue words before after due × Takes before.out after.out due × (after.out_faults ≡ before.out_faults) × SameErr before after
-- the sink of the due text failed, and took a front of it
Runs words before after WriteFault =
    ((due : List ℕ) × IsDue words before after due × TakesFront before.out after.out due × Rose before.out_faults after.out_faults × SameErr before after)
    ⊎ ((told : List ℕ) × IsTold words before after told × TakesFront before.err after.err told × Rose before.err_faults after.err_faults × SameOut before after)

-- ---- completeness

-- what a run starts with: the text that the source has left, within the limit, or for `bench` the generated one
abbrev pub IsGiven : Command → Streams → List ℕ → Type 0
IsGiven Resolve before text = (before.left ≡ Some text) × (length text ≤ longest_text) × IsUtf8 text
IsGiven ResolveJson before text = (before.left ≡ Some text) × (length text ≤ longest_text) × IsUtf8 text
IsGiven Check before text = (before.left ≡ Some text) × (length text ≤ longest_text) × IsUtf8 text
IsGiven ToJson before text = (before.left ≡ Some text) × (length text ≤ longest_text) × IsUtf8 text
IsGiven ToCedar before text = (before.left ≡ Some text) × (length text ≤ longest_text) × IsUtf8 text
IsGiven (Review review) before text = (before.left ≡ Some text) × (length text ≤ longest_text) × IsUtf8 text
IsGiven (Bench n) before text = text ≡ generated n

-- a text that the command accepts is accepted
abbrev pub AcceptsGiven : List (List ℕ) → Streams → Status → Type 0
AcceptsGiven words before status =
    (command : Command) (names extensions : List (List ℕ)) (text : List ℕ)
    → Asks words command names → AreNamed names extensions → IsGiven command before text
    → making.Accepts command text extensions → IsAcceptance status
