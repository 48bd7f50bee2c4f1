-- SPDX-License-Identifier: Apache-2.0
-- From what was answered to what the run did.
use Rattle.std.proofs.Common.{◌≡◌, ℕ, ◌<◌, ◌≤◌, List, length, Some, inl, inr, refl, ap, sym, subst, arith, IsUtf8}
use Rattle.cedar_answers.specs.Answers.{IsAcceptance, Sunk}
use Rattle.cedar_answers.specs.Making.{Accepts}
use Rattle.cedar_commands.specs.Asking.{AskFor}
use Rattle.cedar_commands.specs.CommandLine.{AreNamed, Asks}
use Rattle.cedar_commands.specs.declared.command.Command.{Command}
use Rattle.cedar_commands.specs.declared.command.Command.TheVariants.{Resolve, ResolveJson, Check, ToJson, ToCedar, Review, Bench}
use Rattle.cedar_commands.specs.declared.status.Status.{Status}
use Rattle.cedar_commands.specs.declared.status.Status.TheVariants.{Done, Refused, Usage, ReadFault, WriteFault, NotUtf8, TooLong, NoMemory}
use Rattle.cedar_commands.proofs.Asking.{Asks-one, one-known}
use Rattle.cedar_generator.specs.Generated.{generated}
use Rattle.cedar_names.specs.Extensions.{extension_words}
use Rattle.cedar_names.specs.declared.extensions.Extensions.{Extensions}
use Rattle.cedar_streams.proofs.Known.{GivesAll-is, GivesMoreThan-had}
use Rattle.cedar_schema_tool.specs.Answering.{AcceptsBytes, AcceptsSource, AnswersBytes, AnswersSource, AnswersText, err_of, out_of}
use Rattle.cedar_schema_tool.specs.Running.{AcceptsGiven, AskToRead, IsGiven, IsReading, Reads, ReadsText, ReadTooMuch, ReadWithin, Runs, SameSource, StoppedReading, Streams, Works, WorksOn, longest_text}

-- a sink of which the same is known
same_sunk : {s t : Sunk} → t ≡ s → (t.bytes ≡ s.bytes) × (t.faults ≡ s.faults)
same_sunk e = (ap (λ u. u.bytes) e, ap (λ u. u.faults) e)

-- ---- a text, bytes, and what a source gives

-- the answer to a text that is another
pub same-answers : (command : Command) (text other : List ℕ) (extensions : List (List ℕ)) (out out' err err' : Sunk) (status : Status) → text ≡ other
    → AnswersText command text extensions out out' err err' status → AnswersText command other extensions out out' err err' status
same-answers command text other extensions out out' err err' status same a = subst (λ (t : List ℕ). AnswersText command t extensions out out' err err' status) same a

pub same-accepts : (command : Command) (text other : List ℕ) (extensions : List (List ℕ)) (status : Status) → text ≡ other
    → (Accepts command text extensions → IsAcceptance status) → Accepts command other extensions → IsAcceptance status
same-accepts command text other extensions status same a accepts = a (subst (λ (t : List ℕ). Accepts command t extensions) (sym same) accepts)

-- the answer to bytes that are a text
pub text-answers : (command : Command) (bytes text : List ℕ) (extensions : List (List ℕ)) (out out' err err' : Sunk) (status : Status) → text ≡ bytes → IsUtf8 bytes
    → AnswersText command text extensions out out' err err' status → AnswersBytes command bytes extensions out out' err err' status
text-answers command bytes text extensions out out' err err' status same utf8 a =
    inr (utf8, same-answers command text bytes extensions out out' err err' status same a)

pub text-accepts : (command : Command) (bytes text : List ℕ) (extensions : List (List ℕ)) (status : Status) → text ≡ bytes
    → (Accepts command text extensions → IsAcceptance status) → AcceptsBytes command bytes extensions status
text-accepts command bytes text extensions status same a utf8 accepts = same-accepts command text bytes extensions status same a accepts

-- a source that was read to its end gave no more than it may, and did not fail
stopped : (before after : Streams) (text : List ℕ) → Reads before after text → StoppedReading before after
stopped before after text reads = (record { bytes = text; gives = reads.all.gives; within = reads.all.within }, reads.calm)

module _ (command : Command) (extensions : List (List ℕ)) (before after : Streams) (bytes : List ℕ) (reads : Reads before after bytes) where
  text-source : (status : Status) → IsUtf8 bytes → AnswersText command bytes extensions (out_of before) (out_of after) (err_of before) (err_of after) status
      → AnswersSource command extensions before after status
  text-source Done utf8 a = (bytes, (reads, utf8), a)
  text-source Refused utf8 a = (bytes, (reads, utf8), a)
  text-source WriteFault utf8 a = (bytes, (reads, utf8), a)
  text-source NoMemory utf8 a = (stopped before after bytes reads, same_sunk a.0, same_sunk a.1)
  text-source Usage utf8 a = absurd a
  text-source ReadFault utf8 a = absurd a
  text-source NotUtf8 utf8 a = absurd a
  text-source TooLong utf8 a = absurd a

  pub bytes-source : (status : Status) → AnswersBytes command bytes extensions (out_of before) (out_of after) (err_of before) (err_of after) status
      → AnswersSource command extensions before after status
  bytes-source status (inl a) =
      subst (λ (s : Status). AnswersSource command extensions before after s) (sym a.0) (bytes, reads, a.1, same_sunk a.2, same_sunk a.3)
  bytes-source status (inr a) = text-source status a.0 a.1

  pub bytes-accepts : (status : Status) → AcceptsBytes command bytes extensions status → AcceptsSource command extensions before.left status
  bytes-accepts status a text left within utf8 accepts =
      let same : bytes ≡ text = GivesAll-is longest_text bytes text left reads.all in
      a (subst IsUtf8 (sym same) utf8) (subst (λ (t : List ℕ). Accepts command t extensions) (sym same) accepts)

pub too_long-accepts : (command : Command) (extensions : List (List ℕ)) (before after : Streams) (status : Status) → ReadTooMuch before after
    → AcceptsSource command extensions before.left status
too_long-accepts command extensions before after status much text left within utf8 accepts =
    let longer : longest_text < length text = GivesMoreThan-had longest_text text left much.0 in absurd (omega arith)

-- ---- what the words ask for, and the text that it is done with

-- what was read for the text that a command works on
module _ (words : List (List ℕ)) (before after : Streams) where
  read-within : (command : Command) (names : List (List ℕ)) → Asks words command names → (text : List ℕ) → WorksOn command before after text → ReadWithin words before after
  read-within Resolve names asks text on = inr ((Resolve, names, asks, tt), stopped before after text on.0)
  read-within ResolveJson names asks text on = inr ((ResolveJson, names, asks, tt), stopped before after text on.0)
  read-within Check names asks text on = inr ((Check, names, asks, tt), stopped before after text on.0)
  read-within ToJson names asks text on = inr ((ToJson, names, asks, tt), stopped before after text on.0)
  read-within ToCedar names asks text on = inr ((ToCedar, names, asks, tt), stopped before after text on.0)
  read-within (Review review) names asks text on = inr ((Review review, names, asks, tt), stopped before after text on.0)
  read-within (Bench n) names asks text on = inl on.0

module _ (words : List (List ℕ)) (command : Command) (x : Extensions) (found : AskFor words command x) (before after : Streams) where
  -- of one text
  module _ (text : List ℕ) (on : WorksOn command before after text) where
    works : Works words before after command text (extension_words x)
    works = record { names = found.0; asks = found.1; known = found.2; on = on }

    within : ReadWithin words before after
    within = read-within words before after command found.0 found.1 text on

    -- what is written of it, or that memory failed
    pub text-runs : (status : Status) → AnswersText command text (extension_words x) (out_of before) (out_of after) (err_of before) (err_of after) status
        → Runs words before after status
    text-runs Done a = (a.0, (command, text, extension_words x, works, a.1), a.2.0, a.2.1, same_sunk a.3)
    text-runs Refused a = (a.0, (command, text, extension_words x, works, a.1), a.2.0, a.2.1, same_sunk a.3)
    text-runs WriteFault (inl a) = inl (a.0, (command, text, extension_words x, works, a.1), a.2.0, a.2.1, same_sunk a.3)
    text-runs WriteFault (inr a) = inr (a.0, (command, text, extension_words x, works, a.1), a.2.0, a.2.1, same_sunk a.3)
    text-runs NoMemory a = (within, same_sunk a.0, same_sunk a.1)
    text-runs Usage a = absurd a
    text-runs ReadFault a = absurd a
    text-runs NotUtf8 a = absurd a
    text-runs TooLong a = absurd a

-- a command that reads works on what was read
works-read : (command : Command) (before after : Streams) (text : List ℕ) → IsReading command → ReadsText before after text → WorksOn command before after text
works-read Resolve before after text reading r = r
works-read ResolveJson before after text reading r = r
works-read Check before after text reading r = r
works-read ToJson before after text reading r = r
works-read ToCedar before after text reading r = r
works-read (Review review) before after text reading r = r
works-read (Bench n) before after text reading r = absurd reading

-- and what it is given is what the source has left
given-left : (command : Command) (before : Streams) (text : List ℕ) → IsReading command → IsGiven command before text
    → (before.left ≡ Some text) × (length text ≤ longest_text) × IsUtf8 text
given-left Resolve before text reading g = g
given-left ResolveJson before text reading g = g
given-left Check before text reading g = g
given-left ToJson before text reading g = g
given-left ToCedar before text reading g = g
given-left (Review review) before text reading g = g
given-left (Bench n) before text reading g = absurd reading

-- the commands but `bench` read
pub others-read : (command : Command) → ((n : ℕ) → command ≡ Bench n → ⊥) → IsReading command
others-read Resolve other = tt
others-read ResolveJson other = tt
others-read Check other = tt
others-read ToJson other = tt
others-read ToCedar other = tt
others-read (Review review) other = tt
others-read (Bench n) other = other n refl

module _ (words : List (List ℕ)) (command : Command) (x : Extensions) (found : AskFor words command x) (reading : IsReading command) (before after : Streams) where
  to_read : AskToRead words
  to_read = (command, found.0, found.1, reading)

  -- a command that reads
  pub source-runs : (status : Status) → AnswersSource command (extension_words x) before after status → Runs words before after status
  source-runs ReadFault a = (to_read, a.0, a.1, a.2)
  source-runs TooLong a = (to_read, a.0, a.1, a.2)
  source-runs NotUtf8 a = (to_read, a.0, a.1, a.2, a.3, a.4)
  source-runs NoMemory a = (inr (to_read, a.0), a.1, a.2)
  source-runs Done a = text-runs words command x found before after a.0 (works-read command before after a.0 reading a.1) Done a.2
  source-runs Refused a = text-runs words command x found before after a.0 (works-read command before after a.0 reading a.1) Refused a.2
  source-runs WriteFault a = text-runs words command x found before after a.0 (works-read command before after a.0 reading a.1) WriteFault a.2
  source-runs Usage a = absurd a

-- `bench`, which reads nothing
pub bench-runs : (words : List (List ℕ)) (n : ℕ) (x : Extensions) (found : AskFor words (Bench n) x) (before after : Streams) (status : Status) → SameSource before after
    → AnswersText (Bench n) (generated n) (extension_words x) (out_of before) (out_of after) (err_of before) (err_of after) status → Runs words before after status
bench-runs words n x found before after status same a = text-runs words (Bench n) x found before after (generated n) (same, refl) status a

-- ---- a text that the command accepts

-- what the words ask for is the command and the extension types that were found
given-accepts : (words : List (List ℕ)) (command : Command) (x : Extensions) (before : Streams) (status : Status) → AskFor words command x
    → ((text : List ℕ) → IsGiven command before text → Accepts command text (extension_words x) → IsAcceptance status) → AcceptsGiven words before status
given-accepts words command x before status found a other names extensions text asks known given accepts =
    let one = Asks-one words other command names found.0 asks found.1 in
    let types : extensions ≡ extension_words x =
    one-known found.0 extensions (extension_words x) (subst (λ (n : List (List ℕ)). AreNamed n extensions) one.1 known) found.2 in
    a text (subst (λ (c : Command). IsGiven c before text) one.0 given)
    (subst (λ (t : List (List ℕ)). Accepts command text t) types (subst (λ (c : Command). Accepts c text extensions) one.0 accepts))

pub source-accepts : (words : List (List ℕ)) (command : Command) (x : Extensions) (before : Streams) (status : Status) → AskFor words command x → IsReading command
    → AcceptsSource command (extension_words x) before.left status → AcceptsGiven words before status
source-accepts words command x before status found reading a =
    given-accepts words command x before status found
    (λ text given accepts. let l = given-left command before text reading given in a text l.0 l.1 l.2 accepts)

pub bench-accepts : (words : List (List ℕ)) (n : ℕ) (x : Extensions) (before : Streams) (status : Status) → AskFor words (Bench n) x
    → (Accepts (Bench n) (generated n) (extension_words x) → IsAcceptance status) → AcceptsGiven words before status
bench-accepts words n x before status found a =
    given-accepts words (Bench n) x before status found
    (λ text given accepts. a (subst (λ (t : List ℕ). Accepts (Bench n) t (extension_words x)) given accepts))
