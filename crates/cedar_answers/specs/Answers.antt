-- SPDX-License-Identifier: Apache-2.0
-- What answering a text does to the sinks, by the status.
use Rattle.std.specs.Prelude.{◌≡◌, ◌⊎◌, ℕ, List, Option}
use Rattle.cedar_streams.specs.Bytes.{Takes, TakesFront}
use Rattle.cedar_streams.specs.Faults.{Rose}
use Rattle.cedar_commands.specs.declared.status.Status.{Status}
use Rattle.cedar_commands.specs.declared.status.Status.TheVariants.{Done, Refused, Usage, ReadFault, WriteFault, NotUtf8, TooLong, NoMemory}

-- what is known of a sink: the bytes that it has taken, and how often it failed
pub record Sunk : Type 0 where
  pub bytes : Option (List ℕ)
  pub faults : ℕ

-- what is known of this sink, by what one of its type tells of its bytes and of its faults
abbrev pub sunk : {K : Type 0} → (K → Option (List ℕ)) → (K → ℕ) → K → Sunk
sunk written faults sink = record { bytes = written sink; faults = faults sink }

-- writing a text that is due: it is written and the sink didn't fail, or the sink failed and took a front of it
abbrev pub Puts : List ℕ → Sunk → Sunk → Status → Type 0
Puts due before after Done = Takes before.bytes after.bytes due × (after.faults ≡ before.faults)
Puts due before after WriteFault = TakesFront before.bytes after.bytes due × Rose before.faults after.faults
Puts due before after Refused = ⊥
Puts due before after Usage = ⊥
Puts due before after ReadFault = ⊥
Puts due before after NotUtf8 = ⊥
Puts due before after TooLong = ⊥
Puts due before after NoMemory = ⊥

-- writing a refusal that tells this: it is written and the sink didn't fail, or the sink failed and took a front of it, or there was no memory for it
abbrev pub Rejects : List ℕ → Sunk → Sunk → Status → Type 0
Rejects told before after Refused = Takes before.bytes after.bytes told × (after.faults ≡ before.faults)
Rejects told before after WriteFault = TakesFront before.bytes after.bytes told × Rose before.faults after.faults
Rejects told before after NoMemory = after ≡ before
Rejects told before after Done = ⊥
Rejects told before after Usage = ⊥
Rejects told before after ReadFault = ⊥
Rejects told before after NotUtf8 = ⊥
Rejects told before after TooLong = ⊥

-- answering a text, of which such a text is due, or which is refused by what tells so; with what is known of `out` and of `err` before and after
abbrev pub Answers : (List ℕ → Type 0) → (List ℕ → Type 0) → Sunk → Sunk → Sunk → Sunk → Status → Type 0
Answers IsDue IsTold out out' err err' Done = (due : List ℕ) × IsDue due × Puts due out out' Done × (err' ≡ err)
Answers IsDue IsTold out out' err err' Refused = (told : List ℕ) × IsTold told × Rejects told err err' Refused × (out' ≡ out)
Answers IsDue IsTold out out' err err' WriteFault =
    ((due : List ℕ) × IsDue due × Puts due out out' WriteFault × (err' ≡ err))
    ⊎ ((told : List ℕ) × IsTold told × Rejects told err err' WriteFault × (out' ≡ out))
Answers IsDue IsTold out out' err err' NoMemory = (out' ≡ out) × (err' ≡ err)
Answers IsDue IsTold out out' err err' Usage = ⊥
Answers IsDue IsTold out out' err err' ReadFault = ⊥
Answers IsDue IsTold out out' err err' NotUtf8 = ⊥
Answers IsDue IsTold out out' err err' TooLong = ⊥

-- a status that a text may have which is accepted: it is, or memory or a stream failed
abbrev pub IsAcceptance : Status → Type 0
IsAcceptance Done = Unit {0}
IsAcceptance WriteFault = Unit {0}
IsAcceptance ReadFault = Unit {0}
IsAcceptance NoMemory = Unit {0}
IsAcceptance Refused = ⊥
IsAcceptance Usage = ⊥
IsAcceptance NotUtf8 = ⊥
IsAcceptance TooLong = ⊥
