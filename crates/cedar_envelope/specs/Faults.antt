-- SPDX-License-Identifier: Apache-2.0
-- The first fault of a text that has to be an envelope.
use Rattle.std.specs.Prelude.{ℕ, ◌++◌, nat_lt, if◌then◌else◌, List, [], ◌∷◌, Option, Some, None}
use Rattle.cedar_text.specs.Words.{has_word}
use Rattle.serde_json.specs.Data.{Data, null, boolean, number, string, array, object, Members, no_members, member}
use Rattle.serde_json.specs.Find.{get}
use Rattle.serde_json.specs.Read.{read}
use Rattle.cedar_json_counts.specs.Counts.{capped, colons, members_in}
use Rattle.cedar_json_types.specs.Faults.{kind}
use Rattle.cedar_envelope.specs.declared.fault.EnvelopeFault.{EnvelopeFault}
use Rattle.cedar_envelope.specs.declared.fault.EnvelopeFault.TheVariants.{MissingField, NotAString, NotAnObject, NotJson, RepeatedKey, UnknownField}

-- what is wrong with a text, if something is
abbrev pub Fault : Type 0
Fault = Option EnvelopeFault

-- the first fault, or else the second
abbrev pub first : Fault → Fault → Fault
first None other = other
first (Some f) other = Some f

-- some object of the text has a key twice
abbrev pub repeat_fault : List ℕ → Data → Fault
repeat_fault s d = if nat_lt (capped (members_in d)) (capped (colons s)) then Some (RepeatedKey (capped (colons s)) (capped (members_in d))) else None

-- the first key that is none of these, in the order of the keys
abbrev pub unknown_fault : List (List ℕ) → Members → Fault
unknown_fault keys no_members = None
unknown_fault keys (member k d ms) = if has_word keys k then unknown_fault keys ms else Some (UnknownField k)

-- the value has to be an object that has no other keys than these
abbrev pub keys_fault : List (List ℕ) → Data → Fault
keys_fault keys null = Some (NotAnObject (kind null))
keys_fault keys (boolean b) = Some (NotAnObject (kind (boolean b)))
keys_fault keys (number n) = Some (NotAnObject (kind (number n)))
keys_fault keys (string s) = Some (NotAnObject (kind (string s)))
keys_fault keys (array ds) = Some (NotAnObject (kind (array ds)))
keys_fault keys (object ms) = unknown_fault keys ms

-- the member at the key has to be there
abbrev pub member_fault : List ℕ → Option Data → Fault
member_fault k None = Some (MissingField k)
member_fault k (Some d) = None

abbrev pub value_fault : Data → List ℕ → Fault
value_fault d k = member_fault k (get k d)

-- the member at the key has to be there, and to be a text
abbrev pub string_fault : List ℕ → Option Data → Fault
string_fault k None = Some (MissingField k)
string_fault k (Some null) = Some (NotAString k (kind null))
string_fault k (Some (boolean b)) = Some (NotAString k (kind (boolean b)))
string_fault k (Some (number n)) = Some (NotAString k (kind (number n)))
string_fault k (Some (string s)) = None
string_fault k (Some (array ds)) = Some (NotAString k (kind (array ds)))
string_fault k (Some (object ms)) = Some (NotAString k (kind (object ms)))

abbrev pub text_fault : Data → List ℕ → Fault
text_fault d k = string_fault k (get k d)

-- the fault at the first of the keys at which there is one
abbrev pub first_at : (List ℕ → Fault) → List (List ℕ) → Fault
first_at fault [] = None
first_at fault (k ∷ ks) = first (fault k) (first_at fault ks)

-- the first fault of the value that the text is
abbrev pub fault_in : List ℕ → List (List ℕ) → List (List ℕ) → Data → Fault
fault_in s texts values d =
    first (repeat_fault s d) (first (keys_fault (texts ++ values) d) (first (first_at (text_fault d) texts) (first_at (value_fault d) values)))

-- the text has to be JSON
abbrev pub read_fault : Option Data → (Data → Fault) → Fault
read_fault None more = Some NotJson
read_fault (Some d) more = more d

-- the first fault of a text
abbrev pub envelope_fault : List ℕ → List (List ℕ) → List (List ℕ) → Fault
envelope_fault s texts values = read_fault (read s) (fault_in s texts values)
