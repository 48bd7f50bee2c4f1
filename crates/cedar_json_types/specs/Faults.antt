-- SPDX-License-Identifier: Apache-2.0
-- Faults of a JSON value, each with the keys and places that lead to it, and how the first of several is found.
use Rattle.std.specs.Prelude.{◌≡◌, ℕ, ◌+◌, Bool, true, false, is_some, if◌then◌else◌, List, [], ◌∷◌, ◌++◌, codes, decimal, Option, Some, None, Result, Ok, Err}
use Rattle.cedar_data.specs.declared.memory.Failure.{Failure}
use Rattle.cedar_data.specs.declared.memory.Failure.TheVariants.{Refused, NoMemory}
use Rattle.cedar_text.specs.Words.{has_word}
use Rattle.cedar_text.specs.declared.fault.NameFault.{NameFault}
use Rattle.serde_json.specs.Data.{Data, null, boolean, number, string, array, object, Items, no_items, item, Members, no_members, member}
use Rattle.serde_json.specs.Find.{get}
use Rattle.cedar_json_fault.specs.JsonErrors.{json_error, fault_of, path_of, advice_of}
use Rattle.cedar_json_fault.specs.declared.json_error.JsonDeserializationError.{JsonDeserializationError}
use Rattle.cedar_json_fault.specs.declared.json_fault.JsonFault.{JsonFault}
use Rattle.cedar_json_fault.specs.declared.json_fault.JsonFault.TheVariants as fault
use Rattle.cedar_json_fault.specs.declared.json_fault.JsonKind.{JsonKind}
use Rattle.cedar_json_fault.specs.declared.json_fault.JsonKind.TheVariants as kinds
use Rattle.cedar_json_fault.specs.declared.json_fault.JsonShape.{JsonShape}
use Rattle.cedar_json_fault.specs.declared.json_fault.NameKind.{NameKind}

-- ---- one fault

-- what is wrong with a value, if something is
abbrev pub Fault : Type 0
Fault = Option JsonDeserializationError

abbrev pub kind : Data → JsonKind
kind null = kinds.Null
kind (boolean b) = kinds.Boolean
kind (number n) = kinds.Number
kind (string s) = kinds.String
kind (array ds) = kinds.Array
kind (object ms) = kinds.Object

-- the fault lies in the value itself
abbrev pub here : JsonFault → JsonDeserializationError
here f = json_error f [] None

-- the fault lies in the member at the key
abbrev pub behind : List ℕ → JsonDeserializationError → JsonDeserializationError
behind k e = json_error (fault_of e) (k ∷ path_of e) (advice_of e)

abbrev pub wrong_type : Data → JsonKind → JsonDeserializationError
wrong_type d wanted = here (fault.WrongType (kind d) wanted)

abbrev pub missing : List ℕ → JsonDeserializationError
missing field = here (fault.MissingField field)

abbrev pub unknown : List ℕ → JsonShape → JsonDeserializationError
unknown field shape = here (fault.UnknownField field shape)

abbrev pub bad_name : NameKind → List ℕ → NameFault → JsonDeserializationError
bad_name what text f = here (fault.InvalidName what text f)

-- ---- the first of several

-- the first fault, or else the second
abbrev pub first : Fault → Fault → Fault
first None other = other
first (Some e) other = Some e

-- a fault of the member at the key
abbrev pub under : List ℕ → Fault → Fault
under k None = None
under k (Some e) = Some (behind k e)

-- what a call refused
abbrev pub refusal : {T : Type 0} → Result T (Failure JsonDeserializationError) → Fault
refusal (Ok v) = None
refusal (Err (Refused e)) = Some e
refusal (Err NoMemory) = None

abbrev pub IsUnder : {T : Type 0} → List ℕ → Result T (Failure JsonDeserializationError) → JsonDeserializationError → Type 0
IsUnder k read e = under k (refusal read) ≡ Some e

-- ---- the kind of a value

-- the value has to be an object, of whose members more may be asked
abbrev pub in_object : (Members → Fault) → Data → Fault
in_object more null = Some (wrong_type null kinds.Object)
in_object more (boolean b) = Some (wrong_type (boolean b) kinds.Object)
in_object more (number n) = Some (wrong_type (number n) kinds.Object)
in_object more (string s) = Some (wrong_type (string s) kinds.Object)
in_object more (array ds) = Some (wrong_type (array ds) kinds.Object)
in_object more (object ms) = more ms

-- the value has to be an array, of whose items more may be asked
abbrev pub in_array : (Items → Fault) → Data → Fault
in_array more null = Some (wrong_type null kinds.Array)
in_array more (boolean b) = Some (wrong_type (boolean b) kinds.Array)
in_array more (number n) = Some (wrong_type (number n) kinds.Array)
in_array more (string s) = Some (wrong_type (string s) kinds.Array)
in_array more (array ds) = more ds
in_array more (object ms) = Some (wrong_type (object ms) kinds.Array)

-- the value has to be a text, of which more may be asked
abbrev pub in_text : (List ℕ → Fault) → Data → Fault
in_text more null = Some (wrong_type null kinds.String)
in_text more (boolean b) = Some (wrong_type (boolean b) kinds.String)
in_text more (number n) = Some (wrong_type (number n) kinds.String)
in_text more (string s) = more s
in_text more (array ds) = Some (wrong_type (array ds) kinds.String)
in_text more (object ms) = Some (wrong_type (object ms) kinds.String)

-- the value has to be a truth value
abbrev pub no_flag : Data → Fault
no_flag null = Some (wrong_type null kinds.Boolean)
no_flag (boolean b) = None
no_flag (number n) = Some (wrong_type (number n) kinds.Boolean)
no_flag (string s) = Some (wrong_type (string s) kinds.Boolean)
no_flag (array ds) = Some (wrong_type (array ds) kinds.Boolean)
no_flag (object ms) = Some (wrong_type (object ms) kinds.Boolean)

-- `null` is fine
abbrev pub unless_null : (Data → Fault) → Data → Fault
unless_null fault null = None
unless_null fault (boolean b) = fault (boolean b)
unless_null fault (number n) = fault (number n)
unless_null fault (string s) = fault (string s)
unless_null fault (array ds) = fault (array ds)
unless_null fault (object ms) = fault (object ms)

-- nothing more is asked of a text
abbrev pub any_text : List ℕ → Fault
any_text s = None

-- ---- the members of an object

-- the member at the key has to be there, and to have no fault
abbrev pub in_field : List ℕ → (Data → Fault) → Option Data → Fault
in_field k fault None = Some (missing k)
in_field k fault (Some d) = under k (fault d)

abbrev pub needs : List ℕ → (Data → Fault) → Data → Fault
needs k fault d = in_field k fault (get k d)

-- the member at the key has no fault, where it is there
abbrev pub if_there : List ℕ → (Data → Fault) → Option Data → Fault
if_there k fault None = None
if_there k fault (Some d) = under k (fault d)

abbrev pub allows : List ℕ → (Data → Fault) → Data → Fault
allows k fault d = if_there k fault (get k d)

-- the first key that is none of these, in the order of the keys
abbrev pub unknown_key : JsonShape → List (List ℕ) → Members → Fault
unknown_key shape keys no_members = None
unknown_key shape keys (member k d ms) = if has_word keys k then unknown_key shape keys ms else Some (unknown k shape)

-- the value has to be an object that has no other keys than these
abbrev pub keys_fault : JsonShape → List (List ℕ) → Data → Fault
keys_fault shape keys = in_object (unknown_key shape keys)

-- the key may not be there
unfoldable pub excess : JsonShape → List ℕ → Data → Fault
excess shape k d = if is_some (get k d) then Some (unknown k shape) else None

-- the first of these keys that is there, where none may be
abbrev pub excess_of : JsonShape → List (List ℕ) → Data → Fault
excess_of shape [] d = None
excess_of shape (k ∷ ks) d = first (excess shape k d) (excess_of shape ks d)

-- ---- maps and arrays

-- the first fault of the members of a map, in the order of the keys
abbrev pub members_fault : (List ℕ → Data → Fault) → Members → Fault
members_fault fault no_members = None
members_fault fault (member k d ms) = first (fault k d) (members_fault fault ms)

abbrev pub map_fault : (List ℕ → Data → Fault) → Data → Fault
map_fault fault = in_object (members_fault fault)

-- what is wrong with a member of a map: its key, or else its value
abbrev pub entry_fault : (List ℕ → Fault) → (Data → Fault) → List ℕ → Data → Fault
entry_fault key value k d = first (key k) (under k (value d))

-- the first fault of the items, from the place of the first of them on
abbrev pub items_fault : (Data → Fault) → ℕ → Items → Fault
items_fault fault place no_items = None
items_fault fault place (item d ds) = first (under (decimal place) (fault d)) (items_fault fault (place + 1) ds)

abbrev pub array_fault : (Data → Fault) → Data → Fault
array_fault fault = in_array (items_fault fault 0)
