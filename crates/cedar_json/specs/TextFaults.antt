-- SPDX-License-Identifier: Apache-2.0
-- Texts: what is first wrong with a text that has to be a fragment in JSON, and what to do about it.
use Rattle.std.specs.Prelude.{◌≡◌, ℕ, ◌==◌, nat_lt, Bool, ◌||◌, is_some, if◌then◌else◌, List, [], ◌∷◌, codes, Option, Some, None, option_map}
use Rattle.std.specs.Str.{trim_start}
use Rattle.serde_json.specs.Data.{Data}
use Rattle.serde_json.specs.Find.{get}
use Rattle.serde_json.specs.Read.{read}
use Rattle.cedar_json_fault.specs.JsonErrors.{json_error, fault_of, path_of}
use Rattle.cedar_json_fault.specs.declared.json_error.JsonDeserializationAdvice.{JsonDeserializationAdvice}
use Rattle.cedar_json_fault.specs.declared.json_error.JsonDeserializationAdvice.TheVariants as advice
use Rattle.cedar_json_fault.specs.declared.json_error.JsonDeserializationError.{JsonDeserializationError}
use Rattle.cedar_json_fault.specs.declared.json_fault.JsonFault.TheVariants as fault
use Rattle.cedar_json_types.specs.Faults.{Fault, here, first}
use Rattle.cedar_fragment.specs.ActionUids.{over_raw}
use Rattle.cedar_fragment.specs.declared.definitions.Fragment.{Fragment}
use Rattle.cedar_written.specs.declared.raw_name.RawName.{RawName}
use Rattle.cedar_json_namespaces.specs.Namespaces.{IsFragment, fragment_fault}
use Rattle.cedar_json_counts.specs.Counts.{capped, colons, members_in}

-- some object of the text has a key twice
abbrev pub repeats : List ℕ → Data → Fault
repeats s d = if nat_lt (capped (members_in d)) (capped (colons s)) then Some (here (fault.RepeatedKey (capped (colons s)) (capped (members_in d)))) else None

-- ---- texts

-- the value that a text is, where it is one
abbrev pub value_fault : List ℕ → Option Data → Fault
value_fault s None = Some (here fault.NotJson)
value_fault s (Some d) = first (repeats s d) (fragment_fault d)

-- the first fault of a text, with no advice
abbrev pub text_fault : List ℕ → Fault
text_fault s = value_fault s (read s)

-- the value has a key that a namespace has
abbrev pub namespace_like : Data → Bool
namespace_like d = is_some (get (codes "entityTypes") d) || is_some (get (codes "actions") d) || is_some (get (codes "commonTypes") d)

abbrev pub missing_namespace : Option Data → Option JsonDeserializationAdvice
missing_namespace None = None
missing_namespace (Some d) = if namespace_like d then Some advice.MissingNamespace else None

-- what to do, by the text behind its first white space
abbrev pub advice_behind : List ℕ → Option Data → Option JsonDeserializationAdvice
advice_behind [] value = None
advice_behind (b ∷ bs) value = if b == 123 then missing_namespace value else Some advice.CedarFormat

abbrev pub advice_for : List ℕ → Option JsonDeserializationAdvice
advice_for s = advice_behind (trim_start s) (read s)

abbrev pub advised : Option JsonDeserializationAdvice → JsonDeserializationError → JsonDeserializationError
advised advice e = json_error (fault_of e) (path_of e) advice

-- the first fault of a text, with the advice
abbrev pub advised_fault : List ℕ → Fault
advised_fault s = option_map (advised (advice_for s)) (text_fault s)

-- the text is a value that repeats no key and has the shape of the fragment
abbrev pub IsFragmentText : List ℕ → Fragment RawName over_raw → Type 0
IsFragmentText s f = (d : Data) × (read s ≡ Some d) × (repeats s d ≡ None) × IsFragment d f
