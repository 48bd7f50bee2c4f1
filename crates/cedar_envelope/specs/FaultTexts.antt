-- SPDX-License-Identifier: Apache-2.0
-- What is said of the faults of an envelope.
use Rattle.std.specs.Prelude.{ℕ, List, ◌++◌, codes}
use Rattle.cedar_envelope.specs.declared.fault.EnvelopeFault.{EnvelopeFault}
use Rattle.cedar_envelope.specs.declared.fault.EnvelopeFault.TheVariants.{MissingField, NotAString, NotAnObject, NotJson, RepeatedKey, UnknownField}

abbrev pub fault_text : EnvelopeFault → List ℕ
fault_text NotJson = codes "invalid JSON"
fault_text (RepeatedKey colons members) = codes "invalid entry: found duplicate key"
fault_text (NotAnObject found) = codes "the input is not an object"
fault_text (UnknownField field) = codes "unknown field `" ++ field ++ codes "`"
fault_text (MissingField field) = codes "missing field `" ++ field ++ codes "`"
fault_text (NotAString field found) = codes "field `" ++ field ++ codes "` is not a string"
