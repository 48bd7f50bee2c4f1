-- SPDX-License-Identifier: Apache-2.0
-- What is said of the faults of a schema in JSON.
use Rattle.std.specs.Prelude.{ℕ, List, [], ◌∷◌, ◌++◌, codes}
use Rattle.std.specs.List.{flat_map}
use Rattle.cedar_written.specs.FaultTexts.{name_fault_text}
use Rattle.cedar_written.specs.Identifiers.{unreserved_word}
use Rattle.cedar_written.specs.CommonTypeIds.{reserved_basename_text}
use Rattle.cedar_json_fault.specs.declared.json_error.JsonDeserializationAdvice.{JsonDeserializationAdvice}
use Rattle.cedar_json_fault.specs.declared.json_error.JsonDeserializationAdvice.TheVariants as advice
use Rattle.cedar_json_fault.specs.declared.json_fault.JsonFault.{JsonFault}
use Rattle.cedar_json_fault.specs.declared.json_fault.JsonFault.TheVariants as fault
use Rattle.cedar_json_fault.specs.declared.json_fault.JsonKind.{JsonKind}
use Rattle.cedar_json_fault.specs.declared.json_fault.JsonKind.TheVariants as value
use Rattle.cedar_json_fault.specs.declared.json_fault.JsonShape.{JsonShape}
use Rattle.cedar_json_fault.specs.declared.json_fault.JsonShape.TheVariants as shape
use Rattle.cedar_json_fault.specs.declared.json_fault.NameKind.{NameKind}
use Rattle.cedar_json_fault.specs.declared.json_fault.NameKind.TheVariants as what

-- texts, each after a comma
abbrev pub others_text : List (List ℕ) → List ℕ
others_text others = flat_map (λ other. codes ", " ++ other) others

-- texts with commas between them
abbrev pub listed : List (List ℕ) → List ℕ
listed [] = []
listed (text ∷ others) = text ++ others_text others

-- the keys that an object of this shape may have
abbrev pub expected_text : JsonShape → List ℕ
expected_text shape.Namespace = codes "expected one of `commonTypes`, `entityTypes`, `actions`, `annotations`"
expected_text shape.EntityType = codes "expected one of `memberOfTypes`, `shape`, `tags`, `enum`, `annotations`"
expected_text shape.Action = codes "expected one of `attributes`, `appliesTo`, `memberOf`, `annotations`"
expected_text shape.ApplySpec = codes "expected one of `resourceTypes`, `principalTypes`, `context`"
expected_text shape.Parent = codes "expected `id` or `type`"
expected_text shape.AnyType = codes "expected one of `type`, `element`, `attributes`, `additionalAttributes`, `name`"
expected_text shape.NoFields = codes "there are no fields"
expected_text shape.SetType = codes "expected `element`"
expected_text shape.RecordType = codes "expected `attributes` or `additionalAttributes`"
expected_text shape.NamedType = codes "expected `name`"

-- a kind of JSON values
abbrev pub kind_text : JsonKind → List ℕ
kind_text value.Null = codes "null"
kind_text value.Boolean = codes "boolean"
kind_text value.Number = codes "number"
kind_text value.String = codes "string"
kind_text value.Array = codes "array"
kind_text value.Object = codes "object"

-- what a name has to name
abbrev pub named_text : NameKind → List ℕ
named_text what.Id = codes "id"
named_text what.Name = codes "name"
named_text what.Namespace = codes "namespace"
named_text what.EntityType = codes "entity type"
named_text what.EntityOrCommonType = codes "entity or common type"
named_text what.CommonType = codes "common type"
named_text what.ExtensionType = codes "extension type"

-- a fault
abbrev pub fault_text : JsonFault → List ℕ
fault_text fault.NotJson = codes "invalid JSON"
fault_text (fault.RepeatedKey colons members) = codes "invalid entry: found duplicate key"
fault_text (fault.UnknownField field shape) = codes "unknown field `" ++ field ++ codes "`, " ++ expected_text shape
fault_text (fault.MissingField field) = codes "missing field `" ++ field ++ codes "`"
fault_text (fault.WrongType found wanted) = codes "invalid type: " ++ kind_text found ++ codes ", expected " ++ kind_text wanted
fault_text (fault.InvalidName what text fault) = codes "invalid " ++ named_text what ++ codes " `" ++ text ++ codes "`: " ++ name_fault_text fault
fault_text fault.EmptyEnum = codes "the vector provided was empty, NonEmpty needs at least one element"
fault_text (fault.UnexpectedFields fields) = codes "unexpected field: " ++ listed fields
fault_text (fault.ReservedId id) = reserved_basename_text (unreserved_word id)
fault_text fault.AnnotationsOnEmptyNamespace = codes "annotations are not allowed on the empty namespace"
fault_text fault.NumberOutOfRange = codes "number is not a 64-bit integer"
fault_text fault.TooDeep = codes "type or value nesting is too deep"

-- what to do instead
abbrev pub advice_text : JsonDeserializationAdvice → List ℕ
advice_text advice.CedarFormat = codes "this API was expecting a schema in the JSON format; did you mean to use a different function, which expects the Cedar schema format?"
advice_text advice.MissingNamespace = codes "JSON formatted schema must specify a namespace. If you want to use the empty namespace, explicitly specify it with `{ \"\": {..} }`"
