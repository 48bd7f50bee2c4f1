-- SPDX-License-Identifier: Apache-2.0
-- What is wrong with a value, by the words of names: places aside.
use Rattle.std.specs.Prelude.{ℕ, List}
use Rattle.cedar_text.specs.declared.fault.NameFault.{NameFault}
use Rattle.cedar_names.specs.EntityUids.{eid_of, eid_text, entity_type_of}
use Rattle.cedar_names.specs.Names.{entity_words, name_words}
use Rattle.cedar_json_fault.specs.declared.json_fault.JsonKind.{JsonKind}
use Rattle.cedar_conform_fault.specs.declared.fault.Fault.{Fault}
use Rattle.cedar_conform_fault.specs.declared.kind.FaultKind.{FaultKind}
use Rattle.cedar_conform_fault.specs.declared.kind.FaultKind.TheVariants as kind

-- a full name: its components
abbrev FullName : Type 0
FullName = List (List ℕ)

-- what is wrong with a value
pub data Flaw : Type 0 where
  -- the kind that was found, and the one that it has to be
  wrong_kind : JsonKind → JsonKind → Flaw
  unknown_field : List ℕ → Flaw
  missing_field : List ℕ → Flaw
  -- the text, and what is wrong with it
  invalid_name : List ℕ → NameFault → Flaw
  out_of_range : Flaw
  unknown_type : FullName → Flaw
  -- the type that was found, and the one that it has to be
  wrong_type : FullName → FullName → Flaw
  -- the type that lists its entities, and the id that it doesn't list
  no_choice : FullName → List ℕ → Flaw
  unknown_attribute : List ℕ → Flaw
  missing_attribute : List ℕ → Flaw
  tags_not_allowed : Flaw
  -- the type of the parent, and the type of the entity
  no_ancestor : FullName → FullName → Flaw
  enumerated_has_data : Flaw
  extension_value : FullName → Flaw
  -- the type and the id of the entity
  repeated : FullName → List ℕ → Flaw

-- the flaw that a fault tells
abbrev pub flaw : FaultKind → Flaw
flaw (kind.WrongKind found wanted) = wrong_kind found wanted
flaw (kind.UnknownField field) = unknown_field field
flaw (kind.MissingField field) = missing_field field
flaw (kind.InvalidName text fault) = invalid_name text fault
flaw kind.NumberOutOfRange = out_of_range
flaw (kind.UnknownEntityType ty) = unknown_type (entity_words ty)
flaw (kind.WrongEntityType found wanted) = wrong_type (entity_words found) (entity_words wanted)
flaw (kind.NotAChoice ty id) = no_choice (entity_words ty) id
flaw (kind.UnknownAttribute name) = unknown_attribute name
flaw (kind.MissingAttribute name) = missing_attribute name
flaw kind.TagsNotAllowed = tags_not_allowed
flaw (kind.NotAnAncestor ty of) = no_ancestor (entity_words ty) (entity_words of)
flaw kind.EnumeratedHasData = enumerated_has_data
flaw (kind.ExtensionValue name) = extension_value (name_words name)
flaw (kind.RepeatedEntity uid) = repeated (entity_words (entity_type_of uid)) (eid_text (eid_of uid))

-- a flaw behind the keys and places that lead to it
pub record Misfit : Type 0 where
  pub path : List (List ℕ)
  pub flaw : Flaw

-- what a fault tells
abbrev pub misfit : Fault → Misfit
misfit fault = record { path = fault.path; flaw = flaw fault.kind }
