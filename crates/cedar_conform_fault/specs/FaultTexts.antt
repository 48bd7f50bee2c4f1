-- SPDX-License-Identifier: Apache-2.0
-- What is said of a value that doesn't fit.
use Rattle.std.specs.Prelude.{ℕ, List, [], ◌∷◌, ◌++◌, codes}
use Rattle.std.specs.List.{flat_map}
use Rattle.cedar_text.specs.Joining.{joined}
use Rattle.cedar_names.specs.EntityUids.{uid_text}
use Rattle.cedar_names.specs.Names.{entity_words, name_words}
use Rattle.cedar_names.specs.declared.name.EntityType.{EntityType}
use Rattle.cedar_print.specs.Pieces.{quoted_text}
use Rattle.cedar_json_fault.specs.JsonTexts as json
use Rattle.cedar_conform_fault.specs.declared.fault.Fault.{Fault}
use Rattle.cedar_conform_fault.specs.declared.kind.FaultKind.{FaultKind}
use Rattle.cedar_conform_fault.specs.declared.kind.FaultKind.TheVariants as kind

-- the name of an entity type
abbrev pub type_text : EntityType → List ℕ
type_text ty = joined (entity_words ty)

-- the type doesn't list the entity of this id
abbrev pub no_choice_text : EntityType → List ℕ → List ℕ
no_choice_text ty id = quoted_text id ++ (codes " is not a choice of `" ++ type_text ty ++ codes "`")

-- entities of the second type are in none of the first
abbrev pub no_ancestor_text : EntityType → EntityType → List ℕ
no_ancestor_text ty of = codes "`" ++ type_text ty ++ codes "`" ++ codes " is not an ancestor type of `" ++ type_text of ++ codes "`"

-- what is wrong
abbrev pub kind_text : FaultKind → List ℕ
kind_text (kind.WrongKind found wanted) = codes "expected " ++ json.kind_text wanted ++ codes ", found " ++ json.kind_text found
kind_text (kind.UnknownField field) = codes "unknown field `" ++ field ++ codes "`"
kind_text (kind.MissingField field) = codes "missing field `" ++ field ++ codes "`"
kind_text (kind.InvalidName text fault) = codes "invalid name `" ++ text ++ codes "`"
kind_text kind.NumberOutOfRange = codes "number is not a 64-bit integer"
kind_text (kind.UnknownEntityType ty) = codes "unknown entity type `" ++ type_text ty ++ codes "`"
kind_text (kind.WrongEntityType found wanted) = codes "expected entity type `" ++ type_text wanted ++ codes "`, found `" ++ type_text found ++ codes "`"
kind_text (kind.NotAChoice ty id) = no_choice_text ty id
kind_text (kind.UnknownAttribute name) = codes "unknown attribute `" ++ name ++ codes "`"
kind_text (kind.MissingAttribute name) = codes "missing attribute `" ++ name ++ codes "`"
kind_text kind.TagsNotAllowed = codes "tags are not allowed"
kind_text (kind.NotAnAncestor ty of) = no_ancestor_text ty of
kind_text kind.EnumeratedHasData = codes "an enumerated entity has data"
kind_text (kind.ExtensionValue name) = codes "extension values of `" ++ joined (name_words name) ++ codes "` are not supported"
kind_text (kind.RepeatedEntity uid) = codes "entity " ++ uid_text uid ++ codes " is repeated"

-- keys, each after a slash
abbrev pub further_keys : List (List ℕ) → List ℕ
further_keys keys = flat_map (λ key. codes "/" ++ key) keys

-- keys with slashes between them
abbrev pub path_text : List (List ℕ) → List ℕ
path_text [] = []
path_text (key ∷ keys) = key ++ further_keys keys

-- where and why a value doesn't fit
abbrev pub fault_text : Fault → List ℕ
fault_text fault = codes "at " ++ path_text fault.path ++ codes ": " ++ kind_text fault.kind
