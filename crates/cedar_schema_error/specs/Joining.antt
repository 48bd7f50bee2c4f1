-- SPDX-License-Identifier: Apache-2.0
-- Errors joined into one.
use Rattle.std.specs.Prelude.{List, [], ◌∷◌}
use Rattle.std.specs.List.{flat_map}
use Rattle.cedar_names.specs.of_text.Lists.{elements}
use Rattle.cedar_names.specs.of_text.declared.non_empty.NonEmpty.{NonEmpty}
use Rattle.cedar_fragment.specs.ActionUids.{over_conditional}
use Rattle.cedar_fragment.specs.declared.action_uid.ActionEntityUID.{ActionEntityUID}
use Rattle.cedar_written.specs.declared.conditional_name.ConditionalName.{ConditionalName}
use Rattle.cedar_schema_error.specs.declared.schema_error.SchemaError.{SchemaError}
use Rattle.cedar_schema_error.specs.declared.schema_error.SchemaError.TheVariants as error

-- the undefined types of an error
abbrev pub types_of : SchemaError → List ConditionalName
types_of (error.TypeNotDefined e) = elements e.undefined_types
types_of _ = []

-- the undefined actions of an error
abbrev pub actions_of : SchemaError → List (ActionEntityUID ConditionalName over_conditional)
actions_of (error.ActionNotDefined e) = elements e.uids
actions_of _ = []

-- the error of all these types, else of all these actions, else the first
abbrev pub joined_by : List ConditionalName → List (ActionEntityUID ConditionalName over_conditional) → SchemaError → SchemaError
joined_by (t ∷ ts) uids first = error.TypeNotDefined (record { undefined_types = record { head = t; tail = ts } })
joined_by [] (uid ∷ uids) first = error.ActionNotDefined (record { uids = record { head = uid; tail = uids } })
joined_by [] [] first = first

-- all undefined types of the errors; where there are none, all undefined actions; where there are none, the first error
abbrev pub joined_errors : NonEmpty SchemaError → SchemaError
joined_errors errors = joined_by (flat_map types_of (elements errors)) (flat_map actions_of (elements errors)) errors.head
