-- SPDX-License-Identifier: Apache-2.0
-- The line of counts of a schema and of its warnings.
use Rattle.std.specs.Prelude.{ℕ, ◌+◌, ◌*◌, ◌-◌, ◌^◌, min, List, length, codes, decimal}
use Rattle.std.specs.List.{sum_by}
use Rattle.std.specs.Map.{values_of}
use Rattle.cedar_streams.specs.Texts.{◌+++◌}
use Rattle.cedar_convert_warnings.specs.declared.warnings.SchemaWarning.{SchemaWarning}
use Rattle.cedar_resolved.specs.Schemas.{types, action_descendants, action_principals, action_resources, action_types}
use Rattle.cedar_resolved.specs.declared.action.ValidatorActionId.{ValidatorActionId}
use Rattle.cedar_resolved.specs.declared.entity_type.ValidatorEntityType.{ValidatorEntityType}
use Rattle.cedar_resolved.specs.declared.schema.ValidatorSchema.{ValidatorSchema}

-- a count, which stops at the greatest u128
abbrev pub counted : ℕ → ℕ
counted count = min count (2 ^ 128 - 1)

-- how many entity types descend from an entity type
abbrev pub below_type : ValidatorEntityType → ℕ
below_type ty = length ty.descendants

-- how many actions descend from an action
abbrev pub below_action : ValidatorActionId → ℕ
below_action action = length (action_descendants action)

-- how many request environments an action has: each of its principals with each of its resources
abbrev pub environments_of : ValidatorActionId → ℕ
environments_of action = length (action_principals action) * length (action_resources action)

-- the descendants of all entity types and of all actions
abbrev pub descendants : ValidatorSchema → ℕ
descendants schema = sum_by below_type (values_of (types schema)) + sum_by below_action (values_of (action_types schema))

-- the request environments of all actions
abbrev pub environments : ValidatorSchema → ℕ
environments schema = sum_by environments_of (values_of (action_types schema))

-- a count with what is counted
abbrev pub count_text : ℕ → List ℕ → List ℕ
count_text count what = decimal count +++ what

-- the line of these five counts
abbrev pub line_of : ℕ → ℕ → ℕ → ℕ → ℕ → List ℕ
line_of entity_types actions warnings descendants environments =
    count_text entity_types (codes " entity types, ")
    +++ count_text actions (codes " actions, ")
    +++ count_text warnings (codes " warnings, ")
    +++ count_text descendants (codes " descendants, ")
    +++ count_text environments (codes " request environments\n")

-- the line of counts of a schema and of its warnings
abbrev pub counts : ValidatorSchema → List SchemaWarning → List ℕ
counts schema warnings =
    line_of (counted (length (types schema))) (counted (length (action_types schema))) (counted (length warnings))
    (counted (descendants schema)) (counted (environments schema))
