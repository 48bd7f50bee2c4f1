-- SPDX-License-Identifier: Apache-2.0
-- What a schema holds.
use Rattle.std.specs.Prelude.{List, [], Option}
use Rattle.std.specs.Ordering.{ordering_then}
use Rattle.std.specs.declared.cmp.Ordering.{Ordering}
use Rattle.cedar_data.specs.Maps.{get}
use Rattle.cedar_names.specs.EntityUids.{eid_text, eid_of, entity_type_of}
use Rattle.cedar_names.specs.Names.{entity_cmp}
use Rattle.cedar_names.specs.Order.{word_cmp}
use Rattle.cedar_names.specs.declared.entity_uid.EntityUID.{EntityUID}
use Rattle.cedar_names.specs.declared.name.EntityType.{EntityType}
use Rattle.cedar_names.specs.of_text.declared.location.Loc.{Loc}
use Rattle.cedar_types.specs.Types.{attributes_of}
use Rattle.cedar_types.specs.declared.ty.Attributes.{Attributes}
use Rattle.cedar_types.specs.declared.ty.ResolvedType.{ResolvedType}
use Rattle.cedar_types.specs.declared.value.ValueMap.{ValueMap}
use Rattle.cedar_resolved.specs.declared.action.ValidatorActionId.{ValidatorActionId}
use Rattle.cedar_resolved.specs.declared.entity_type.ValidatorEntityType.{ValidatorEntityType}
use Rattle.cedar_resolved.specs.declared.schema.ValidatorSchema.{ValidatorSchema}

-- the order of entities: by type, then by id
abbrev pub uid_cmp : EntityUID → EntityUID → Ordering
uid_cmp a b = ordering_then (entity_cmp (entity_type_of a) (entity_type_of b)) (word_cmp (eid_text (eid_of a)) (eid_text (eid_of b)))

-- no attributes
abbrev pub no_attributes : Attributes
no_attributes = attributes_of []

-- the name of an entity type
abbrev pub type_name : ValidatorEntityType → EntityType
type_name ty = ty.name

-- the attributes of an entity type
abbrev pub type_attributes : ValidatorEntityType → Attributes
type_attributes ty = ty.attributes

-- an entity type with other descendants
abbrev pub type_with : List EntityType → ValidatorEntityType → ValidatorEntityType
type_with descendants ty = record { name = ty.name; descendants = descendants; attributes = ty.attributes; kind = ty.kind; loc = ty.loc }

-- the name of an action
abbrev pub action_name : ValidatorActionId → EntityUID
action_name action = action.name

-- the entity types of an action's principals
abbrev pub action_principals : ValidatorActionId → List EntityType
action_principals action = action.principals

-- the entity types of an action's resources
abbrev pub action_resources : ValidatorActionId → List EntityType
action_resources action = action.resources

-- the actions that descend from an action
abbrev pub action_descendants : ValidatorActionId → List EntityUID
action_descendants action = action.descendants

-- the type of an action's context
abbrev pub action_context : ValidatorActionId → ResolvedType
action_context action = action.context

-- the types of an action's attributes
abbrev pub action_attribute_types : ValidatorActionId → Attributes
action_attribute_types action = action.attribute_types

-- the values of an action's attributes
abbrev pub action_attributes : ValidatorActionId → ValueMap
action_attributes action = action.attributes

-- where an action is declared
abbrev pub action_loc : ValidatorActionId → Option Loc
action_loc action = action.loc

-- an action with other descendants
abbrev pub action_with : List EntityUID → ValidatorActionId → ValidatorActionId
action_with descendants action =
    record { name = action.name; principals = action.principals; resources = action.resources; descendants = descendants; context = action.context; attribute_types = action.attribute_types; attributes = action.attributes; loc = action.loc }

-- the entity types of a schema by name, in the order of the names
abbrev pub types : ValidatorSchema → List (EntityType × ValidatorEntityType)
types schema = schema.entity_types

-- the actions of a schema by name, in the order of the names
abbrev pub action_types : ValidatorSchema → List (EntityUID × ValidatorActionId)
action_types schema = schema.action_ids

-- the entity type of a name in a schema
abbrev pub type_at : ValidatorSchema → EntityType → Option ValidatorEntityType
type_at schema name = get entity_cmp (types schema) name

-- the action of a name in a schema
abbrev pub action_at : ValidatorSchema → EntityUID → Option ValidatorActionId
action_at schema name = get uid_cmp (action_types schema) name

-- an entity type under its name
abbrev pub type_entry : ValidatorEntityType → EntityType × ValidatorEntityType
type_entry ty = (type_name ty, ty)

-- an action under its name
abbrev pub action_entry : ValidatorActionId → EntityUID × ValidatorActionId
action_entry action = (action_name action, action)
