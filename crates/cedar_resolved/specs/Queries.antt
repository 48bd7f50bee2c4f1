-- SPDX-License-Identifier: Apache-2.0
-- What the queries of a schema give.
use Rattle.std.specs.Prelude.{Bool, true, false, List, [], ◌∷◌, ◌++◌, Option, Some, None, filter, flat_map}
use Rattle.std.specs.Map.{keys_of}
use Rattle.std.specs.Option.{unwrap_or}
use Rattle.cedar_data.specs.Sets.{contains}
use Rattle.cedar_names.specs.Names.{entity_cmp}
use Rattle.cedar_names.specs.declared.entity_uid.EntityUID.{EntityUID}
use Rattle.cedar_names.specs.declared.name.EntityType.{EntityType}
use Rattle.cedar_resolved.specs.Schemas.{action_attributes, action_descendants, action_principals, action_resources, action_types, type_at, types, uid_cmp}
use Rattle.cedar_resolved.specs.declared.action.ValidatorActionId.{ValidatorActionId}
use Rattle.cedar_resolved.specs.declared.ancestors.AncestorIter.{AncestorIter}
use Rattle.cedar_resolved.specs.declared.ancestors.GroupIter.{GroupIter}
use Rattle.cedar_resolved.specs.declared.applicable.PrincipalIter.{PrincipalIter}
use Rattle.cedar_resolved.specs.declared.applicable.ResourceIter.{ResourceIter}
use Rattle.cedar_resolved.specs.declared.entity.Entity.{Entity}
use Rattle.cedar_resolved.specs.declared.entity_type.ValidatorEntityType.{ValidatorEntityType}
use Rattle.cedar_resolved.specs.declared.schema.ValidatorSchema.{ValidatorSchema}

-- whether there is a value that passes
abbrev pub passes : {V : Type 0} → (V → Bool) → Option V → Bool
passes test None = false
passes test (Some value) = test value

-- the principals of actions, action by action
abbrev pub principals_of : List ValidatorActionId → List EntityType
principals_of actions = flat_map action_principals actions

-- the resources of actions, action by action
abbrev pub resources_of : List ValidatorActionId → List EntityType
resources_of actions = flat_map action_resources actions

-- the principals that are left: those of the action in hand, and those of the others
abbrev pub principals_left : PrincipalIter → List EntityType
principals_left it = unwrap_or it.current [] ++ principals_of it.actions

-- the resources that are left: those of the action in hand, and those of the others
abbrev pub resources_left : ResourceIter → List EntityType
resources_left it = unwrap_or it.current [] ++ resources_of it.actions

-- whether an entity type has the type among its descendants
abbrev pub type_is_above : EntityType → EntityType × ValidatorEntityType → Bool
type_is_above ty entry = contains entity_cmp entry.1.descendants ty

-- the names of those entity types that have the type among their descendants
abbrev pub types_above : EntityType → List (EntityType × ValidatorEntityType) → List EntityType
types_above ty entries = keys_of (filter (type_is_above ty) entries)

-- the names of the entity types of a schema that have the type among their descendants
abbrev pub ancestors_of : ValidatorSchema → EntityType → List EntityType
ancestors_of schema ty = types_above ty (types schema)

-- whether a schema has the first entity type, with the second among its descendants
abbrev pub is_ancestor : ValidatorSchema → EntityType → EntityType → Bool
is_ancestor schema above ty = passes (λ found. contains entity_cmp found.descendants ty) (type_at schema above)

-- the ancestors that are left
abbrev pub ancestors_left : AncestorIter → List EntityType
ancestors_left it = types_above it.ty.now it.types

-- whether there is anything
abbrev pub is_any : {K : Type 0} → List K → Bool
is_any [] = false
is_any (x ∷ xs) = true

-- whether an action has descendants
abbrev pub is_group : EntityUID × ValidatorActionId → Bool
is_group entry = is_any (action_descendants entry.1)

-- the names of those actions that have descendants
abbrev pub groups_of : List (EntityUID × ValidatorActionId) → List EntityUID
groups_of entries = keys_of (filter is_group entries)

-- the groups that are left
abbrev pub groups_left : GroupIter → List EntityUID
groups_left it = groups_of it.actions

-- whether an action has the action of this name among its descendants
abbrev pub action_is_above : EntityUID → EntityUID × ValidatorActionId → Bool
action_is_above uid entry = contains uid_cmp (action_descendants entry.1) uid

-- the names of those actions that have the action of this name among their descendants
abbrev pub actions_above : EntityUID → List (EntityUID × ValidatorActionId) → List EntityUID
actions_above uid entries = keys_of (filter (action_is_above uid) entries)

-- an action of a schema as an entity: its attributes, and the actions that have it among their descendants
abbrev pub entity_of_action : ValidatorSchema → EntityUID × ValidatorActionId → Entity
entity_of_action schema entry =
    record {
      uid = entry.0;
      attributes = action_attributes entry.1;
      ancestors = actions_above entry.0 (action_types schema);
    }
