-- SPDX-License-Identifier: Apache-2.0
-- The request environments of a schema.
use Rattle.std.specs.Prelude.{ℕ, Bool, cond, ◌&&◌, List, [], ◌++◌, Option, Some, None, flat_map, map}
use Rattle.std.specs.BTreeMap.{is_at}
use Rattle.std.specs.List.{AllByRecursion}
use Rattle.std.specs.List.Sorted.{IsStrictlySortedBy}
use Rattle.std.specs.Option.{option_copied}
use Rattle.cedar_data.specs.Maps.{IsSortedMap}
use Rattle.cedar_data.specs.Sets.{contains}
use Rattle.cedar_names.specs.Names.{entity_cmp}
use Rattle.cedar_names.specs.declared.entity_uid.EntityUID.{EntityUID}
use Rattle.cedar_names.specs.declared.name.EntityType.{EntityType}
use Rattle.cedar_types.specs.declared.ty.ResolvedType.{ResolvedType}
use Rattle.cedar_resolved.specs.Queries.{passes}
use Rattle.cedar_resolved.specs.Schemas.{action_at, action_context, action_principals, action_resources, action_types, uid_cmp}
use Rattle.cedar_resolved.specs.declared.action.ValidatorActionId.{ValidatorActionId}
use Rattle.cedar_resolved.specs.declared.request_env.ActionEnvs.{ActionEnvs}
use Rattle.cedar_resolved.specs.declared.request_env.EnvIter.{EnvIter}
use Rattle.cedar_resolved.specs.declared.request_env.RequestEnv.{RequestEnv}
use Rattle.cedar_resolved.specs.declared.request_env.RequestEnv.TheVariants.{DeclaredAction}
use Rattle.cedar_resolved.specs.declared.schema.ValidatorSchema.{ValidatorSchema}

-- an environment of requests: of which principals, which action, which resources, and in which context
pub record Environment : Type 0 where
  pub principal : EntityType
  pub action : EntityUID
  pub resource : EntityType
  pub context : ResolvedType

-- what a request environment names
abbrev pub environment : RequestEnv → Environment
environment (DeclaredAction principal action resource context) =
    record { principal = principal.now; action = action.now; resource = resource.now; context = context.now }

-- the environment of an action with a principal and a resource
abbrev pub environment_of : EntityUID × ValidatorActionId → EntityType → EntityType → Environment
environment_of entry principal resource =
    record { principal = principal; action = entry.0; resource = resource; context = action_context entry.1 }

-- the environments of an action with a principal and each of these resources
abbrev pub with_resources : EntityUID × ValidatorActionId → List EntityType → EntityType → List Environment
with_resources entry resources principal = map (environment_of entry principal) resources

-- the environments of an action with each of these principals and each of its resources
abbrev pub with_principals : EntityUID × ValidatorActionId → List EntityType → List Environment
with_principals entry principals = flat_map (with_resources entry (action_resources entry.1)) principals

-- the environments of an action: for each of its principals in order, each of its resources in order
abbrev pub environments_of : EntityUID × ValidatorActionId → List Environment
environments_of entry = with_principals entry (action_principals entry.1)

-- the environments of actions, action by action
abbrev pub environments_of_all : List (EntityUID × ValidatorActionId) → List Environment
environments_of_all entries = flat_map environments_of entries

-- the environments that are left with the principal in hand, and then with the other principals
abbrev pub in_hand : EntityUID × ValidatorActionId → Option EntityType → List EntityType → List EntityType
    → List Environment
in_hand entry None resources principals = []
in_hand entry (Some principal) resources principals =
    with_resources entry resources principal ++ with_principals entry principals

-- the environments of the action in hand that are left
abbrev pub action_left : ActionEnvs → List Environment
action_left envs =
    in_hand (envs.name.now, envs.action.now) (option_copied envs.principal) envs.resources envs.principals

-- the environments that are left of an action, if there is one
abbrev pub any_left : Option ActionEnvs → List Environment
any_left None = []
any_left (Some envs) = action_left envs

-- the environments that are left: those of the action in hand, and those of the others
abbrev pub environments_left : EnvIter → List Environment
environments_left it = any_left it.current ++ environments_of_all it.actions

-- whether an environment is of this principal, this action and this resource
abbrev pub is_of : EntityType → EntityUID → EntityType → Environment → Bool
is_of principal action resource env =
    is_at (uid_cmp action) env.action && is_at (entity_cmp principal) env.principal
    && is_at (entity_cmp resource) env.resource

-- whether an action applies to the principal and the resource
abbrev pub applies_to : EntityType → EntityType → ValidatorActionId → Bool
applies_to principal resource action =
    contains entity_cmp (action_principals action) principal && contains entity_cmp (action_resources action) resource

-- whether a schema has the action, and it applies to the principal and the resource
abbrev pub applies : ValidatorSchema → EntityType → EntityUID → EntityType → Bool
applies schema principal action resource = passes (applies_to principal resource) (action_at schema action)

-- one where it holds, and else none
abbrev pub one_if : Bool → ℕ
one_if b = cond b 1 0

-- the principals and the resources of an action are in order
pub record SetsInOrder (entry : EntityUID × ValidatorActionId) : Type 0 where
  pub principals : IsStrictlySortedBy entity_cmp (action_principals entry.1)
  pub resources : IsStrictlySortedBy entity_cmp (action_resources entry.1)

-- the actions of a schema are in order, and so are their principals and resources
pub record ActionsInOrder (schema : ValidatorSchema) : Type 0 where
  pub actions : IsSortedMap uid_cmp (action_types schema)
  pub sets : AllByRecursion SetsInOrder (action_types schema)
