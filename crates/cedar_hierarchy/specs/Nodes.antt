-- SPDX-License-Identifier: Apache-2.0
-- Entity types and actions before the closure: the children of each in place of its descendants.
use Rattle.std.specs.Prelude.{◌≡◌, List}
use Rattle.cedar_closure.specs.Closure.{IsLeastOnCycle}
use Rattle.cedar_outlines.specs.of_declared.Names.{Names}
use Rattle.cedar_hierarchy.specs.Children.{children_at}
use Rattle.cedar_hierarchy.specs.Made.{DescribesAction, DescribesEntity}
use Rattle.cedar_hierarchy.specs.Uses.{Uses}
use Rattle.cedar_names.specs.Names.{entity_cmp}
use Rattle.cedar_names.specs.declared.entity_uid.EntityUID.{EntityUID}
use Rattle.cedar_names.specs.declared.name.EntityType.{EntityType}
use Rattle.cedar_resolved.specs.Schemas.{action_descendants, uid_cmp}
use Rattle.cedar_resolved.specs.declared.action.ValidatorActionId.{ValidatorActionId}
use Rattle.cedar_resolved.specs.declared.entity_type.ValidatorEntityType.{ValidatorEntityType}
use Rattle.cedar_schema_error.specs.declared.schema_error.SchemaError.{SchemaError}
use Rattle.cedar_schema_error.specs.declared.schema_error.SchemaError.TheVariants.{CycleInActionHierarchy}
use Rattle.cedar_outlines.specs.declared.outlines.ActionOutline.{ActionOutline}
use Rattle.cedar_outlines.specs.declared.outlines.EntityOutline.{EntityOutline}

-- an entity type with its children
pub record IsEntityNode (children : List (EntityType × List EntityType)) (uses : Uses) (outline : EntityType × EntityOutline) (made : EntityType × ValidatorEntityType) : Type 0 where
  pub described : DescribesEntity uses outline made
  pub children_are : made.1.descendants ≡ children_at entity_cmp children outline.0

-- an action with its children
pub record IsActionNode (names : Names) (children : List (EntityUID × List EntityUID)) (uses : Uses) (outline : EntityUID × ActionOutline) (made : EntityUID × ValidatorActionId) : Type 0 where
  pub described : DescribesAction names uses outline made
  pub children_are : action_descendants made.1 ≡ children_at uid_cmp children outline.0

-- the error tells the least action that reaches itself along children
pub record TellsCycle (nodes : List (EntityUID × ValidatorActionId)) (e : SchemaError) : Type 0 where
  pub vertex : EntityUID
  pub is : e ≡ CycleInActionHierarchy (record { uid = vertex })
  pub least : IsLeastOnCycle uid_cmp action_descendants nodes vertex
