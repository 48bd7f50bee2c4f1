-- SPDX-License-Identifier: Apache-2.0
-- The parents that outlines have.
use Rattle.std.specs.Prelude.{Bool}
use Rattle.std.specs.List.{list_any}
use Rattle.cedar_outlines.specs.of_declared.Names.{Names}
use Rattle.cedar_hierarchy.specs.Targets.{is_action_meant, is_type_meant}
use Rattle.cedar_names.specs.declared.entity_uid.EntityUID.{EntityUID}
use Rattle.cedar_names.specs.declared.name.EntityType.{EntityType}
use Rattle.cedar_outlines.specs.declared.outlines.ActionOutline.{ActionOutline}
use Rattle.cedar_outlines.specs.declared.outlines.EntityOutline.{EntityOutline}

-- whether one of its parents means this entity type
abbrev pub is_type_parent : Names → EntityOutline → EntityType → Bool
is_type_parent names o ty = list_any (λ r. is_type_meant names r ty) o.parents

-- whether one of its parents means this action
abbrev pub is_action_parent : Names → ActionOutline → EntityUID → Bool
is_action_parent names o uid = list_any (λ a. is_action_meant names a uid) o.parents
