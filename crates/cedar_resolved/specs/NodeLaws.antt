-- SPDX-License-Identifier: Apache-2.0
-- Entity types and actions as nodes: the name, the descendants and the rest are all that they have.
use Rattle.std.specs.Prelude.{◌≡◌, []}
use Rattle.cedar_resolved.specs.Schemas.{type_name, type_with, action_name, action_with, action_descendants}
use Rattle.cedar_resolved.specs.declared.action.ValidatorActionId.{ValidatorActionId}
use Rattle.cedar_resolved.specs.declared.entity_type.ValidatorEntityType.{ValidatorEntityType}

pub type_whole : (a b : ValidatorEntityType) → type_name a ≡ type_name b → a.descendants ≡ b.descendants → type_with [] a ≡ type_with [] b → a ≡ b
type_whole a b named below rest = λ i. record { name = named i; descendants = below i; attributes = (rest i).attributes; kind = (rest i).kind; loc = (rest i).loc }

pub action_whole : (a b : ValidatorActionId) → action_name a ≡ action_name b → action_descendants a ≡ action_descendants b → action_with [] a ≡ action_with [] b → a ≡ b
action_whole a b named below rest =
    λ i. record { name = named i; principals = (rest i).principals; resources = (rest i).resources; descendants = below i; context = (rest i).context; attribute_types = (rest i).attribute_types; attributes = (rest i).attributes; loc = (rest i).loc }
