-- SPDX-License-Identifier: Apache-2.0
-- Environments of actions without resources.
use Rattle.std.proofs.Common.{◌≡◌, List, [], ◌∷◌, ◌++◌, Option, Some, None, refl, ap, ◌∙◌}
use Rattle.cedar_names.specs.declared.entity_uid.EntityUID.{EntityUID}
use Rattle.cedar_names.specs.declared.name.EntityType.{EntityType}
use Rattle.cedar_resolved.specs.Environments.{in_hand, with_principals, with_resources}
use Rattle.cedar_resolved.specs.Schemas.{action_resources}
use Rattle.cedar_resolved.specs.declared.action.ValidatorActionId.{ValidatorActionId}

module _ (entry : EntityUID × ValidatorActionId) (none : action_resources entry.1 ≡ []) where
  -- an action without resources has no environments
  pub no_resources : (principals : List EntityType) → with_principals entry principals ≡ []
  no_resources [] = refl
  no_resources (p ∷ principals) = ap (λ resources. with_resources entry resources p ++ with_principals entry principals) none ∙ no_resources principals

  -- and none are left of it
  pub nothing_left : (principal : Option EntityType) (resources principals : List EntityType) → resources ≡ [] → in_hand entry principal resources principals ≡ []
  nothing_left None resources principals empty = refl
  nothing_left (Some p) resources principals empty = ap (λ resources. with_resources entry resources p ++ with_principals entry principals) empty ∙ no_resources principals
