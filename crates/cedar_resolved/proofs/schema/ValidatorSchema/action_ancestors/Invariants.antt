-- SPDX-License-Identifier: Apache-2.0
use Rattle.std.proofs.Common.{◌≡◌, ◌++◌}
use Rattle.cedar_names.specs.declared.entity_uid.EntityUID.{EntityUID}
use Rattle.cedar_resolved.proofs.schema.ValidatorSchema.action_ancestors.Given as goal
use Rattle.cedar_resolved.specs.Ancestors.{noted_of}
use Rattle.cedar_resolved.specs.Queries.{actions_above}
use Rattle.cedar_resolved.specs.Schemas.{action_types}

-- the ancestors so far, with those among the other actions, are all
abbrev pub invariant-loop-name : goal.invariant-loop-name
invariant-loop-name l =
    (uid : EntityUID) → noted_of l.noted.entries uid ++ actions_above uid l.name-iterator ≡ actions_above uid (action_types l.self)
