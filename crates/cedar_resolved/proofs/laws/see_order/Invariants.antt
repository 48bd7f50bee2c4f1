-- SPDX-License-Identifier: Apache-2.0
use Rattle.std.specs.List.{AllByRecursion}
use Rattle.cedar_resolved.specs.Environments.{SetsInOrder}
use Rattle.cedar_resolved.specs.Schemas.{action_types}
use Rattle.cedar_resolved.proofs.laws.see_order.Given as goal

-- where those of the other actions are in order, those of all are
abbrev pub invariant-loop-action : goal.invariant-loop-action
invariant-loop-action l = AllByRecursion SetsInOrder l.action-iterator → AllByRecursion SetsInOrder (action_types l.schema)
