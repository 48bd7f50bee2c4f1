-- SPDX-License-Identifier: Apache-2.0
use Rattle.std.proofs.Common.{◌≡◌, length}
use Rattle.cedar_resolved.specs.Queries.{principals_of}
use Rattle.cedar_resolved.proofs.applicable.first_principal.Given as goal

-- the actions so far have none
abbrev pub invariant-loop-action : goal.invariant-loop-action
invariant-loop-action l = principals_of l.actions ≡ principals_of l.initial.actions

abbrev pub decreases-loop-action : goal.decreases-loop-action
decreases-loop-action l = length l.actions
