-- SPDX-License-Identifier: Apache-2.0
use Rattle.std.proofs.Common.{◌≡◌, length}
use Rattle.cedar_resolved.specs.Environments.{environments_of_all}
use Rattle.cedar_resolved.proofs.request_env.first_environment.Given as goal

-- the actions so far have none
abbrev pub invariant-loop-name : goal.invariant-loop-name
invariant-loop-name l = environments_of_all l.actions ≡ environments_of_all l.initial.actions

abbrev pub decreases-loop-name : goal.decreases-loop-name
decreases-loop-name l = length l.actions
