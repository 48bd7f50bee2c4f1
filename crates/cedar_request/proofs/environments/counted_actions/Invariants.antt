-- SPDX-License-Identifier: Apache-2.0
use Rattle.cedar_request.proofs.Counting.{CountsOn}
use Rattle.cedar_request.proofs.environments.counted_actions.Given as goal

-- the actions so far are counted
abbrev pub invariant-loop-name : goal.invariant-loop-name
invariant-loop-name l = CountsOn l.schema l.name-iterator l.counted l.before
