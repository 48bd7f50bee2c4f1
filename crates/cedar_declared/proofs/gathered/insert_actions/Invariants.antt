-- SPDX-License-Identifier: Apache-2.0
use Rattle.std.proofs.Common.{◌≡◌}
use Rattle.cedar_declared.specs.Gathering.{with_actions}
use Rattle.cedar_declared.proofs.gathered.insert_actions.Given as goal

-- what those that are left add now is what all add
abbrev pub invariant-loop-uid : goal.invariant-loop-uid
invariant-loop-uid g l = with_actions l.actions l.uid-iterator ≡ with_actions l.fn.actions l.fn.defs
