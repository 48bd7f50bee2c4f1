-- SPDX-License-Identifier: Apache-2.0
use Rattle.std.specs.Option.{option_copied}
use Rattle.cedar_shadowing.proofs.KeptPairs.{PicksAction}
use Rattle.cedar_shadowing.proofs.actions.least_action.Given as goal

-- the least so far, with those that are left, gives the least of all
abbrev pub invariant-loop-action : goal.invariant-loop-action
invariant-loop-action l = PicksAction l.fn.all_defs l.action-iterator (option_copied l.least)
