-- SPDX-License-Identifier: Apache-2.0
use Rattle.cedar_shadowing.proofs.KeptPairs.{PicksAction-next}
use Rattle.cedar_shadowing.proofs.actions.least_action.Goals as goal

pub loop-action-preserved : goal.loop-action-preserved
loop-action-preserved c = PicksAction-next c.args.all_defs.now c.loop-action.invariant c.in-Some.ensures.steps c.earlier-least.ensures.least c.earlier-least.ensures.held
