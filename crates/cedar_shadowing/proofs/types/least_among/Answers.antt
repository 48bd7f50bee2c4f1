-- SPDX-License-Identifier: Apache-2.0
use Rattle.cedar_shadowing.proofs.KeptPairs.{PicksType-next}
use Rattle.cedar_shadowing.proofs.types.least_among.Goals as goal

pub loop-name-preserved : goal.loop-name-preserved
loop-name-preserved c = PicksType-next c.args.all_defs.now c.loop-name.invariant c.in-Some.ensures.steps c.earlier-least.ensures.least c.earlier-least.ensures.held
