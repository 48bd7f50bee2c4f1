-- SPDX-License-Identifier: Apache-2.0
use Rattle.cedar_print.proofs.Prints.{Prints-next}
use Rattle.cedar_fragment.proofs.namespace_display.write_actions.Goals as goal

pub loop-id-preserved : goal.loop-id-preserved
loop-id-preserved g c = Prints-next g.W.Write.write_str_gives g.N.Display.output c.loop-id.invariant c.in-Some.ensures.steps c.in_ok-write_action.ensures
