-- SPDX-License-Identifier: Apache-2.0
use Rattle.cedar_print.proofs.Prints.{Prints-next}
use Rattle.cedar_fragment.proofs.namespace_display.FragmentDisplay.fmt.Goals as goal

pub loop-path-preserved : goal.loop-path-preserved
loop-path-preserved g c = Prints-next g.W.Write.write_str_gives g.N.Display.output c.loop-path.invariant c.in-Some.ensures.steps c.in_ok-write_namespace.ensures
