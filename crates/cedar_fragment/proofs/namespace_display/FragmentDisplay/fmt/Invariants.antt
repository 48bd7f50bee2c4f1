-- SPDX-License-Identifier: Apache-2.0
use Rattle.cedar_print.proofs.Prints.{Prints}
use Rattle.cedar_fragment.specs.Printed.{print_entry}
use Rattle.cedar_fragment.proofs.namespace_display.FragmentDisplay.fmt.Given as goal

-- the namespaces so far are written
abbrev pub invariant-loop-path : goal.invariant-loop-path
invariant-loop-path g l = Prints g.W.Write.write_str_gives g.N.Display.output print_entry l.self.0 l.path-iterator l.initial.f l.f
