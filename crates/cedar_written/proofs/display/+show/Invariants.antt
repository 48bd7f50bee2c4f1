-- SPDX-License-Identifier: Apache-2.0
use Rattle.cedar_print.proofs.Prints.{Separates}
use Rattle.cedar_written.specs.Printed.{next_line, print_attribute}
use Rattle.cedar_written.proofs.display.+show.Given as goal

-- the attributes so far are written
abbrev pub invariant-write_attributes-loop-name : goal.invariant-write_attributes-loop-name
invariant-write_attributes-loop-name g l =
    Separates g.W.Write.write_str_gives g.N.Display.output next_line (λ e. print_attribute e.1 e.0) l.attributes l.name-iterator l.is_first l.initial.f l.f
