-- SPDX-License-Identifier: Apache-2.0
use Rattle.cedar_print.proofs.Prints.{Prints}
use Rattle.cedar_fragment.specs.Printed.{print_entity_declaration}
use Rattle.cedar_fragment.proofs.namespace_display.write_entity_types.Given as goal

-- those so far are written
abbrev pub invariant-loop-id : goal.invariant-loop-id
invariant-loop-id g l = Prints g.W.Write.write_str_gives g.N.Display.output print_entity_declaration l.entity_types l.id-iterator l.initial.f l.f
