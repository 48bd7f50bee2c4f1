-- SPDX-License-Identifier: Apache-2.0
use Rattle.std.proofs.Common.{sym, subst}
use Rattle.std.proofs.Output.{displays_on_ok_of_eq}
use Rattle.cedar_print.proofs.Prints.{Shows}
use Rattle.cedar_fragment.specs.Printed.{print_action_parents, print_uid}
use Rattle.cedar_fragment.proofs.Printing.{parents-shown}
use Rattle.cedar_fragment.proofs.action_display.write_action_parents.Goals as goal

pub returns-in-Some : goal.returns-in-Some
returns-in-Some g c =
    subst (λ us. Shows g.W.Write.write_str_gives g.N.Display.output c.args.f.now c.write_parents.result (print_action_parents us) c.write_parents.new.f) (sym c.in-Some.is)
    (displays_on_ok_of_eq g.W.Write.write_str_gives c.args.f.now c.write_parents.new.f c.write_parents.result _ _ (parents-shown g.N.Display.output print_uid c.in-Some.parents) c.write_parents.ensures)
