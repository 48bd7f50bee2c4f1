-- SPDX-License-Identifier: Apache-2.0
use Rattle.std.proofs.Common.{sym, subst}
use Rattle.std.proofs.Output.{displays_on_ok_of_eq}
use Rattle.cedar_print.proofs.Prints.{Shows}
use Rattle.cedar_fragment.specs.Printed.{print_kind}
use Rattle.cedar_fragment.proofs.Printing.{choices-shown}
use Rattle.cedar_fragment.proofs.display.EntityTypeKindDisplay.fmt.Goals as goal

pub returns-in-Enum-clause-writes : goal.returns-in-Enum-clause-writes
returns-in-Enum-clause-writes g c =
    subst (λ kind. Shows g.W.Write.write_str_gives g.N.Display.output c.args.f.now c.write_choices.result (print_kind kind) c.write_choices.new.f) (sym c.in-Enum.is)
    (displays_on_ok_of_eq g.W.Write.write_str_gives c.args.f.now c.write_choices.new.f c.write_choices.result _ _ (choices-shown g.N.Display.output c.in-Enum.choices) c.write_choices.ensures)
