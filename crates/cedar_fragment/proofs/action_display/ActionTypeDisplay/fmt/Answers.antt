-- SPDX-License-Identifier: Apache-2.0
use Rattle.cedar_print.proofs.Prints.{Shows-two}
use Rattle.cedar_fragment.specs.Printed.{print_action_parents, print_apply_clause}
use Rattle.cedar_fragment.proofs.action_display.ActionTypeDisplay.fmt.Goals as goal

pub returns-clause-writes : goal.returns-clause-writes
returns-clause-writes g c =
    Shows-two g.W.Write.write_str_gives g.N.Display.output c.args.f.now c.write_action_parents.new.f c.write_apply_clause.new.f c.write_apply_clause.result
    (print_action_parents c.args.self.now.member_of) (print_apply_clause c.args.self.now.applies_to)
    c.in_ok-write_action_parents.ensures c.write_apply_clause.ensures
