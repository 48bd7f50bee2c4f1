-- SPDX-License-Identifier: Apache-2.0
use Rattle.cedar_print.specs.Pieces.{named}
use Rattle.cedar_print.proofs.Prints.{Shows-three}
use Rattle.cedar_fragment.specs.Printed.{print_parents, print_shape_clause, print_tags}
use Rattle.cedar_fragment.proofs.display.StandardEntityTypeDisplay.fmt.Goals as goal

pub returns-clause-writes : goal.returns-clause-writes
returns-clause-writes g c =
    Shows-three g.W.Write.write_str_gives g.N.Display.output c.args.f.now c.write_parents.new.f c.write_shape_clause.new.f c.write_tags.new.f c.write_tags.result
    (print_parents named c.args.self.now.member_of_types) (print_shape_clause c.args.self.now.shape) (print_tags c.args.self.now.tags)
    c.in_ok-write_parents.ensures c.in_ok-write_shape_clause.ensures c.write_tags.ensures
