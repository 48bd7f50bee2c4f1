-- SPDX-License-Identifier: Apache-2.0
use Rattle.std.proofs.Common.{[], ◌∷◌}
use Rattle.std.specs.Prelude.{codes}
use Rattle.cedar_print.specs.Pieces.{mark, space}
use Rattle.cedar_print.proofs.Prints.{Shows-two}
use Rattle.cedar_fragment.specs.Printed.{print_shape}
use Rattle.cedar_fragment.proofs.display.write_shape.Goals as goal

pub returns : goal.returns
returns g c =
    Shows-two g.W.Write.write_str_gives g.N.Display.output c.args.f.now c.write_str.new.self c.fmt.new.f c.fmt.result
    (space ∷ mark (codes "=") ∷ space ∷ []) (print_shape c.args.shape.now)
    c.in_ok-write_str.ensures.writes c.fmt.ensures.writes
