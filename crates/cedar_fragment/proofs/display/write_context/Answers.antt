-- SPDX-License-Identifier: Apache-2.0
use Rattle.std.proofs.Common.{[], ◌∷◌}
use Rattle.std.specs.Prelude.{codes}
use Rattle.cedar_print.specs.Pieces.{line_end, mark, space, word}
use Rattle.cedar_print.proofs.Prints.{Shows-three}
use Rattle.cedar_fragment.specs.Printed.{indented, print_shape}
use Rattle.cedar_fragment.proofs.display.write_context.Goals as goal

pub returns : goal.returns
returns g c =
    Shows-three g.W.Write.write_str_gives g.N.Display.output c.args.f.now c.write_str.new.self c.fmt.new.f c.write_str-2.new.self c.write_str-2.result
    (mark (codes ",") ∷ indented ∷ word (codes "context") ∷ mark (codes ":") ∷ space ∷ []) (print_shape c.args.context.now) (line_end ∷ mark (codes "}") ∷ [])
    c.in_ok-write_str.ensures.writes c.in_ok-fmt.ensures.writes c.write_str-2.ensures.writes
