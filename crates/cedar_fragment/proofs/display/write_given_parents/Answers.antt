-- SPDX-License-Identifier: Apache-2.0
use Rattle.std.proofs.Common.{[], ◌∷◌}
use Rattle.std.specs.Prelude.{codes}
use Rattle.cedar_print.specs.Pieces.{bracketed, named, space, word}
use Rattle.cedar_print.proofs.Prints.{Shows-two}
use Rattle.cedar_fragment.proofs.display.write_given_parents.Goals as goal

pub returns : goal.returns
returns g c =
    Shows-two g.W.Write.write_str_gives g.T.Display.output c.args.f.now c.write_str.new.self c.write_list.new.f c.write_list.result
    (space ∷ word (codes "in") ∷ space ∷ []) (bracketed named c.args.parents.now)
    c.in_ok-write_str.ensures.writes c.write_list.ensures
