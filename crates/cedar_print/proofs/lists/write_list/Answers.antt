-- SPDX-License-Identifier: Apache-2.0
use Rattle.std.proofs.Common.{[], ◌∷◌, subst}
use Rattle.std.specs.Prelude.{codes}
use Rattle.std.specs.declared.result.Result.TheVariants.{Ok}
use Rattle.cedar_print.specs.Pieces.{comma, mark, named, separated}
use Rattle.cedar_print.proofs.Prints.{Shows, Shows-three}
use Rattle.cedar_print.proofs.lists.write_list.Goals as goal

pub returns : goal.returns
returns g c =
    Shows-three g.W.Write.write_str_gives g.T.Display.output c.args.f.now c.write_str.new.self c.write_separated.new.f c.write_str-2.new.self c.write_str-2.result
    (mark (codes "[") ∷ []) (separated comma named c.args.items.now) (mark (codes "]") ∷ [])
    c.in_ok-write_str.ensures.writes
    (subst (λ ts. Shows g.W.Write.write_str_gives g.T.Display.output c.write_str.new.self (Ok tt) (separated comma named ts) c.write_separated.new.f) c.as_slice.ensures c.in_ok-write_separated.ensures)
    c.write_str-2.ensures.writes
