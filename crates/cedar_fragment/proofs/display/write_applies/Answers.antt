-- SPDX-License-Identifier: Apache-2.0
use Rattle.std.proofs.Common.{[], ◌∷◌}
use Rattle.std.specs.Prelude.{codes}
use Rattle.cedar_print.specs.Pieces.{bracketed, mark, named, space, word}
use Rattle.cedar_print.proofs.Prints.{Shows-three}
use Rattle.cedar_fragment.specs.Printed.{indented, print_context}
use Rattle.cedar_fragment.proofs.display.write_applies.Goals as goal

pub returns : goal.returns
returns g c =
    Shows-three g.W.Write.write_str_gives g.N.Display.output c.args.f.now c.write_str.new.self c.write_list.new.f c.write_context.new.f c.write_context.result
    (space ∷ word (codes "appliesTo") ∷ space ∷ mark (codes "{") ∷ indented ∷ word (codes "principal") ∷ mark (codes ":") ∷ space ∷ [])
    (bracketed named c.args.spec.now.principal_types) _
    c.in_ok-write_str.ensures.writes c.in_ok-write_list.ensures
    (Shows-three g.W.Write.write_str_gives g.N.Display.output c.write_list.new.f c.write_str-2.new.self c.write_list-2.new.f c.write_context.new.f c.write_context.result
    (mark (codes ",") ∷ indented ∷ word (codes "resource") ∷ mark (codes ":") ∷ space ∷ [])
    (bracketed named c.args.spec.now.resource_types) (print_context c.args.spec.now.context)
    c.in_ok-write_str-2.ensures.writes c.in_ok-write_list-2.ensures c.write_context.ensures)
