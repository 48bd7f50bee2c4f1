-- SPDX-License-Identifier: Apache-2.0
use Rattle.std.proofs.Output.{displays_on_ok_of_eq}
use Rattle.std.specs.declared.result.Result.TheVariants.{Ok}
use Rattle.cedar_print.specs.Annotations.{annotations_pieces}
use Rattle.cedar_print.proofs.Prints.{Shows-four}
use Rattle.cedar_print.proofs.Texts.{text_of-annotations}
use Rattle.std.proofs.Common.{[], ◌∷◌}
use Rattle.std.specs.Prelude.{codes}
use Rattle.cedar_print.specs.Pieces.{line_end, mark}
use Rattle.cedar_fragment.specs.Printed.{namespace_head, print_namespace}
use Rattle.cedar_fragment.proofs.Printing.{head-shown}
use Rattle.cedar_fragment.proofs.namespace_display.write_named.Goals as goal

pub returns : goal.returns
returns g c =
    Shows-four g.W.Write.write_str_gives g.N.Display.output c.args.f.now c.write_annotations.new.f c.write_namespace_head.new.f c.fmt.new.f c.write_str.new.self c.write_str.result
    (annotations_pieces c.args.definition.now.annotations) (namespace_head c.args.path.now) (print_namespace c.args.definition.now) (mark (codes "}") ∷ line_end ∷ [])
    (displays_on_ok_of_eq g.W.Write.write_str_gives c.args.f.now c.write_annotations.new.f (Ok tt) _ _ (text_of-annotations g.N.Display.output c.args.definition.now.annotations) c.in_ok-write_annotations.ensures)
    (displays_on_ok_of_eq g.W.Write.write_str_gives c.write_annotations.new.f c.write_namespace_head.new.f (Ok tt) _ _ (head-shown g.N.Display.output c.args.path.now) c.in_ok-write_namespace_head.ensures) c.in_ok-fmt.ensures.writes c.write_str.ensures.writes
