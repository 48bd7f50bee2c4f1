-- SPDX-License-Identifier: Apache-2.0
use Rattle.std.proofs.Output.{displays_on_ok_of_eq}
use Rattle.std.specs.declared.result.Result.TheVariants.{Ok}
use Rattle.cedar_print.specs.Annotations.{annotations_pieces}
use Rattle.cedar_print.proofs.Prints.{Shows-four}
use Rattle.cedar_print.proofs.Texts.{text_of-annotations}
use Rattle.cedar_fragment.specs.Printed.{closing, entity_head, print_entity}
use Rattle.cedar_fragment.proofs.namespace_display.write_entity_type.Goals as goal

pub returns : goal.returns
returns g c =
    Shows-four g.W.Write.write_str_gives g.N.Display.output c.args.f.now c.write_annotations.new.f c.write_entity_head.new.f c.fmt.new.f c.write_str.new.self c.write_str.result
    (annotations_pieces c.args.entity.now.annotations) (entity_head c.args.id.now) (print_entity c.args.entity.now) closing
    (displays_on_ok_of_eq g.W.Write.write_str_gives c.args.f.now c.write_annotations.new.f (Ok tt) _ _ (text_of-annotations g.N.Display.output c.args.entity.now.annotations) c.in_ok-write_annotations.ensures)
    c.in_ok-write_entity_head.ensures c.in_ok-fmt.ensures.writes c.write_str.ensures.writes
