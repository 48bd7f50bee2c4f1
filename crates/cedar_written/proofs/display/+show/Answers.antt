-- SPDX-License-Identifier: Apache-2.0
use Rattle.std.proofs.Common.{[], ◌∷◌, sym, subst}
use Rattle.std.proofs.Output.{displays_on_ok_of_eq}
use Rattle.std.specs.Prelude.{codes}
use Rattle.std.specs.declared.result.Result.TheVariants.{Ok}
use Rattle.cedar_print.specs.of_data.Maps.{map_values}
use Rattle.cedar_print.specs.Annotations.{annotations_pieces}
use Rattle.cedar_print.specs.Pieces.{mark, separated}
use Rattle.cedar_print.proofs.Prints.{Separates-end, Separates-next, Shows, Shows-three}
use Rattle.cedar_print.proofs.Texts.{separated-values, text_of-annotations}
use Rattle.cedar_written.specs.Printed.{name_printed, next_line, print_attribute, print_type, set_end, set_head, with_name}
use Rattle.cedar_written.specs.declared.ty.RecordType.{out-RecordType}
use Rattle.cedar_written.specs.declared.ty.TypeOfAttribute.{out-TypeOfAttribute}
use Rattle.cedar_written.proofs.Printing.{name-shown, print_attribute-is, print_record-is, separator-shown}
use Rattle.cedar_written.proofs.display.+show.Goals as goal

pub write_set-returns : goal.write_set-returns
write_set-returns g t c =
    Shows-three g.W.Write.write_str_gives g.N.Display.output c.args.f.now c.write_set_head.new.f c.fmt.new.f c.write_set_end.new.f c.write_set_end.result
    set_head (print_type c.args.element.now) set_end
    c.in_ok-write_set_head.ensures c.in_ok-fmt.ensures.writes c.write_set_end.ensures

pub write_record-returns : goal.write_record-returns
write_record-returns g t c =
    subst (λ ps. Shows g.W.Write.write_str_gives g.N.Display.output c.args.f.now c.write_str-2.result ps c.write_str-2.new.self) (sym (print_record-is c.args.fields.now))
    (Shows-three g.W.Write.write_str_gives g.N.Display.output c.args.f.now c.write_str.new.self c.write_attributes.new.f c.write_str-2.new.self c.write_str-2.result
    (mark (codes "{") ∷ []) (separated next_line with_name (map_values print_attribute (out-RecordType _ c.args.fields.now).attributes)) (mark (codes "}") ∷ [])
    c.in_ok-write_str.ensures.writes c.in_ok-write_attributes.ensures c.write_str-2.ensures.writes)

pub write_attributes-loop-name-preserved : goal.write_attributes-loop-name-preserved
write_attributes-loop-name-preserved g t c =
    Separates-next g.W.Write.write_str_gives g.N.Display.output c.write_separator.new.f c.loop-name.invariant c.in-Some.ensures.steps
    (displays_on_ok_of_eq g.W.Write.write_str_gives c.loop-name.f c.write_separator.new.f (Ok tt) _ _ (separator-shown g.N.Display.output c.loop-name.is_first) c.in_ok-write_separator.ensures)
    c.in_ok-write_attribute.ensures

pub write_attributes-returns : goal.write_attributes-returns
write_attributes-returns g t c =
    subst (λ ps. Shows g.W.Write.write_str_gives g.N.Display.output c.args.f.now (Ok tt) ps c.loop-name.f) (sym (separated-values next_line with_name print_attribute c.args.attributes.now))
    (Separates-end g.W.Write.write_str_gives g.N.Display.output c.loop-name.invariant c.in-None.ensures.steps.0)

pub write_attribute-returns : goal.write_attribute-returns
write_attribute-returns g t c =
    subst (λ ps. Shows g.W.Write.write_str_gives g.N.Display.output c.args.f.now c.fmt.result ps c.fmt.new.f) (sym (print_attribute-is c.args.attribute.now c.args.name.now))
    (Shows-three g.W.Write.write_str_gives g.N.Display.output c.args.f.now c.write_annotations.new.f c.write_attribute_name.new.f c.fmt.new.f c.fmt.result
    (annotations_pieces (out-TypeOfAttribute _ c.args.attribute.now).annotations) (name_printed c.args.name.now (out-TypeOfAttribute _ c.args.attribute.now).required) (print_type (out-TypeOfAttribute _ c.args.attribute.now).ty)
    (displays_on_ok_of_eq g.W.Write.write_str_gives c.args.f.now c.write_annotations.new.f (Ok tt) _ _ (text_of-annotations g.N.Display.output (out-TypeOfAttribute _ c.args.attribute.now).annotations) c.in_ok-write_annotations.ensures)
    (displays_on_ok_of_eq g.W.Write.write_str_gives c.write_annotations.new.f c.write_attribute_name.new.f (Ok tt) _ _ (name-shown g.N.Display.output c.args.name.now (out-TypeOfAttribute _ c.args.attribute.now).required) c.in_ok-write_attribute_name.ensures)
    c.fmt.ensures.writes)
