-- SPDX-License-Identifier: Apache-2.0
use Rattle.std.proofs.Common.{◌<◌, rules}
use Rattle.cedar_types.specs.declared.ty.AttributeType.{size-AttributeType}
use Rattle.cedar_types.specs.declared.ty.Attributes.{size-Attributes}
use Rattle.cedar_listing.proofs.Depths.{deeper-all, deeper-first, deeper-rest}
use Rattle.cedar_streams.proofs.InLoop.{in_joined, joined-start}
use Rattle.cedar_streams.proofs.InOrder.{in_order}
use Rattle.cedar_listing.proofs.TypeTexts.{Writes-at, type_text-layer, row_text-parts, attributes_text-rows}
use Rattle.cedar_listing.proofs.type_text.+types.Goals as goal

pub write_attributes-returns-in_err-write_rows : goal.write_attributes-returns-in_err-write_rows
write_attributes-returns-in_err-write_rows g t c = Writes-at (attributes_text-rows c.args.attributes.now) (search (in_order, c.in_ok-write_str.ensures, c.in_err-write_rows.ensures))

pub write_attributes-returns : goal.write_attributes-returns
write_attributes-returns g t c = Writes-at (attributes_text-rows c.args.attributes.now) (search (in_order, c.in_ok-write_str.ensures, c.in_ok-write_rows.ensures, c.write_str-2.ensures))

pub write_row-returns-in_err-write_mark : goal.write_row-returns-in_err-write_mark
write_row-returns-in_err-write_mark g t c = Writes-at (row_text-parts c.args.name.now c.args.attribute.now) (search (in_order, c.in_ok-write_attribute_name.ensures, c.in_err-write_mark.ensures))

pub write_row-returns-in_err-write_str : goal.write_row-returns-in_err-write_str
write_row-returns-in_err-write_str g t c = Writes-at (row_text-parts c.args.name.now c.args.attribute.now) (search (in_order, c.in_ok-write_attribute_name.ensures, c.in_ok-write_mark.ensures, c.in_err-write_str.ensures))

pub write_row-returns : goal.write_row-returns
write_row-returns g t c = Writes-at (row_text-parts c.args.name.now c.args.attribute.now) (search (in_order, c.in_ok-write_attribute_name.ensures, c.in_ok-write_mark.ensures, c.in_ok-write_str.ensures, c.write_type.ensures))

pub write_type-returns-in_err-write_str-in-Set : goal.write_type-returns-in_err-write_str-in-Set
write_type-returns-in_err-write_str-in-Set g t c = Writes-at (type_text-layer c.args.ty.now _ c.in-Set.ensures) (search (in_order, c.in_err-write_str-in-Set.ensures))

pub write_type-returns-in_err-write_type-in-Set : goal.write_type-returns-in_err-write_type-in-Set
write_type-returns-in_err-write_type-in-Set g t c = Writes-at (type_text-layer c.args.ty.now _ c.in-Set.ensures) (search (in_order, c.in_ok-write_str-in-Set.ensures, c.in_err-write_type-in-Set.ensures))

pub write_type-returns-in_ok-write_type-in-Set : goal.write_type-returns-in_ok-write_type-in-Set
write_type-returns-in_ok-write_type-in-Set g t c = Writes-at (type_text-layer c.args.ty.now _ c.in-Set.ensures) (search (in_order, c.in_ok-write_str-in-Set.ensures, c.in_ok-write_type-in-Set.ensures))

pub write_type-returns-in_err-write_str-in-Entity : goal.write_type-returns-in_err-write_str-in-Entity
write_type-returns-in_err-write_str-in-Entity g t c = Writes-at (type_text-layer c.args.ty.now _ c.in-Entity.ensures) (search (in_order, c.in_err-write_str-in-Entity.ensures))

pub write_type-returns-in_ok-write_str-in-Entity : goal.write_type-returns-in_ok-write_str-in-Entity
write_type-returns-in_ok-write_str-in-Entity g t c = Writes-at (type_text-layer c.args.ty.now _ c.in-Entity.ensures) (search (in_order, c.in_ok-write_str-in-Entity.ensures))

pub write_type-returns-in_err-write_str-in-Extension : goal.write_type-returns-in_err-write_str-in-Extension
write_type-returns-in_err-write_str-in-Extension g t c = Writes-at (type_text-layer c.args.ty.now _ c.in-Extension.ensures) (search (in_order, c.in_err-write_str-in-Extension.ensures))

pub write_type-returns-in_ok-write_str-in-Extension : goal.write_type-returns-in_ok-write_str-in-Extension
write_type-returns-in_ok-write_str-in-Extension g t c = Writes-at (type_text-layer c.args.ty.now _ c.in-Extension.ensures) (search (in_order, c.in_ok-write_str-in-Extension.ensures))

pub write_rows-loop-name-init : goal.write_rows-loop-name-init
write_rows-loop-name-init g t c = record { written = joined-start _ (cc); deeper = deeper-all _ _ (cc) }

pub write_rows-returns-in_err-write_all : goal.write_rows-returns-in_err-write_all
write_rows-returns-in_err-write_all g t c = search (in_joined, c.loop-name.invariant.written, c.in-Some.ensures.steps, c.in_err-write_all.ensures)

pub write_rows-loop-name-preserved : goal.write_rows-loop-name-preserved
write_rows-loop-name-preserved g t c = record {
  written = search (in_joined, c.loop-name.invariant.written, c.in-Some.ensures.steps, c.in_ok-write_all.ensures, c.in_ok-write_row.ensures);
  deeper = deeper-rest c.loop-name.invariant.deeper c.in-Some.ensures.steps;
}

pub write_rows-returns-in_err-write_row : goal.write_rows-returns-in_err-write_row
write_rows-returns-in_err-write_row g t c = search (in_joined, c.loop-name.invariant.written, c.in-Some.ensures.steps, c.in_ok-write_all.ensures, c.in_err-write_row.ensures)

pub write_rows-returns : goal.write_rows-returns
write_rows-returns g t c = search (in_joined, c.loop-name.invariant.written, c.in-None.ensures.steps)

pub write_rows-write_row-requires : goal.write_rows-write_row-requires
write_rows-write_row-requires g t c =
    let deep : size-AttributeType c.in-Some.attribute.now < size-Attributes c.args.attributes.now = deeper-first c.loop-name.invariant.deeper c.in-Some.ensures.steps in
    let d = c.decreases in search (rules, deep)
