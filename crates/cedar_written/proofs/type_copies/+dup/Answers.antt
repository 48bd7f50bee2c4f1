-- SPDX-License-Identifier: Apache-2.0
use Rattle.std.proofs.Common.{◌≡◌, ◌≤◌, ◌<◌, ◌+◌, ◌*◌, arith}
use Rattle.std.specs.Cmp.Lexicographic.{slice_cmp}
use Rattle.std.specs.Map.{values_of}
use Rattle.std.specs.Ordering.{nat_cmp}
use denote.Param.Weighed.{most}
use Rattle.cedar_written.proofs.Depths.{value_within}
use Rattle.cedar_written.proofs.ty.TypeOfAttribute.TheLaws.{the_size as size_of}
use Rattle.cedar_print.proofs.of_data.Rebuild.{sorted_next}
use Rattle.cedar_written.proofs.type_copies.+dup.Goals as goal

pub dup_attributes-push_last-requires : goal.dup_attributes-push_last-requires
dup_attributes-push_last-requires g t c =
    sorted_next (slice_cmp nat_cmp) c.loop-name.copies c.loop-name.invariant c.in-Some.ensures.steps c.in_ok-name.ensures c.iter-name-items.ensures.ordered

pub dup_attributes-dup-requires-in-loop-name : goal.dup_attributes-dup-requires-in-loop-name
dup_attributes-dup-requires-in-loop-name g t c =
    let size = size_of g.row.N g.N.laws in
    let within : size c.in-Some.attribute.now ≤ most size (values_of c.args.attributes.now) = value_within size c.loop-name.copies c.loop-name.invariant c.in-Some.ensures.steps in
    let whole : 2 * most size (values_of c.args.attributes.now) + 1 ≡ t = c.decreases in
    let falls : 2 * size c.in-Some.attribute.now + 0 < t = omega (arith, within, whole) in
    λ κs h. (falls, h)
