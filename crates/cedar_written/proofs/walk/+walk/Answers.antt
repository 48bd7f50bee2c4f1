-- SPDX-License-Identifier: Apache-2.0
use Rattle.std.proofs.Common.{◌≡◌, ◌≤◌, ◌<◌, ◌+◌, ◌*◌, refl, ◌∙◌, arith}
use Rattle.std.specs.Cmp.Lexicographic.{slice_cmp}
use Rattle.std.specs.Ordering.{nat_cmp}
use Rattle.std.specs.Map.{values_of}
use denote.Param.Weighed.{most}
use Rattle.cedar_written.proofs.Depths.{value_within}
use Rattle.cedar_written.proofs.Goes.{Goes-sorted, Goes-next, Goes-start}
use Rattle.cedar_written.proofs.ty.TypeOfAttribute.TheLaws.{the_size as size_of}
use Rattle.cedar_written.proofs.walk.+walk.Goals as goal

pub walk_attributes-push_last-requires : goal.walk_attributes-push_last-requires
walk_attributes-push_last-requires g t c =
    Goes-sorted (slice_cmp nat_cmp) c.loop-name.invariant c.in-Some.ensures.steps refl c.into_entries-name-items.ensures.ordered

pub walk_attributes-loop-name-preserved : goal.walk_attributes-loop-name-preserved
walk_attributes-loop-name-preserved g t c =
    Goes-next c.loop-name.invariant c.in-Some.ensures.steps refl c.in_ok-attribute.ensures c.in_ok-push_last.ensures.ok

pub walk_attributes-walk_attribute-requires : goal.walk_attributes-walk_attribute-requires
walk_attributes-walk_attribute-requires g t c =
    let size = size_of g.row.N g.N.laws in
    let within : size c.in-Some.attribute ≤ most size (values_of c.args.attributes) = value_within size c.loop-name.invariant.done c.loop-name.invariant.split c.in-Some.ensures.steps in
    let whole : 2 * most size (values_of c.args.attributes) + 1 ≡ t = c.decreases in
    let falls : 2 * size c.in-Some.attribute + 0 < t = omega (arith, within, whole) in
    λ κs h. (falls, (h.0, (h.1.0, (h.1.1.0, h.1.1.1))))

pub walk_attributes-loop-name-init : goal.walk_attributes-loop-name-init
walk_attributes-loop-name-init g t c =
    Goes-start _ c.args.attributes c.into_iter-name-iterator.result c.in_ok-made.made (c.into_iter-name-iterator.ensures.into_iter_gives ∙ c.into_entries-name-items.ensures.rest) c.in_ok-made.ensures
