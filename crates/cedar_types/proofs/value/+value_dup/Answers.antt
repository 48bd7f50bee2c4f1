-- SPDX-License-Identifier: Apache-2.0
use Rattle.std.specs.Cmp.Lexicographic.{slice_cmp}
use Rattle.std.specs.Ordering.{nat_cmp}
use Rattle.cedar_closure.proofs.of_data.Rebuild.{sorted_next}
use Rattle.cedar_types.proofs.value.+value_dup.Goals as goal

pub dup_members-push_last-requires : goal.dup_members-push_last-requires
dup_members-push_last-requires t c =
    sorted_next (slice_cmp nat_cmp) c.loop-name.copies c.loop-name.invariant c.in-Some.ensures.steps c.in_ok-name.ensures c.iter-name-items.ensures.ordered
