-- SPDX-License-Identifier: Apache-2.0
use Rattle.std.proofs.Common.{refl}
use Rattle.cedar_names.proofs.of_data.Rebuild.{sorted_next}
use Rattle.cedar_closure.proofs.closure.btree_of_map.Goals as goal

pub append_entry-requires : goal.append_entry-requires
append_entry-requires g c =
    sorted_next g.K.Ord.cmp c.loop-key.entries.entries
    c.loop-key.invariant c.in-Some.ensures.steps refl c.into_entries-key-items.ensures.ordered
