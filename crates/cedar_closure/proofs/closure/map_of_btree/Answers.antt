-- SPDX-License-Identifier: Apache-2.0
use Rattle.std.proofs.Common.{refl}
use Rattle.cedar_names.proofs.of_data.Rebuild.{sorted_next}
use Rattle.cedar_closure.proofs.closure.map_of_btree.Goals as goal

pub push_last-requires : goal.push_last-requires
push_last-requires g c =
    sorted_next g.K.Ord.cmp c.loop-key.map
    c.loop-key.invariant c.in-Some.ensures.steps refl c.into_iter-key-iterator.ensures.into_iter_gives.5
