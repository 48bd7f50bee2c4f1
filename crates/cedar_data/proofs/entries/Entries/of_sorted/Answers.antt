-- SPDX-License-Identifier: Apache-2.0
use Rattle.std.proofs.Common.{◌≡◌, ◌∷◌, refl, rules}
use Rattle.std.specs.Vec.Iter.{into_iter_items}
use Rattle.cedar_data.proofs.Rebuild.{sorted_next}
use Rattle.cedar_data.proofs.entries.Entries.of_sorted.Goals as goal

pub push-requires : goal.push-requires
push-requires g c =
    let next : into_iter_items c.loop-key.key-iterator ≡ (c.in-Some.key, c.in-Some.value) ∷ into_iter_items c.next.new.self = search rules in
    sorted_next g.K.Ord.cmp c.loop-key.all c.loop-key.invariant next refl c.requires
