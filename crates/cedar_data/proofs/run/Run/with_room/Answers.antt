-- SPDX-License-Identifier: Apache-2.0
use Rattle.std.proofs.Common.{sym, subst}
use Rattle.std.specs.List.Sorted.{IsStrictlySortedBy}
use Rattle.cedar_data.specs.Maps.{IsSortedMap}
use Rattle.cedar_data.proofs.run.Run.with_room.Goals as goal

pub invariant_of-result : goal.invariant_of-result
unfolding IsStrictlySortedBy
invariant_of-result g c = subst (IsSortedMap g.K.Ord.cmp) (sym c.in_ok-entries.ensures.items) tt
