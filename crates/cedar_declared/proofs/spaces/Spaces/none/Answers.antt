-- SPDX-License-Identifier: Apache-2.0
use Rattle.std.proofs.Common.{sym, subst}
use Rattle.std.specs.List.Sorted.{IsStrictlySortedBy}
use Rattle.cedar_data.specs.Maps.{IsSortedMap}
use Rattle.cedar_declared.specs.Basenames.{space_cmp}
use Rattle.cedar_declared.proofs.spaces.Spaces.none.Goals as goal

pub invariant_of-result : goal.invariant_of-result
unfolding IsStrictlySortedBy
invariant_of-result c = subst (λ es. IsSortedMap space_cmp es) (sym c.new.ensures.items) tt
