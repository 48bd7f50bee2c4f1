-- SPDX-License-Identifier: Apache-2.0
use Rattle.std.proofs.Common.{sym, subst}
use Rattle.cedar_data.specs.Maps.{IsSortedMap}
use Rattle.cedar_data.proofs.Splitting.{IsSortedMap-take, IsSortedMap-drop}
use Rattle.cedar_data.proofs.run.Run.split_off.Goals as goal

pub invariant_of-result : goal.invariant_of-result
invariant_of-result g c =
    let cmp = g.K.Ord.cmp in
    subst (λ es. IsSortedMap cmp es) (sym c.in_ok-entries.ensures.tail) (IsSortedMap-drop cmp c.args.at c.self.inside.entries.items c.self.invariant)

pub invariant_of-self-2 : goal.invariant_of-self-2
invariant_of-self-2 g c =
    let cmp = g.K.Ord.cmp in
    subst (λ es. IsSortedMap cmp es) (sym c.in_ok-entries.ensures.items) (IsSortedMap-take cmp c.args.at c.self.inside.entries.items c.self.invariant)
