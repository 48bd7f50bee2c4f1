-- SPDX-License-Identifier: Apache-2.0
use Rattle.std.proofs.Common.{◌≡◌, [], arith}
use Rattle.std.proofs.lemmas.Grind.{common_steps}
use Rattle.std.specs.Vec.Iter.{into_iter_items}
use Rattle.cedar_merge.proofs.Holding.{Gathers-end}
use Rattle.cedar_merge.proofs.merging.add_fragments.Goals as goal

pub returns : goal.returns
returns c =
    let none : into_iter_items c.loop-fragment.fragment-iterator ≡ [] = grind (arith, common_steps) in
    Gathers-end c.args.fragments.items c.loop-fragment.invariant none
