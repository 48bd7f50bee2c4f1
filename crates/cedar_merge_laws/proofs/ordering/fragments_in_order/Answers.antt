-- SPDX-License-Identifier: Apache-2.0
use Rattle.cedar_merge_laws.proofs.Loops.{fragment-next}
use Rattle.cedar_merge_laws.proofs.ordering.fragments_in_order.Goals as goal

pub loop-fragment-preserved : goal.loop-fragment-preserved
loop-fragment-preserved c =
    fragment-next c.args.fragments.now c.loop-fragment.fragment-index c.fragment-item.result c.loop-fragment-test.true c.fragment-item.is c.loop-fragment.invariant c.fragment_in_order.ensures
