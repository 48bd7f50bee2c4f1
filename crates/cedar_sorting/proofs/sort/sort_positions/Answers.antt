-- SPDX-License-Identifier: Apache-2.0
use Rattle.std.proofs.Common.{IfSome, subst}
use Rattle.cedar_sorting.specs.Orders.{IsOrder}
use Rattle.cedar_sorting.proofs.OrderLaws.{no_cycle}
use Rattle.cedar_sorting.proofs.sort.sort_positions.Goals as goal

pub returns-in-Some : goal.returns-in-Some
returns-in-Some c =
    let order = subst (λ o. IfSome o (λ order. IsOrder c.args.rows.now order.items)) c.in-Some.is c.in_ok-order.ensures.order in
    (order, no_cycle order)
