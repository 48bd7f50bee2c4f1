-- SPDX-License-Identifier: Apache-2.0
use Rattle.cedar_merge_laws.proofs.Loops.{fragment_seen_in_order}
use Rattle.cedar_merge_laws.proofs.ordering.fragment_in_order.Goals as goal

pub returns : goal.returns
returns c = fragment_seen_in_order c.args.fragment.now c.fragment_in_order.ensures
