-- SPDX-License-Identifier: Apache-2.0
use Rattle.std.proofs.Common.{◌∙◌}
use Rattle.cedar_declared.proofs.Indexed.{Indexing-put}
use Rattle.cedar_declared.proofs.action_names.index_alone.Goals as goal

pub loop-action-preserved-in-Continue-branch-3 : goal.loop-action-preserved-in-Continue-branch-3
loop-action-preserved-in-Continue-branch-3 c =
    Indexing-put c.improves.result c.in_ok-copy.copy c.in_ok-id.id c.loop-action.invariant c.in-Some.ensures.steps c.improves.ensures c.if-improves.true c.in_ok-copy.ensures (c.in_ok-id.ensures ∙ c.eid.ensures) c.in_ok-put.ensures.puts
