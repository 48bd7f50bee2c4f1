-- SPDX-License-Identifier: Apache-2.0
use Rattle.std.specs.Option.{option_copied}
use Rattle.cedar_namespace_definitions.specs.Orders.{conditional_cmp, parent_cmp}
use Rattle.cedar_namespace_definitions.proofs.ActionParts.{parent_next}
use Rattle.cedar_namespace_definitions.proofs.actions.parent_set.Goals as goal

pub loop-parent-preserved : goal.loop-parent-preserved
loop-parent-preserved c =
    parent_next (option_copied c.args.step.now.namespace) (parent_cmp conditional_cmp) c.loop-parent.set c.in-Some.parent c.in_ok-parent.parent c.loop-parent.invariant c.in-Some.ensures.steps.0 c.in_ok-parent.ensures c.in_ok-insert.ensures.ok
