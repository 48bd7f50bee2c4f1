-- SPDX-License-Identifier: Apache-2.0
use Rattle.std.specs.Option.{option_copied}
use Rattle.cedar_namespace_definitions.proofs.ActionParts.{action_whole}
use Rattle.cedar_namespace_definitions.proofs.actions.fragment_of.Goals as goal

pub returns : goal.returns
returns c =
    action_whole (option_copied c.args.step.now.namespace) c.args.attribute_types c.args.action c.in_ok-context.ensures.context c.in_ok-context.ensures.types c.in_ok-parents.ensures c.values_in.ensures
