-- SPDX-License-Identifier: Apache-2.0
use Rattle.std.proofs.Common.{rules}
use Rattle.std.specs.Option.{option_copied}
use Rattle.cedar_schema_error.specs.Told.{told}
use Rattle.cedar_namespace_definitions.proofs.ActionLoops.{Actions-end, Actions-next}
use Rattle.cedar_namespace_definitions.proofs.Faultless.{Faultless-next, Faultless-refuses}
use Rattle.cedar_namespace_definitions.proofs.actions.actions_in.Goals as goal

pub loop-id-preserved : goal.loop-id-preserved
loop-id-preserved c = (
  Faultless-next (c.in-Some.id, c.in-Some.action) c.loop-id.invariant.0 c.in-Some.ensures.steps c.in_ok-declare_action.ensures.ok,
  Actions-next (option_copied c.args.step.now.namespace) (c.in-Some.id, c.in-Some.action) c.loop-id.invariant.1 c.in-Some.ensures.steps c.in_ok-declare_action.ensures.puts,
)

pub returns-in_err-declare_action-clause-refused : goal.returns-in_err-declare_action-clause-refused
returns-in_err-declare_action-clause-refused c =
    Faultless-refuses (c.in-Some.id, c.in-Some.action) told c.from_residual-in_err-declare_action.result c.loop-id.invariant.0 c.in-Some.ensures.steps (search rules)

pub returns-clause-made : goal.returns-clause-made
returns-clause-made c = Actions-end (option_copied c.args.step.now.namespace) c.loop-id.invariant.1 (search rules) (search rules)
