-- SPDX-License-Identifier: Apache-2.0
use Rattle.std.specs.Option.{option_copied}
use Rattle.cedar_namespace_definitions.specs.Faults.{action_faults}
use Rattle.cedar_namespace_definitions.proofs.ActionLoops.{Actions}
use Rattle.cedar_namespace_definitions.proofs.Faultless.{Faultless}
use Rattle.cedar_namespace_definitions.proofs.actions.actions_in.Given as goal

-- the actions so far have no faults, and are defined
abbrev pub invariant-loop-id : goal.invariant-loop-id
invariant-loop-id l =
    Faultless (action_faults (option_copied l.fn.step.namespace)) l.fn.actions l.id-iterator
    × Actions (option_copied l.fn.step.namespace) l.fn.actions l.id-iterator l.made
