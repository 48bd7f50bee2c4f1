-- SPDX-License-Identifier: Apache-2.0
use Rattle.std.specs.Option.{option_copied}
use Rattle.cedar_namespace_definitions.proofs.Loops.{CommonTypes}
use Rattle.cedar_namespace_definitions.proofs.common_types.common_types_in.Given as goal

-- the common types so far are defined
abbrev pub invariant-loop-id : goal.invariant-loop-id
invariant-loop-id l = CommonTypes (option_copied l.fn.step.namespace) l.fn.common_types l.id-iterator l.defs
