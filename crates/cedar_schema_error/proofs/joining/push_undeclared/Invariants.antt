-- SPDX-License-Identifier: Apache-2.0
use Rattle.std.proofs.Common.{◌≡◌, ◌++◌}
use Rattle.cedar_names.specs.of_text.Lists.{elements_left}
use Rattle.cedar_schema_error.specs.Joining.{actions_of}
use Rattle.cedar_schema_error.proofs.joining.push_undeclared.Given as goal

-- those so far, and those that are left, are the ones before and those of the error
abbrev pub invariant-loop-uid : goal.invariant-loop-uid
invariant-loop-uid l = l.actions.items ++ elements_left l.uid-iterator ≡ l.fn.actions.items ++ actions_of l.fn.error
