-- SPDX-License-Identifier: Apache-2.0
use Rattle.std.proofs.Common.{◌≡◌, ◌++◌}
use Rattle.cedar_names.specs.of_text.Lists.{elements_left}
use Rattle.cedar_schema_error.specs.Joining.{types_of}
use Rattle.cedar_schema_error.proofs.joining.push_undefined.Given as goal

-- those so far, and those that are left, are the ones before and those of the error
abbrev pub invariant-loop-name : goal.invariant-loop-name
invariant-loop-name l = l.types.items ++ elements_left l.name-iterator ≡ l.fn.types.items ++ types_of l.fn.error
