-- SPDX-License-Identifier: Apache-2.0
use Rattle.std.proofs.Common.{◌≡◌}
use Rattle.cedar_declared.specs.Gathering.{with_common_types}
use Rattle.cedar_declared.proofs.gathered.insert_common_types.Given as goal

-- what those that are left add now is what all add
abbrev pub invariant-loop-name : goal.invariant-loop-name
invariant-loop-name g l = with_common_types l.names l.name-iterator ≡ with_common_types l.fn.names l.fn.types
