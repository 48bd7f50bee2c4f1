-- SPDX-License-Identifier: Apache-2.0
use Rattle.std.proofs.Common.{◌≡◌}
use Rattle.cedar_declared.specs.Gathering.{with_entity_types}
use Rattle.cedar_declared.proofs.gathered.insert_entity_types.Given as goal

-- what those that are left add now is what all add
abbrev pub invariant-loop-ty : goal.invariant-loop-ty
invariant-loop-ty g l = with_entity_types l.names l.ty-iterator ≡ with_entity_types l.fn.names l.fn.types
