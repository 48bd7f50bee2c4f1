-- SPDX-License-Identifier: Apache-2.0
use Rattle.cedar_missing.specs.of_declared.Held.{names_of}
use Rattle.cedar_written.specs.References.{references}
use Rattle.cedar_undeclared.proofs.Gathers.{Gathers}
use Rattle.cedar_undeclared.proofs.gather.gather_in_types.Given as goal

-- what the types that are left add now is what all add
abbrev pub invariant-loop-ty : goal.invariant-loop-ty
invariant-loop-ty g l = Gathers (names_of l.fn.all_defs) references l.fn.types l.ty-iterator l.fn.names l.names
