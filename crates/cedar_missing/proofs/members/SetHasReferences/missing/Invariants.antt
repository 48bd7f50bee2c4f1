-- SPDX-License-Identifier: Apache-2.0
use Rattle.cedar_declared.specs.Held.{names_of}
use Rattle.cedar_missing.proofs.Joins.{Joins}
use Rattle.cedar_missing.proofs.members.SetHasReferences.missing.Given as goal

-- what was put together so far, with what those that are left miss, is what all miss
abbrev pub invariant-loop-key : goal.invariant-loop-key
invariant-loop-key g l = Joins (g.K.HasReferences.missing (names_of l.fn.all_defs)) l.fn.self l.key-iterator l.all
