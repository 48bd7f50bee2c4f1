-- SPDX-License-Identifier: Apache-2.0
use Rattle.cedar_declared.specs.Held.{names_of}
use Rattle.cedar_missing.proofs.Joins.{Joins}
use Rattle.cedar_missing.proofs.looked_at.MapHasReferences.missing.Given as goal

-- what was put together so far, with what those that are left miss, is what all miss
abbrev pub invariant-loop-value : goal.invariant-loop-value
invariant-loop-value g l = Joins (λ e. g.V.HasReferences.missing (names_of l.fn.all_defs) e.1) l.fn.self l.value-iterator l.all
