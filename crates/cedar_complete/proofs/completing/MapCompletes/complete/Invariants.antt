-- SPDX-License-Identifier: Apache-2.0
use Rattle.cedar_declared.specs.Held.{names_of}
use Rattle.cedar_complete.proofs.Contents.{Contents}
use Rattle.cedar_complete.proofs.completing.MapCompletes.complete.Given as goal

-- each value so far is completed
abbrev pub invariant-loop-key : goal.invariant-loop-key
invariant-loop-key g l = Contents g.V.Completes.content (g.V.Completes.completed (names_of l.fn.all_defs)) l.fn.self l.key-iterator l.made
