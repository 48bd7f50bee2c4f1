-- SPDX-License-Identifier: Apache-2.0
use Rattle.cedar_merge.proofs.Moves.{Moves}
use Rattle.cedar_merge.proofs.adding.add_entries.Given as goal

-- the entries so far are moved
abbrev pub invariant-loop-key : goal.invariant-loop-key
invariant-loop-key g l = Moves g.K.Ord.cmp g.K.Word.word g.V.Stands.against l.initial.all l.fn.more l.key-iterator l.all l.least
