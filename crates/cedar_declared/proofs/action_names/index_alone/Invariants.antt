-- SPDX-License-Identifier: Apache-2.0
use Rattle.cedar_declared.proofs.Indexed.{Indexing}
use Rattle.cedar_declared.proofs.action_names.index_alone.Given as goal

-- the index so far, with those that are left, gives that of all
abbrev pub invariant-loop-action : goal.invariant-loop-action
invariant-loop-action l = Indexing l.fn.actions l.action-iterator l.index
