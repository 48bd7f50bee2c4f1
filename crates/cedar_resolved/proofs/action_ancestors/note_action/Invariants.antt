-- SPDX-License-Identifier: Apache-2.0
use Rattle.cedar_resolved.proofs.NotedLemmas.{Notes}
use Rattle.cedar_resolved.proofs.action_ancestors.note_action.Given as goal
use Rattle.cedar_resolved.specs.Schemas.{action_descendants}

-- the action is noted of its first descendants
abbrev pub invariant-loop-descendant : goal.invariant-loop-descendant
invariant-loop-descendant l =
    Notes l.name (action_descendants l.action) l.descendant-iterator l.initial.noted.entries l.noted.entries
