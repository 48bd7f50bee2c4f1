-- SPDX-License-Identifier: Apache-2.0
use Rattle.cedar_resolved.proofs.NotedLemmas.{notes_next}
use Rattle.cedar_resolved.proofs.action_ancestors.note_action.Goals as goal
use Rattle.cedar_resolved.specs.Schemas.{action_descendants}

pub loop-descendant-preserved : goal.loop-descendant-preserved
loop-descendant-preserved c =
    notes_next c.args.name.now (action_descendants c.args.action.now) c.loop-descendant.descendant-iterator c.next.new.self
    c.in-Some.descendant.now c.in_ok-descendant.descendant c.in_ok-name.name
    c.args.noted.now.entries c.loop-descendant.noted.entries c.note_ancestor.new.noted.entries
    c.in-Some.ensures.steps c.in_ok-descendant.ensures c.in_ok-name.ensures c.in_ok-note_ancestor.ensures c.loop-descendant.invariant
