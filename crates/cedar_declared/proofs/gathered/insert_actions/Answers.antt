-- SPDX-License-Identifier: Apache-2.0
use Rattle.std.proofs.Common.{sym, ap, ◌∙◌}
use Rattle.std.specs.BTreeSet.{insert_key}
use Rattle.cedar_declared.specs.Gathering.{action_cmp, with_actions}
use Rattle.cedar_declared.proofs.gathered.insert_actions.Goals as goal

pub loop-uid-preserved : goal.loop-uid-preserved
loop-uid-preserved g c =
    ap (λ t. with_actions t c.next.new.self) (c.in_ok-insert.ensures.ok ∙ ap (insert_key action_cmp c.loop-uid.actions) c.in_ok-action.ensures)
    ∙ sym (ap (with_actions c.loop-uid.actions) c.in-Some.ensures.steps) ∙ c.loop-uid.invariant
