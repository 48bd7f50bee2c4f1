-- SPDX-License-Identifier: Apache-2.0
use Rattle.cedar_outlines.specs.of_declared.Held.{names_of}
use Rattle.cedar_hierarchy.specs.Nodes.{IsActionNode}
use Rattle.cedar_hierarchy.proofs.Aligned.{Aligned-push, next_in_order}
use Rattle.cedar_resolved.specs.Schemas.{uid_cmp}
use Rattle.cedar_hierarchy.proofs.actions.action_nodes.Goals as goal

pub loop-uid-preserved : goal.loop-uid-preserved
loop-uid-preserved c =
    Aligned-push (IsActionNode (names_of c.args.all_defs.now) c.args.children.now c.args.uses.now) c.args.outlines c.loop-uid.uid-iterator c.next.new.self c.loop-uid.nodes c.push_last.new.self
    (c.in-Some.uid, c.in-Some.outline) (c.in_ok-key.key, c.in_ok-key.action) c.loop-uid.invariant c.in-Some.ensures.steps c.in_ok-key.ensures c.in_ok-push_last.ensures.ok

pub push_last-requires : goal.push_last-requires
push_last-requires c =
    next_in_order uid_cmp (IsActionNode (names_of c.args.all_defs.now) c.args.children.now c.args.uses.now) (λ w e n. n.described.key) (c.in_ok-key.key, c.in_ok-key.action)
    c.loop-uid.invariant c.in-Some.ensures.steps c.in_ok-key.ensures c.into_entries-uid-items.ensures.ordered
