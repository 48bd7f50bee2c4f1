-- SPDX-License-Identifier: Apache-2.0
use Rattle.cedar_hierarchy.specs.Nodes.{IsEntityNode}
use Rattle.cedar_hierarchy.proofs.Aligned.{Aligned-push, next_in_order}
use Rattle.cedar_names.specs.Names.{entity_cmp}
use Rattle.cedar_hierarchy.proofs.entity_types.entity_nodes.Goals as goal

pub loop-name-preserved : goal.loop-name-preserved
loop-name-preserved c =
    Aligned-push (IsEntityNode c.args.children.now c.args.uses.now) c.args.outlines c.loop-name.name-iterator c.next.new.self c.loop-name.nodes c.push_last.new.self (c.in-Some.name, c.in-Some.outline) (c.in_ok-key.key, c.in_ok-key.ty)
    c.loop-name.invariant c.in-Some.ensures.steps c.in_ok-key.ensures c.in_ok-push_last.ensures.ok

pub push_last-requires : goal.push_last-requires
push_last-requires c =
    next_in_order entity_cmp (IsEntityNode c.args.children.now c.args.uses.now) (λ w e n. n.described.key) (c.in_ok-key.key, c.in_ok-key.ty)
    c.loop-name.invariant c.in-Some.ensures.steps c.in_ok-key.ensures c.into_entries-name-items.ensures.ordered
