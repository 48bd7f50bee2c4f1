-- SPDX-License-Identifier: Apache-2.0
use Rattle.cedar_outlines.specs.of_declared.Held.{names_of}
use Rattle.cedar_hierarchy.specs.Children.{has_parent}
use Rattle.cedar_hierarchy.proofs.ChildrenLemmas.{gathered_next}
use Rattle.cedar_hierarchy.proofs.gathered.gather.Goals as goal

pub loop-key-preserved : goal.loop-key-preserved
loop-key-preserved g c = λ parent child.
    gathered_next g.K.Ord.cmp (g.P.HasParents.is_parent (names_of c.args.all_defs.now)) c.loop-key.key-iterator c.next.new.self c.in-Some.key.now c.in-Some.outline.now c.in_ok-parents.parents
    c.loop-key.children c.link.new.children parent child (has_parent g.K.Ord.cmp (g.P.HasParents.is_parent (names_of c.args.all_defs.now)) c.args.outlines.now parent child)
    c.in-Some.ensures.steps (c.in_ok-parents.ensures parent) (c.in_ok-link.ensures parent child) (c.loop-key.invariant parent child)
