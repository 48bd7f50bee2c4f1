-- SPDX-License-Identifier: Apache-2.0
use Rattle.std.proofs.Common.{sym, ◌∙◌}
use Rattle.cedar_closure.proofs.Naming.{FiltersSome-some, FiltersSome-none}
use Rattle.cedar_closure.proofs.key_graph.row_of_node.Goals as goal

pub loop-edge-preserved-in-Continue-1 : goal.loop-edge-preserved-in-Continue-1
loop-edge-preserved-in-Continue-1 g c = FiltersSome-some c.in-Some-place_near.at c.loop-edge.invariant c.in-Some.ensures.steps (sym c.place_near.ensures ∙ c.in-Some-place_near.is) c.in_ok-push.ensures.ok

pub loop-edge-preserved : goal.loop-edge-preserved
loop-edge-preserved g c = FiltersSome-none c.loop-edge.invariant c.in-Some.ensures.steps (sym c.place_near.ensures ∙ c.in_default.is)
