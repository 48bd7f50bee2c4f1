-- SPDX-License-Identifier: Apache-2.0
use Rattle.std.proofs.Common.{◌≡◌, [], All, sym, subst}
use Rattle.std.proofs.lemmas.List.Elements.{All-cons, All-nil}
use Rattle.cedar_closure.proofs.closure.have_no_edges.Goals as goal

pub loop-node-preserved : goal.loop-node-preserved
loop-node-preserved g c = λ later. c.loop-node.invariant
    (subst (All (λ entry. g.V.TcNode.edges entry.1 ≡ [])) (sym c.in-Some.ensures.steps) (All-cons (λ entry. g.V.TcNode.edges entry.1 ≡ []) _ _ (c.has_edge.ensures c.if-has_edge.false) later))

pub returns : goal.returns
returns g c = λ h. c.loop-node.invariant (subst (All (λ entry. g.V.TcNode.edges entry.1 ≡ [])) (sym c.in-None.ensures.steps.0) (All-nil (λ entry. g.V.TcNode.edges entry.1 ≡ [])))
