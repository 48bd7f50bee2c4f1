-- SPDX-License-Identifier: Apache-2.0
use Rattle.std.proofs.Common.{get_or, refl, sym, ap, ◌∙◌, subst}
use Rattle.std.proofs.lemmas.List.{take_more, take_all}
use Rattle.cedar_closure.proofs.Links.{Linked, Linked-start, Linked-next}
use Rattle.cedar_closure.proofs.closure.add_edges_to.Goals as goal

pub loop-at-init : goal.loop-at-init
loop-at-init g c = (Linked-start g.met.K.Ord.total c.args.keys.now (g.V.TcNode.edges c.args.node.now), c.requires.ascends, refl, refl)

pub loop-at-preserved : goal.loop-at-preserved
loop-at-preserved g c =
    let keys = c.args.keys.now in
    let found = c.args.found.now in
    let at = get_or found c.loop-at.at-index 0 in
    let inside = c.requires.within c.loop-at.at-index 0 c.loop-at-test.true in
    let key = c.in_ok-key.key in
    let new = g.V.TcNode.edges c.add_edge_to.new.self in
    let linked = Linked-next g.met.K.Ord.total at key c.requires.ordered c.loop-at.invariant.0 inside (c.in_ok-key.ensures ∙ c.index-keys-at.is ∙ ap (get_or keys at) (sym c.in_ok-key.ensures)) c.in_ok-add_edge_to.ensures.adds in (
      subst (λ seen. Linked g.K.Ord.cmp keys seen (g.V.TcNode.edges c.args.node.now) new) (sym (take_more found c.loop-at.at-index 0 c.loop-at-test.true)) linked,
      c.in_ok-add_edge_to.ensures.ordered,
      c.in_ok-add_edge_to.ensures.same_key ∙ c.loop-at.invariant.2,
      c.in_ok-add_edge_to.ensures.same_rest ∙ c.loop-at.invariant.3,
    )

pub returns : goal.returns
returns g c = record {
  leads = (subst (λ seen. Linked g.K.Ord.cmp c.args.keys.now seen (g.V.TcNode.edges c.args.node.now) (g.V.TcNode.edges c.loop-at.node)) (take_all c.loop-at.at-index c.args.found.now c.loop-at-test.false) c.loop-at.invariant.0).leads;
  ascends = c.loop-at.invariant.1;
  same_key = c.loop-at.invariant.2;
  same_rest = c.loop-at.invariant.3;
}
