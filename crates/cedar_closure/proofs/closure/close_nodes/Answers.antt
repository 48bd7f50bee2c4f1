-- SPDX-License-Identifier: Apache-2.0
use Rattle.std.proofs.Common.{◌≡◌, ⊎_elim, ap, refl, sym, ◌∙◌, subst, length}
use Rattle.std.proofs.lemmas.Bool.{both_ways}
use Rattle.cedar_closure.specs.Marks.{LeadWithin}
use Rattle.cedar_closure.proofs.KeyChains.{length-rows, rows-within}
use Rattle.cedar_closure.proofs.Closings.{Closing-start, Closing-ascends, Closing-begun, Closing-own, Closing-earlier, Closing-last, Closing-next, Closing-cycle, Closing-end}
use Rattle.cedar_closure.proofs.closure.close_nodes.Goals as goal

pub loop-key-init : goal.loop-key-init
loop-key-init g c = Closing-start g.met.K.Ord.total c.args.nodes c.args.keys.now c.args.enforce_dag c.into_iter-key-iterator.result c.args.marks.now c.in_ok-closed.closed (c.into_iter-key-iterator.ensures.into_iter_gives ∙ c.into_entries-key-items.ensures.rest) c.in_ok-closed.ensures c.requires.no_marks

pub close_any_edges-requires : goal.close_any_edges-requires
close_any_edges-requires g c =
    let rows = c.args.rows.now in
    let keys = c.args.keys.now in
    let as_many : length rows ≡ length keys = ap length c.requires.rows ∙ length-rows g.met.K.Ord.total g.V.TcNode.edges c.args.nodes keys c.requires.keys in
    record {
      ordered = c.requires.keys.ordered;
      within = subst LeadWithin (sym c.requires.rows) (rows-within g.met.K.Ord.total g.V.TcNode.edges c.args.nodes keys c.requires.keys);
      one_each = (as_many, c.loop-key.invariant.as_long ∙ sym as_many);
      ascends = Closing-ascends g.met.K.Ord.total c.args.nodes keys c.requires.keys c.in-Some.key c.in-Some.node c.loop-key.invariant c.in-Some.ensures.steps;
      own_row = Closing-own g.met.K.Ord.total c.args.nodes keys c.requires.keys c.in-Some.key c.in-Some.node c.into_entries-key-items.ensures.ordered c.loop-key.invariant c.in-Some.ensures.steps rows c.requires.rows;
      begun = Closing-begun g.met.K.Ord.total c.args.nodes keys c.requires.keys c.in-Some.key c.in-Some.node c.into_entries-key-items.ensures.ordered c.loop-key.invariant c.in-Some.ensures.steps rows c.requires.rows;
      earlier = Closing-earlier g.met.K.Ord.total c.args.nodes keys c.requires.keys c.in-Some.key c.in-Some.node c.loop-key.invariant c.in-Some.ensures.steps;
    }

pub push_last-requires : goal.push_last-requires
push_last-requires g c = Closing-last g.met.K.Ord.total c.args.nodes c.args.keys.now c.requires.keys c.in-Some.key c.in-Some.node c.into_entries-key-items.ensures.ordered c.loop-key.invariant c.in-Some.ensures.steps

pub loop-key-preserved : goal.loop-key-preserved
loop-key-preserved g c =
    let closed = c.in_ok-returns.ensures in
    Closing-next g.met.K.Ord.total c.args.nodes c.args.keys.now c.requires.keys c.in-Some.key c.in-Some.node c.into_entries-key-items.ensures.ordered c.loop-key.invariant c.in-Some.ensures.steps c.args.rows.now c.requires.rows
    c.close_any_edges.new.node c.in_ok-returns.returns closed.leads closed.ascends closed.same_key closed.same_rest closed.returns
    (λ e r. ⊎_elim (λ x. both_ways c.args.enforce_dag x.1 e) (λ x. both_ways c.in_ok-returns.returns x r) c.else-returns.either)
    (c.close_any_edges.auto.marks ∙ c.loop-key.invariant.as_long) closed.latest c.in_ok-push_last.ensures.ok

pub returns-then-enforce_dag-clause-refused : goal.returns-then-enforce_dag-clause-refused
returns-then-enforce_dag-clause-refused g c = (
  c.if-enforce_dag.true,
  (
    c.in-Some.key,
    refl,
    Closing-cycle g.met.K.Ord.total c.args.nodes c.args.keys.now c.requires.keys c.in-Some.key c.in-Some.node c.into_entries-key-items.ensures.ordered c.loop-key.invariant c.in-Some.ensures.steps c.args.rows.now c.requires.rows
        c.if-enforce_dag.true (c.in_ok-returns.ensures.returns.0 c.if-returns.true),
  ),
)

pub returns-clause-closed : goal.returns-clause-closed
returns-clause-closed g c = (Closing-end g.met.K.Ord.total c.args.nodes c.args.keys.now c.requires.keys c.loop-key.invariant c.in-None.ensures.steps.0).0

pub returns-clause-acyclic : goal.returns-clause-acyclic
returns-clause-acyclic g c = (Closing-end g.met.K.Ord.total c.args.nodes c.args.keys.now c.requires.keys c.loop-key.invariant c.in-None.ensures.steps.0).1
