-- SPDX-License-Identifier: Apache-2.0
use Rattle.std.proofs.Common.{ap, ◌∙◌, arith}
use Rattle.std.proofs.lemmas.List.Sums.{sum_by-drop_more}
use Rattle.cedar_data.specs.Maps.{get}
use Rattle.cedar_names.specs.Components.{components}
use Rattle.cedar_names.specs.Order.{words_cmp}
use Rattle.cedar_unfold.specs.Full.{nodes_at}
use Rattle.cedar_unfold.specs.Tables.{by_name, tabled, found_type}
use Rattle.cedar_unfold.proofs.Filling.{Filling-start, Filling-next, Filling-end}
use Rattle.cedar_unfold.proofs.FillSteps.{names-in_order, key-is, key-defined, definition-is, nodes-here}
use Rattle.cedar_unfold.proofs.NameTables.{tabled-here, tabled-other}
use Rattle.cedar_unfold.proofs.fill.fill.Goals as goal

pub loop-at-init : goal.loop-at-init
loop-at-init g c =
    (λ is_extension faultless. Filling-start (by_name g.T.TypeNode.written c.args.defs.now) is_extension c.args.order.now (tabled c.in_ok-table.table) (λ name. ap (λ es. tabled es name) c.in_ok-table.ensures), omega arith)

pub unreachable-requires : goal.unreachable-requires
unreachable-requires g c =
    key-defined g.T.TypeNode.written c.args.defs.now c.args.keys.now c.requires.keys c.requires.order c.loop-at.at-index c.loop-at-test.true c.index-keys-at.result c.index-keys-at.is c.requires.sorted c.in_default.ensures

pub returns-in_err-found-clause-counts : goal.returns-in_err-found-clause-counts
returns-in_err-found-clause-counts g c =
    let w = g.T.TypeNode.written in
    let this = nodes-here w c.args.defs.now c.args.keys.now c.requires.keys c.requires.order c.loop-at.at-index c.loop-at-test.true c.index-keys-at.result c.index-keys-at.is c.requires.sorted c.in-Some.ty.now c.in-Some.ensures in
    let left = sum_by-drop_more (nodes_at (by_name w c.args.defs.now)) c.args.order.now c.loop-at.at-index 0 c.loop-at-test.true in
    omega (arith, left, this, c.loop-at.invariant.1, c.unfolded.ensures.counts)

pub returns-in_err-put-clause-counts : goal.returns-in_err-put-clause-counts
returns-in_err-put-clause-counts g c =
    let w = g.T.TypeNode.written in
    let this = nodes-here w c.args.defs.now c.args.keys.now c.requires.keys c.requires.order c.loop-at.at-index c.loop-at-test.true c.index-keys-at.result c.index-keys-at.is c.requires.sorted c.in-Some.ty.now c.in-Some.ensures in
    let left = sum_by-drop_more (nodes_at (by_name w c.args.defs.now)) c.args.order.now c.loop-at.at-index 0 c.loop-at-test.true in
    omega (arith, left, this, c.loop-at.invariant.1, c.unfolded.ensures.counts)

pub loop-at-preserved : goal.loop-at-preserved
loop-at-preserved g c =
    let w = g.T.TypeNode.written in
    let defs = c.args.defs.now in
    let key = c.index-keys-at.result in
    let named = key-is w defs c.args.keys.now c.requires.keys c.requires.order c.loop-at.at-index c.loop-at-test.true key c.index-keys-at.is in
    let defined = definition-is w defs c.args.keys.now c.requires.keys c.requires.order c.loop-at.at-index c.loop-at-test.true key c.index-keys-at.is c.requires.sorted c.in-Some.ty.now c.in-Some.ensures in
    let this = nodes-here w defs c.args.keys.now c.requires.keys c.requires.order c.loop-at.at-index c.loop-at-test.true key c.index-keys-at.is c.requires.sorted c.in-Some.ty.now c.in-Some.ensures in
    let left = sum_by-drop_more (nodes_at (by_name w defs)) c.args.order.now c.loop-at.at-index 0 c.loop-at-test.true in (
      λ is_extension faultless.
          Filling-next (by_name w defs) is_extension (names-in_order w defs c.args.keys.now c.requires.keys c.requires.sorted) c.requires.order faultless (c.loop-at.invariant.0 is_extension faultless) c.loop-at-test.true
          (components c.in_ok-copy.copy) (w c.in-Some.ty.now) (ap components c.in_ok-copy.ensures ∙ named) (ap (λ k. get words_cmp (by_name w defs) (components k)) c.in_ok-copy.ensures ∙ defined) (found_type c.in_ok-found.found) (tabled c.put.new.self)
          c.in_ok-found.ensures.is
          (tabled-here c.loop-at.table c.put.new.self c.in_ok-copy.copy c.in_ok-found.found c.in_ok-put.ensures.ok)
          (tabled-other c.loop-at.table c.put.new.self c.in_ok-copy.copy c.in_ok-found.found c.in_ok-put.ensures.ok),
      omega (arith, left, this, c.loop-at.invariant.1, c.unfolded.ensures.counts),
    )

pub returns-clause-full : goal.returns-clause-full
returns-clause-full g c = λ is_extension faultless.
    Filling-end (by_name g.T.TypeNode.written c.args.defs.now) is_extension (names-in_order g.T.TypeNode.written c.args.defs.now c.args.keys.now c.requires.keys c.requires.sorted) c.requires.order (c.loop-at.invariant.0 is_extension faultless) (omega arith)
