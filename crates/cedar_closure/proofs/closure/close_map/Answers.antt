-- SPDX-License-Identifier: Apache-2.0
use Rattle.cedar_closure.proofs.Closings.{closed_without_edges}
use Rattle.cedar_closure.proofs.closure.close_map.Goals as goal

pub returns-then-have_no_edges-clause-closed : goal.returns-then-have_no_edges-clause-closed
returns-then-have_no_edges-clause-closed g c = (closed_without_edges g.K.Ord.cmp g.V.TcNode.key g.V.TcNode.edges g.V.TcNode.rest c.args.nodes (c.have_no_edges.ensures c.if-have_no_edges.true)).0

pub returns-then-have_no_edges-clause-acyclic : goal.returns-then-have_no_edges-clause-acyclic
returns-then-have_no_edges-clause-acyclic g c = λ _. (closed_without_edges g.K.Ord.cmp g.V.TcNode.key g.V.TcNode.edges g.V.TcNode.rest c.args.nodes (c.have_no_edges.ensures c.if-have_no_edges.true)).1
