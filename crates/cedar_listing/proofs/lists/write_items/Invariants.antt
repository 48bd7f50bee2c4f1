-- SPDX-License-Identifier: Apache-2.0
use Rattle.std.proofs.Common.{codes}
use Rattle.cedar_streams.proofs.InLoop.{WritesJoined}
use Rattle.cedar_listing.proofs.lists.write_items.Given as goal

abbrev pub invariant-loop-item : goal.invariant-loop-item
invariant-loop-item g l = WritesJoined g.K.Sink.written g.K.Sink.faults l.initial.out l.out (codes ", ") g.X.Listed.text_of l.fn.items l.separator l.item-iterator
