-- SPDX-License-Identifier: Apache-2.0
use Rattle.std.proofs.Common.{codes}
use Rattle.cedar_streams.proofs.InLoop.{WritesJoined}
use Rattle.cedar_text.specs.Lists.{elements, elements_left}
use Rattle.cedar_listing.specs.Listing.{quoted_text}
use Rattle.cedar_listing.proofs.kinds.write_ids.Given as goal

abbrev pub invariant-loop-id : goal.invariant-loop-id
invariant-loop-id g l = record {
  can_next : (goal.iterator-loop-id g).can_next l.id-iterator;
  is_finite : (goal.iterator-loop-id g).is_finite l.id-iterator;
  written : WritesJoined g.K.Sink.written g.K.Sink.faults l.initial.out l.out (codes ", ") quoted_text (elements l.ids) l.separator (elements_left l.id-iterator);
}
