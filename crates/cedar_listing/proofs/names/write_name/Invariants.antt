-- SPDX-License-Identifier: Apache-2.0
use Rattle.std.proofs.Common.{codes, [], ◌∷◌, ◌++◌}
use Rattle.cedar_names.specs.Components.{namespace_of, basename_of}
use Rattle.cedar_names.specs.Identifiers.{id_word, ids_left}
use Rattle.cedar_streams.proofs.InLoop.{WritesJoined}
use Rattle.cedar_listing.proofs.names.write_name.Given as goal

abbrev pub invariant-loop-id : goal.invariant-loop-id
invariant-loop-id g l = record {
  can_next : (goal.iterator-loop-id g).can_next l.id-iterator;
  is_finite : (goal.iterator-loop-id g).is_finite l.id-iterator;
  written : WritesJoined g.K.Sink.written g.K.Sink.faults l.initial.out l.out (codes "::") id_word (namespace_of l.name ++ basename_of l.name ∷ []) l.separator (ids_left l.id-iterator);
}
