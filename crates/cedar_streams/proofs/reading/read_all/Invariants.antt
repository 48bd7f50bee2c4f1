-- SPDX-License-Identifier: Apache-2.0
use Rattle.std.proofs.Common.{◌≡◌, ◌<◌, ◌≤◌, ◌-◌, vec_len}
use Rattle.cedar_streams.specs.Bytes.{Gives}
use Rattle.cedar_streams.proofs.reading.read_all.Given as goal

-- the text so far is what the source gave, and there is room for the next piece
abbrev pub invariant-loop-text : goal.invariant-loop-text
invariant-loop-text g l = record {
  gives : Gives (g.S.Source.left l.initial.source) (g.S.Source.left l.source) l.text.items;
  within : vec_len l.text ≤ l.limit;
  room : 0 < vec_len l.piece;
  calm : g.S.Source.faults l.source ≡ g.S.Source.faults l.initial.source;
}

abbrev pub decreases-loop-text : goal.decreases-loop-text
decreases-loop-text g l = l.limit - vec_len l.text
