-- SPDX-License-Identifier: Apache-2.0
use Rattle.std.proofs.Common.{take, map}
use Rattle.std.specs.Fmt.{HasWritten, IsPlainFormatter}
use Rattle.cedar_schema_error.specs.ListTexts.{behind_commas}
use Rattle.cedar_schema_error.proofs.shown.write_behind_commas.Given as goal

-- the ones so far are written, each behind a comma
abbrev pub invariant-loop-other : goal.invariant-loop-other
invariant-loop-other g l =
    IsPlainFormatter l.initial.f → HasWritten g.W.Write.write_str_gives l.initial.f (behind_commas (map g.T.Shown.shown (take l.other-index l.others))) l.f
