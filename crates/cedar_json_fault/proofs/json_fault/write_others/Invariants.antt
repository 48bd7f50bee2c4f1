-- SPDX-License-Identifier: Apache-2.0
use Rattle.std.proofs.Common.{take}
use Rattle.std.specs.Fmt.{HasWritten, IsPlainFormatter}
use Rattle.cedar_json_fault.specs.JsonTexts.{others_text}
use Rattle.cedar_json_fault.proofs.json_fault.write_others.Given as goal

-- the ones so far are written, each after a comma
abbrev pub invariant-loop-other : goal.invariant-loop-other
invariant-loop-other g l =
    IsPlainFormatter l.initial.f → HasWritten g.W.Write.write_str_gives l.initial.f (others_text (take l.other-index l.others)) l.f
