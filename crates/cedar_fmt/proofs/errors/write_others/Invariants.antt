-- SPDX-License-Identifier: Apache-2.0
use Rattle.std.proofs.Common.{take, ◌++◌, codes}
use Rattle.std.specs.Fmt.{HasWritten, IsPlainFormatter}
use Rattle.std.specs.List.{flat_map}
use Rattle.cedar_fmt.specs.Texts.{name_text}
use Rattle.cedar_fmt.proofs.errors.write_others.Given as goal

-- the ones so far are written, each after a comma
abbrev pub invariant-loop-other : goal.invariant-loop-other
invariant-loop-other g l =
    IsPlainFormatter l.initial.f → HasWritten g.W.Write.write_str_gives l.initial.f (flat_map (λ n. codes ", " ++ name_text n) (take l.other-index l.others)) l.f
