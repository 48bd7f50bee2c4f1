-- SPDX-License-Identifier: Apache-2.0
use Rattle.std.proofs.Common.{take}
use Rattle.std.specs.Fmt.{HasWritten, IsPlainFormatter}
use Rattle.cedar_names.proofs.JoinLemmas.{opened}
use Rattle.cedar_tree.proofs.path.PathDisplay.fmt.Given as goal

-- the identifiers so far are written, `::` behind each
abbrev pub invariant-loop-id : goal.invariant-loop-id
invariant-loop-id g l =
    IsPlainFormatter l.initial.f → HasWritten g.W.Write.write_str_gives l.initial.f (opened (take l.id-index l.id-items)) l.f
