-- SPDX-License-Identifier: Apache-2.0
use Rattle.std.proofs.Common.{take}
use Rattle.std.specs.declared.result.Result.TheVariants.{Ok}
use Rattle.cedar_print.specs.Pieces.{comma, following, named}
use Rattle.cedar_print.proofs.Prints.{Shows}
use Rattle.cedar_print.proofs.lists.write_others.Given as goal

-- the items so far are written, each behind a comma
abbrev pub invariant-loop-other : goal.invariant-loop-other
invariant-loop-other g l =
    Shows g.W.Write.write_str_gives g.T.Display.output l.initial.f (Ok tt) (following comma named (take l.other-index l.others)) l.f
