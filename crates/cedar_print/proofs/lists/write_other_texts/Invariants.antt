-- SPDX-License-Identifier: Apache-2.0
use Rattle.std.proofs.Common.{take}
use Rattle.std.specs.declared.result.Result.TheVariants.{Ok}
use Rattle.cedar_print.specs.Annotations.{nameless}
use Rattle.cedar_print.specs.Pieces.{comma, following, quoted_alone}
use Rattle.cedar_print.proofs.Prints.{Shows}
use Rattle.cedar_print.proofs.lists.write_other_texts.Given as goal

-- the texts so far are written, each behind a comma
abbrev pub invariant-loop-text : goal.invariant-loop-text
invariant-loop-text g l =
    Shows g.W.Write.write_str_gives nameless l.initial.f (Ok tt) (following comma quoted_alone (take l.text-index l.texts)) l.f
