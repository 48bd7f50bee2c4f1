-- SPDX-License-Identifier: Apache-2.0
use Rattle.std.proofs.Common.{sym, ◌∙◌}
use Rattle.cedar_convert_faults.proofs.Repeated.{Seen-next}
use Rattle.cedar_convert_faults.proofs.repeats.first_repeat.Goals as goal

pub loop-name-preserved : goal.loop-name-preserved
loop-name-preserved c =
    Seen-next c.in-Some.name.now c.in_ok-word.word c.in_ok-place.place c.loop-name.invariant c.in-Some.ensures.steps
    (sym c.in-None-2.is ∙ c.in_ok-insert.ensures.old) c.in_ok-word.ensures c.in_ok-place.ensures c.in_ok-insert.ensures.puts
