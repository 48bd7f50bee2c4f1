-- SPDX-License-Identifier: Apache-2.0
use Rattle.cedar_merge.proofs.Moves.{Moves-least, Moves-next}
use Rattle.cedar_merge.proofs.adding.add_entries.Goals as goal

pub loop-key-preserved : goal.loop-key-preserved
loop-key-preserved g c =
    Moves-next g.met.K.Word.by_word c.in-Some.key c.in-Some.value c.is_opposed-is_opposed.result c.loop-key.invariant c.in-Some.ensures.steps
    c.is_opposed-is_opposed.ensures c.in_ok-least.ensures c.in_ok-put.ensures.ok

pub returns-clause-least : goal.returns-clause-least
returns-clause-least g c = Moves-least c.loop-key.invariant c.in-None.ensures.steps.0
