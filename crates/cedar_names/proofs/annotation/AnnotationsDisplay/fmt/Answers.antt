-- SPDX-License-Identifier: Apache-2.0
use Rattle.std.proofs.Common.{rules, refl}
use Rattle.cedar_names.proofs.AnnotationTexts.{HasLines-start, HasLines-next, HasLines-end}
use Rattle.cedar_names.proofs.annotation.AnnotationsDisplay.fmt.Goals as goal

pub loop-key-init : goal.loop-key-init
loop-key-init g c = HasLines-start g.W.Write.write_str_gives _ _ _ _ (search rules) refl

pub loop-key-preserved : goal.loop-key-preserved
loop-key-preserved g c =
    HasLines-next g.W.Write.write_str_gives c.loop-key.invariant c.in-Some.ensures.steps (λ plain. c.in_ok-write_annotation.ensures plain refl)

pub returns-clause-writes : goal.returns-clause-writes
returns-clause-writes g c = λ plain ok. HasLines-end g.W.Write.write_str_gives c.loop-key.invariant (search rules) plain
