-- SPDX-License-Identifier: Apache-2.0
use Rattle.cedar_names.proofs.AnnotationTexts.{HasLines}
use Rattle.cedar_names.proofs.annotation.AnnotationsDisplay.fmt.Given as goal

-- the annotations so far are written
abbrev pub invariant-loop-key : goal.invariant-loop-key
invariant-loop-key g l = HasLines g.W.Write.write_str_gives l.self.map l.key-iterator l.initial.f l.f
