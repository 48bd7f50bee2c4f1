-- SPDX-License-Identifier: Apache-2.0
use Rattle.cedar_text.specs.Lists.{elements, elements_left}
use Rattle.cedar_compat.specs.Choices.{searched_check}
use Rattle.cedar_compat.proofs.Each.{PassesEach}
use Rattle.cedar_compat.proofs.kinds.check_each_choice.Given as goal

-- the old choices so far are there
abbrev pub invariant-loop-id : goal.invariant-loop-id
invariant-loop-id l = PassesEach (searched_check l.new) (elements l.old) (elements_left l.id-iterator)
