-- SPDX-License-Identifier: Apache-2.0
use Rattle.cedar_text.specs.Lists.{elements, elements_left}
use Rattle.cedar_compat.proofs.Choices.{HasChoices}
use Rattle.cedar_compat.proofs.kinds.choices_in_order.Given as goal

-- the choices so far are in the set
abbrev pub invariant-loop-id : goal.invariant-loop-id
invariant-loop-id l = HasChoices (elements l.choices) (elements_left l.id-iterator) l.ids
