-- SPDX-License-Identifier: Apache-2.0
use Rattle.std.proofs.Common.{◌≡◌}
use Rattle.cedar_names.specs.of_text.Lists.{elements_left}
use Rattle.cedar_schema_error.specs.NameTexts.{final, last_possibility}
use Rattle.cedar_schema_error.proofs.shown.last_possibility.Given as goal

-- the last of this one and those that are left is the last of all
abbrev pub invariant-loop-next : goal.invariant-loop-next
invariant-loop-next l = final l.last (elements_left l.next-iterator) ≡ last_possibility l.fn.name
