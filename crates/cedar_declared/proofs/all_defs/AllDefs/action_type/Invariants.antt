-- SPDX-License-Identifier: Apache-2.0
use Rattle.std.proofs.Common.{◌≡◌}
use Rattle.std.specs.List.{find}
use Rattle.cedar_names.specs.of_text.Lists.{elements_left}
use Rattle.cedar_declared.specs.Held.{names_of}
use Rattle.cedar_declared.specs.Names.{is_action}
use Rattle.cedar_declared.specs.Targets.{action_at, found_action}
use Rattle.cedar_declared.proofs.all_defs.AllDefs.action_type.Given as goal

-- the first of those that are left is the first of all
abbrev pub invariant-loop-possibility : goal.invariant-loop-possibility
invariant-loop-possibility l =
    find (λ p. is_action (names_of l.fn.self) (action_at l.fn.id p)) (elements_left l.possibility-iterator) ≡ found_action (names_of l.fn.self) l.fn.id l.fn.ty
