-- SPDX-License-Identifier: Apache-2.0
use Rattle.std.proofs.Common.{◌≡◌, map}
use Rattle.std.specs.List.{find}
use Rattle.cedar_text.specs.Lists.{elements_left}
use Rattle.cedar_outlines.specs.of_declared.Held.{names_of}
use Rattle.cedar_outlines.specs.of_declared.Names.{action_target, is_action}
use Rattle.cedar_outlines.specs.of_declared.Targets.{action_at}
use Rattle.cedar_schema_error.specs.NameReferences.{action_reference_of}
use Rattle.cedar_hierarchy.proofs.targets.find_action.Given as goal

-- the first of those that are left is the first of all
abbrev pub invariant-loop-possibility : goal.invariant-loop-possibility
invariant-loop-possibility l =
    find (is_action (names_of l.fn.all_defs)) (map (action_at l.fn.parent.id) (elements_left l.possibility-iterator)) ≡ action_target (names_of l.fn.all_defs) (action_reference_of l.fn.parent)
