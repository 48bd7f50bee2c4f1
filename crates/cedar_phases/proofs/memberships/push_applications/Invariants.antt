-- SPDX-License-Identifier: Apache-2.0
use Rattle.std.proofs.Common.{map, ◌++◌}
use Rattle.cedar_declared.specs.Held.{names_of}
use Rattle.cedar_names.specs.Components.{components}
use Rattle.cedar_phases.specs.NotDeclared.{other_targets}
use Rattle.cedar_phases.proofs.memberships.push_applications.Given as goal
use Rattle.cedar_hierarchy.proofs.of_outlines.Appended.{Appends}
use Rattle.cedar_hierarchy.specs.of_outlines.Outlines.{action_outline_in}

-- behind the names from before stand the targets of what the actions so far apply to
abbrev pub invariant-loop-outline : goal.invariant-loop-outline
invariant-loop-outline l = Appends (λ a. other_targets (names_of l.fn.all_defs) ((action_outline_in a).1.principals ++ (action_outline_in a).1.resources)) (map components l.fn.names.items) l.fn.actions l.outline-iterator (map components l.names.items)
