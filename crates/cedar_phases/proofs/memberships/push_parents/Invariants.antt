-- SPDX-License-Identifier: Apache-2.0
use Rattle.std.proofs.Common.{map}
use Rattle.cedar_declared.specs.Held.{names_of}
use Rattle.cedar_names.specs.Components.{components}
use Rattle.cedar_phases.specs.NotDeclared.{other_targets}
use Rattle.cedar_phases.proofs.memberships.push_parents.Given as goal
use Rattle.cedar_hierarchy.proofs.of_outlines.Appended.{Appends}
use Rattle.cedar_hierarchy.specs.of_outlines.Outlines.{entity_outline_in}

-- behind the names from before stand the targets of the parents so far
abbrev pub invariant-loop-outline : goal.invariant-loop-outline
invariant-loop-outline l = Appends (λ e. other_targets (names_of l.fn.all_defs) (entity_outline_in e).1.parents) (map components l.fn.names.items) l.fn.entity_types l.outline-iterator (map components l.names.items)
