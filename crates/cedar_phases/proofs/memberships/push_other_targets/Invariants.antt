-- SPDX-License-Identifier: Apache-2.0
use Rattle.std.proofs.Common.{◌∷◌, [], map}
use Rattle.cedar_declared.specs.Held.{names_of}
use Rattle.cedar_names.specs.Components.{components}
use Rattle.cedar_phases.specs.NotDeclared.{other_targets}
use Rattle.cedar_phases.proofs.memberships.push_other_targets.Given as goal
use Rattle.cedar_schema_error.specs.NameReferences.{reference_of}
use Rattle.cedar_hierarchy.proofs.of_outlines.Appended.{Appends}

-- behind the names from before stand the targets of the references so far
abbrev pub invariant-loop-reference : goal.invariant-loop-reference
invariant-loop-reference l = Appends (λ r. other_targets (names_of l.fn.all_defs) (reference_of r ∷ [])) (map components l.fn.names.items) l.fn.references l.reference-iterator (map components l.names.items)
