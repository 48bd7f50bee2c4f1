-- SPDX-License-Identifier: Apache-2.0
use Rattle.std.proofs.Common.{map, ◌∷◌, []}
use Rattle.cedar_declared.specs.Held.{names_of}
use Rattle.cedar_names.specs.Components.{components}
use Rattle.cedar_phases.specs.NotDeclared.{other_targets}
use Rattle.cedar_phases.proofs.MembershipLists.{others_all}
use Rattle.cedar_phases.proofs.memberships.push_other_targets.Goals as goal
use Rattle.cedar_schema_error.specs.NameReferences.{reference_of}
use Rattle.cedar_hierarchy.proofs.of_outlines.Appended.{Appends-end}

pub returns : goal.returns
returns c = others_all (names_of c.args.all_defs.now) (map components c.args.names.now.items) (map components c.loop-reference.names.items) c.args.references.now
    (Appends-end {f = λ r. other_targets (names_of c.args.all_defs.now) (reference_of r ∷ [])} c.loop-reference.invariant c.in-None.ensures.steps.0)
