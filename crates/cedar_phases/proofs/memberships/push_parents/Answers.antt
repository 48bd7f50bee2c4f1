-- SPDX-License-Identifier: Apache-2.0
use Rattle.std.proofs.Common.{map}
use Rattle.cedar_declared.specs.Held.{names_of}
use Rattle.cedar_names.specs.Components.{components}
use Rattle.cedar_phases.specs.NotDeclared.{other_targets}
use Rattle.cedar_phases.proofs.MembershipLists.{others_seen}
use Rattle.cedar_phases.proofs.memberships.push_parents.Goals as goal
use Rattle.cedar_hierarchy.proofs.of_outlines.Appended.{Appends-end}
use Rattle.cedar_hierarchy.specs.of_outlines.Outlines.{entity_outline_in}

pub returns : goal.returns
returns c = others_seen (names_of c.args.all_defs.now) (map components c.args.names.now.items) (map components c.loop-outline.names.items) entity_outline_in (λ e. e.1.parents) c.args.entity_types.now
    (Appends-end {f = λ e. other_targets (names_of c.args.all_defs.now) (entity_outline_in e).1.parents} c.loop-outline.invariant c.in-None.ensures.steps.0)
