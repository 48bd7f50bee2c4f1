-- SPDX-License-Identifier: Apache-2.0
use Rattle.std.proofs.Common.{map, ◌++◌}
use Rattle.cedar_declared.specs.Held.{names_of}
use Rattle.cedar_names.specs.Components.{components}
use Rattle.cedar_phases.specs.NotDeclared.{other_targets}
use Rattle.cedar_phases.proofs.MembershipLists.{others_seen}
use Rattle.cedar_phases.proofs.memberships.push_applications.Goals as goal
use Rattle.cedar_hierarchy.proofs.of_outlines.Appended.{Appends-end}
use Rattle.cedar_hierarchy.specs.of_outlines.Outlines.{action_outline_in}

pub returns : goal.returns
returns c = others_seen (names_of c.args.all_defs.now) (map components c.args.names.now.items) (map components c.loop-outline.names.items) action_outline_in (λ a. a.1.principals ++ a.1.resources) c.args.actions.now
    (Appends-end {f = λ a. other_targets (names_of c.args.all_defs.now) ((action_outline_in a).1.principals ++ (action_outline_in a).1.resources)} c.loop-outline.invariant c.in-None.ensures.steps.0)
