-- SPDX-License-Identifier: Apache-2.0
use Rattle.std.proofs.Common.{ap}
use Rattle.cedar_outlines.specs.of_declared.Held.{names_of}
use Rattle.cedar_hierarchy.proofs.Answering.{through_ok, through_refused}
use Rattle.cedar_hierarchy.proofs.CycleKept.{cycle_kept}
use Rattle.cedar_hierarchy.proofs.HierarchiesMade.{actions_acyclic, actions_made, least_action}
use Rattle.cedar_schema_error.specs.FullNames.{uid_in}
use Rattle.cedar_schema_error.specs.Told.{told}
use Rattle.cedar_hierarchy.proofs.actions.resolved_actions.Goals as goal

pub returns-clause-made : goal.returns-clause-made
returns-clause-made c =
    through_ok _ _
    (actions_made (names_of c.args.all_defs.now) c.args.uses.now c.args.outlines c.in_ok-children.children c.in_ok-nodes.nodes c.in_ok-children.ensures.ordered c.in_ok-children.ensures.gathered c.in_ok-nodes.ensures)
    c.close_actions.result c.close_actions.ensures.closed

pub returns-clause-acyclic : goal.returns-clause-acyclic
returns-clause-acyclic c =
    through_ok _ _
    (λ _. actions_acyclic (names_of c.args.all_defs.now) c.args.uses.now c.args.outlines c.in_ok-children.children c.in_ok-nodes.nodes c.in_ok-children.ensures.ordered c.in_ok-children.ensures.gathered c.in_ok-nodes.ensures)
    c.close_actions.result c.close_actions.ensures.acyclic

pub returns-clause-refused : goal.returns-clause-refused
returns-clause-refused c =
    through_refused _ _
    (λ e t. (
      uid_in t.vertex,
      ap told t.is,
      least_action (names_of c.args.all_defs.now) c.args.uses.now c.args.outlines c.in_ok-children.children c.in_ok-nodes.nodes c.in_ok-children.ensures.ordered c.in_ok-children.ensures.gathered c.in_ok-nodes.ensures t.vertex t.least,
    )) c.close_actions.result c.close_actions.ensures.refused

pub returns-clause-kept : goal.returns-clause-kept
returns-clause-kept c =
    through_refused _ _
    (cycle_kept (names_of c.args.all_defs.now) c.in_ok-children.children c.args.uses.now c.args.outlines c.in_ok-nodes.nodes c.in_ok-nodes.ensures)
    c.close_actions.result c.close_actions.ensures.refused
