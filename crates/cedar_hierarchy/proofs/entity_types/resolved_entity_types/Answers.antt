-- SPDX-License-Identifier: Apache-2.0
use Rattle.cedar_outlines.specs.of_declared.Held.{names_of}
use Rattle.cedar_hierarchy.proofs.Answering.{through_ok}
use Rattle.cedar_hierarchy.proofs.HierarchiesMade.{entity_types_made}
use Rattle.cedar_hierarchy.proofs.entity_types.resolved_entity_types.Goals as goal

pub returns : goal.returns
returns c =
    through_ok _ _
    (λ closed closure. entity_types_made (names_of c.args.all_defs.now) c.args.uses.now c.args.outlines c.in_ok-children.children c.in_ok-nodes.nodes closed c.in_ok-children.ensures.ordered c.in_ok-children.ensures.gathered
    c.in_ok-nodes.ensures closure)
    c.close_entity_types.result c.close_entity_types.ensures
