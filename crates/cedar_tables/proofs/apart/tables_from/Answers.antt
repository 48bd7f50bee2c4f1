-- SPDX-License-Identifier: Apache-2.0
use Rattle.cedar_data.specs.Maps.{map_of}
use Rattle.cedar_declared.specs.Gathering.{action_cmp}
use Rattle.cedar_names.specs.Names.{entity_cmp}
use Rattle.cedar_tables.proofs.Ordered.{parts_ordered}
use Rattle.cedar_tables.proofs.apart.tables_from.Goals as goal

pub joined-requires : goal.joined-requires
joined-requires c =
    parts_ordered (map_of entity_cmp c.args.declared.entity_types.items) (map_of action_cmp c.args.declared.actions.items)
    c.in_ok-entities.ensures.shapes c.in_ok-entities.ensures.tags c.in_ok-actions.ensures.contexts c.in_ok-entities.ensures.ordered c.in_ok-actions.ensures.ordered
