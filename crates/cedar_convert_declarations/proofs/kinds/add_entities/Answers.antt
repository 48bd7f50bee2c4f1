-- SPDX-License-Identifier: Apache-2.0
use Rattle.cedar_tree.specs.Meanings.{entity_tree}
use Rattle.cedar_tree.specs.Trees.{Entity}
use Rattle.cedar_convert_faults.specs.Bindings.{entity_names}
use Rattle.cedar_convert_fragment.specs.Declares.{entity_content, free_names}
use Rattle.cedar_convert_declarations.proofs.KindViews.{entities-each}
use Rattle.cedar_convert_declarations.proofs.kinds.add_entities.Goals as goal

pub returns : goal.returns
returns c =
    let made = c.in_ok-ids in
    entities-each made.ids.items made.kind c.args.annotations c.args.loc c.args.made.now.items c.put_all.new.made.items
    (free_names (entity_names (Entity (entity_tree c.args.entity)))) (entity_content (entity_tree c.args.entity))
    c.in_ok-put_all.ensures made.ensures.names made.ensures.kind
