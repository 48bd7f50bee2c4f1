-- SPDX-License-Identifier: Apache-2.0
use Rattle.cedar_text.specs.Lists.{elements}
use Rattle.cedar_tree.specs.Meanings.{action_tree}
use Rattle.cedar_convert_faults.specs.Repeats.{words_of}
use Rattle.cedar_convert_fragment.specs.Declares.{action_content}
use Rattle.cedar_convert_declarations.proofs.KindViews.{actions-each}
use Rattle.cedar_convert_declarations.proofs.kinds.add_actions.Goals as goal

pub returns : goal.returns
returns c =
    let made = c.in_ok-names in
    actions-each (elements made.names) made.action c.args.annotations c.args.loc c.args.made.now.items c.put_each.new.made.items
    (words_of (action_tree c.args.action).names) (action_content (action_tree c.args.action))
    c.in_ok-put_each.ensures made.ensures.names made.ensures.action
