-- SPDX-License-Identifier: Apache-2.0
use Rattle.cedar_text.proofs.Members.{seen_map}
use Rattle.cedar_text.proofs.collecting.collect_map.Goals as goal

pub returns-clause-made : goal.returns-clause-made
returns-clause-made g c =
    seen_map g.K.Ord.cmp g.M.Convert.order g.M.Convert.name g.M.Convert.content c.requires.in_order
    c.in_ok-made.made c.in_ok-pairs.pairs.items _ c.in_ok-made.ensures.made c.in_ok-pairs.ensures.made
