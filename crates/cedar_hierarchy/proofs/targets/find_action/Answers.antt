-- SPDX-License-Identifier: Apache-2.0
use Rattle.std.proofs.Common.{ap, ◌∙◌}
use Rattle.cedar_outlines.specs.of_declared.Held.{names_of}
use Rattle.cedar_text.specs.Lists.{elements_left}
use Rattle.cedar_hierarchy.proofs.Meant.{all_left}
use Rattle.cedar_hierarchy.proofs.targets.find_action.Goals as goal

pub loop-possibility-init : goal.loop-possibility-init
loop-possibility-init c =
    all_left (names_of c.args.all_defs.now) c.args.parent.now c.ty.result.now (elements_left c.into_iter-possibility-iterator.result) c.ty.ensures (ap elements_left c.into_iter-possibility-iterator.ensures.into_iter_gives ∙ c.possibilities-possibility-items.ensures)
