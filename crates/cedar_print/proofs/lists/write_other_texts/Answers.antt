-- SPDX-License-Identifier: Apache-2.0
use Rattle.std.proofs.Common.{◌++◌}
use Rattle.cedar_print.specs.Annotations.{nameless}
use Rattle.cedar_print.specs.Pieces.{comma, quoted_alone}
use Rattle.cedar_print.proofs.Prints.{Shows-more}
use Rattle.cedar_print.proofs.lists.write_other_texts.Goals as goal

pub loop-text-preserved : goal.loop-text-preserved
loop-text-preserved g c =
    Shows-more g.W.Write.write_str_gives nameless (λ t. comma ++ quoted_alone t) c.args.texts.now c.loop-text.text-index c.text-item.result c.args.f.now c.loop-text.f c.write_other_text.new.f c.loop-text-test.true c.text-item.is c.loop-text.invariant c.in_ok-write_other_text.ensures
