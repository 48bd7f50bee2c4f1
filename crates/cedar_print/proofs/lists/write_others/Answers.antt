-- SPDX-License-Identifier: Apache-2.0
use Rattle.std.proofs.Common.{◌++◌}
use Rattle.cedar_print.specs.Pieces.{comma, named}
use Rattle.cedar_print.proofs.Prints.{Shows-more}
use Rattle.cedar_print.proofs.lists.write_others.Goals as goal

pub loop-other-preserved : goal.loop-other-preserved
loop-other-preserved g c =
    Shows-more g.W.Write.write_str_gives g.T.Display.output (λ t. comma ++ named t) c.args.others.now c.loop-other.other-index c.other-item.result c.args.f.now c.loop-other.f c.write_other.new.f c.loop-other-test.true c.other-item.is c.loop-other.invariant c.in_ok-write_other.ensures
