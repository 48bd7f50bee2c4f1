-- SPDX-License-Identifier: Apache-2.0
use Rattle.std.proofs.Common.{sym}
use Rattle.std.proofs.Output.{displays_on_ok_of_eq}
use Rattle.cedar_print.specs.Annotations.{nameless}
use Rattle.cedar_fragment.proofs.Printing.{head-text}
use Rattle.cedar_fragment.proofs.namespace_display.write_namespace_head.Goals as goal

pub returns : goal.returns
returns g c =
    displays_on_ok_of_eq g.W.Write.write_str_gives c.args.f.now c.write.new.self c.write.result _ _ (sym (head-text nameless c.args.path.now)) c.write.ensures.writes
