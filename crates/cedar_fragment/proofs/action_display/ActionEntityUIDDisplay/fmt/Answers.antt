-- SPDX-License-Identifier: Apache-2.0
use Rattle.std.proofs.Common.{[], ◌∷◌}
use Rattle.std.specs.Prelude.{codes}
use Rattle.cedar_print.specs.Pieces.{mark, quoted}
use Rattle.cedar_print.proofs.Prints.{Shows-two}
use Rattle.cedar_fragment.specs.Printed.{print_uid_type}
use Rattle.cedar_fragment.proofs.action_display.ActionEntityUIDDisplay.fmt.Goals as goal

pub returns-clause-writes : goal.returns-clause-writes
returns-clause-writes g c =
    Shows-two g.W.Write.write_str_gives g.N.Display.output c.args.f.now c.write_uid_type.new.f c.write_uid_id.new.f c.write_uid_id.result
    (print_uid_type c.args.self.now.ty) (mark (codes "::") ∷ quoted c.args.self.now.id ∷ [])
    c.in_ok-write_uid_type.ensures c.write_uid_id.ensures
