-- SPDX-License-Identifier: Apache-2.0
use Rattle.cedar_missing.specs.of_declared.Held.{names_of}
use Rattle.cedar_undeclared.proofs.UndeclaredSets.{undeclared_set}
use Rattle.cedar_undeclared.proofs.undeclared.undeclared_names.Goals as goal

pub returns : goal.returns
returns c =
    undeclared_set (names_of c.args.all_defs.now) c.args.common_types.now c.args.uses.now c.args.others.now _ _ _ _
    c.new-names.ensures c.in_ok-gather_in_types.ensures c.in_ok-gather_in_types-2.ensures c.in_ok-gather_names.ensures
