-- SPDX-License-Identifier: Apache-2.0
use Rattle.cedar_declared.proofs.Targeted.{reserved_undeclared}
use Rattle.cedar_declared.proofs.all_defs.AllDefs.declares_action.Goals as goal

pub returns-in-None : goal.returns-in-None
returns-in-None c = reserved_undeclared c.args.self.now c.args.id.now c.args.ty.now c.in_ok-uid.uid c.in_ok-uid.ensures c.in-None.is
