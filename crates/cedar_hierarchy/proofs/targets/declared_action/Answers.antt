-- SPDX-License-Identifier: Apache-2.0
use Rattle.std.proofs.Common.{sym}
use Rattle.cedar_outlines.proofs.of_declared.Targeted.{reserved_undeclared}
use Rattle.cedar_hierarchy.proofs.targets.declared_action.Goals as goal

pub returns-in-None : goal.returns-in-None
returns-in-None c = sym (reserved_undeclared c.args.all_defs.now c.args.id.now c.args.ty.now c.in_ok-action_named.field-0 c.in_ok-action_named.ensures c.in-None.is)
